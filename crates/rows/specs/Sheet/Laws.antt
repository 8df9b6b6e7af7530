-- Laws of a sheet: what holds of a row without a fault; the row's number rises by at most one with a byte; one more byte of a text. Assumes nothing.
use Rattle.std.specs.Prelude.{ℕ, ◌+◌, ◌≤◌, ◌<◌, ◌≡◌, refl, Bool, true, false, cond, not, ◌&&◌, ◌||◌, List, [], ◌∷◌, ltb, leb, length, get_or, set, drop, Option, Some, None, is_some}
use Rattle.std.proofs.Common.{◌∙◌, arith, add-one, ltb-false, leb-false, length-set, drop-cons}
use Rattle.std.specs.Option.{option_or}
use Rattle.std.proofs.Math.Seq.{drop-length}
use Rattle.rows.specs.declared.Fault.{Fault}
use Rattle.rows.specs.declared.Fault.TheVariants.{MoreRows}
use Rattle.rows.specs.declared.Row.{Row}
use Rattle.rows.specs.declared.Sheet.{Sheet}
use Rattle.rows.specs.Cases.{by_test}
use Rattle.rows.specs.Row.{in_name, is_over, is_start, next, sort_of, fed}
use Rattle.rows.specs.Sheet.{row_fault, value_fault, reading, with_row, passed, refused, taken, ended, starts_listing, entered, eaten, kept, sheet_after, names_after}

-- ---- a row without a fault

pub record Sound (r : Row) : Type 0 where
  pub named : r.start < r.solid
  pub least : 100 ≤ reading r
  pub most : reading r ≤ 400
  pub some : 1 ≤ r.lots
  pub few : r.lots ≤ 16

pub no_fault : (f : Fault) → Some f ≡ None → ⊥
no_fault f e = cc

or_none : (a b : Option Fault) → option_or a b ≡ None → b ≡ None
or_none None b e = e
or_none (Some f) b e = absurd (no_fault f e)

neither : (a b : Bool) → (a || b) ≡ false → (a ≡ false) × (b ≡ false)
neither true b e = cc
neither false b e = (refl, e)

value_sound : (r : Row) → value_fault r ≡ None → Sound r
unfolding value_fault
value_sound r =
    let P : Option Fault → Type 0 = λ x. x ≡ None → Sound r in
    by_test P (leb r.solid r.start) (λ _ e. absurd (no_fault _ e)) (λ a.
    by_test P (ltb (reading r) 100) (λ _ e. absurd (no_fault _ e)) (λ b.
    by_test P (ltb 400 (reading r)) (λ _ e. absurd (no_fault _ e)) (λ c.
    by_test P (ltb r.lots 1 || ltb 16 r.lots) (λ _ e. absurd (no_fault _ e)) (λ d _.
    let f = neither (ltb r.lots 1) (ltb 16 r.lots) d in record
    { named = leb-false _ _ a; least = ltb-false _ _ b; most = ltb-false _ _ c; some = ltb-false _ _ f.0; few = ltb-false _ _ f.1 }))))

pub sound : (r : Row) → row_fault r ≡ None → Sound r
unfolding row_fault
sound r e = value_sound r (or_none r.fault (value_fault r) e)

-- ---- the row's number

ended_number : (s : Sheet) (r : Row) → (ended s r).number ≤ s.number + 1
unfolding ended
ended_number s r = go r.empty (s.first && not r.digits) (is_some (row_fault r)) (leb 16 s.count)
  where
    go : (a b c d : Bool) → (cond a (passed s s.first r.start) (cond b (passed s false r.start) (cond c (refused s r (row_fault r)) (cond d (refused s r (Some MoreRows)) (taken s r))))).number ≤ s.number + 1
    go true b c d = omega arith
    go false true c d = omega arith
    go false false true d = omega arith
    go false false false true = omega arith
    go false false false false = omega arith

pub eaten_number : (room : ℕ) (s : Sheet) (l : List ℕ) → (eaten room s l).number ≤ s.number + 1
unfolding eaten
eaten_number room s l = go s.stopped (is_start s.row.phase && starts_listing l) (is_over (fed room s.row (get_or l 0 0)).phase)
  where
    r : Row
    r = fed room s.row (get_or l 0 0)

    go : (a b c : Bool) → (cond a s (cond b (refused s s.row None) (cond c (ended s r) (with_row s r)))).number ≤ s.number + 1
    go true b c = omega arith
    go false true c = omega arith
    go false false true = ended_number s r
    go false false false = omega arith

-- ---- a byte

-- no listing begins here, and nothing stopped
pub eaten-row : (room : ℕ) (s : Sheet) (l : List ℕ) → s.stopped ≡ false → (is_start s.row.phase && starts_listing l) ≡ false → eaten room s l ≡ entered s (fed room s.row (get_or l 0 0))
unfolding eaten
eaten-row room s l a b = rw (a, b)

-- ---- names

pub kept_length : (s : Sheet) (b : ℕ) (names : List ℕ) → length (kept s b names) ≡ length names
unfolding kept
kept_length s b names = go (not s.stopped && in_name (next s.row.phase (sort_of b)))
  where
    go : (t : Bool) → length (cond t (set names s.row.kept b) names) ≡ length names
    go true = length-set names s.row.kept b
    go false = refl

pub names_length : (s : Sheet) (text names : List ℕ) → length (names_after s text names) ≡ length names
unfolding names_after
names_length s [] names = refl
names_length s (b ∷ text) names = names_length (eaten (length names) s (b ∷ text)) text (kept s b names) ∙ kept_length s b names

-- ---- one more byte

pub sheet_more : (room : ℕ) (s : Sheet) (text : List ℕ) (i : ℕ) → i < length text → sheet_after room s (drop i text) ≡ sheet_after room (eaten room s (drop i text)) (drop (i + 1) text)
unfolding sheet_after
sheet_more room s text i h = rw (drop-cons text i 0 h, add-one)

pub names_more : (s : Sheet) (text names : List ℕ) (i : ℕ) → i < length text
    → names_after s (drop i text) names ≡ names_after (eaten (length names) s (drop i text)) (drop (i + 1) text) (kept s (get_or text i 0) names)
unfolding names_after
names_more s text names i h = rw (drop-cons text i 0 h, add-one)

-- nothing is left
pub sheet_end : (room : ℕ) (s : Sheet) (text : List ℕ) (i : ℕ) → i ≡ length text → sheet_after room s (drop i text) ≡ s
unfolding sheet_after
sheet_end room s text i e = rw (e, drop-length text)

pub names_end : (s : Sheet) (text names : List ℕ) (i : ℕ) → i ≡ length text → names_after s (drop i text) names ≡ names
unfolding names_after
names_end s text names i e = rw (e, drop-length text)

-- a turn of the loop over a text: from s and names by the byte at i to t and more
module _ (text names more : List ℕ) (room i : ℕ) (s t : Sheet) (h : i < length text) (long : length names ≡ room) (k : more ≡ kept s (get_or text i 0) names)
    (e : t ≡ eaten (length more) s (drop i text)) where
  pub turn_long : length more ≡ room
  turn_long = rw k (kept_length s (get_or text i 0) names ∙ long)

  step : t ≡ eaten room s (drop i text)
  step = e ∙ rw turn_long

  pub turn_number : t.number ≤ s.number + 1
  turn_number = rw step (eaten_number room s (drop i text))

  pub turn_sheet : {w : Sheet} → w ≡ sheet_after room s (drop i text) → w ≡ sheet_after room t (drop (i + 1) text)
  turn_sheet f = f ∙ sheet_more room s text i h ∙ rw step

  pub turn_names : {w : List ℕ} → w ≡ names_after s (drop i text) names → w ≡ names_after t (drop (i + 1) text) more
  turn_names f = f ∙ names_more s text names i h ∙ rw (step, k, long)
