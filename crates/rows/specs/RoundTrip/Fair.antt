-- Whatever bytes come, the lines that a sheet holds are good ones (`Fair`): it holds of the blank sheet, and each byte keeps it, since a row is taken
-- only without a fault, and bytes of its name stand behind the names of the lines. Assumes nothing.
--     Ordered, fed-order                     a row's places among the names, after a byte
--     Fair, kept_fair .. taken_fair          what holds of a sheet, after a byte of a name, after a row
--     eaten_fair, text_fair, accepted_good   after a byte, a text, and of an accepted one
use Rattle.std.specs.Prelude.{ℕ, ◌+◌, ◌-◌, ◌≤◌, ◌<◌, ◌≡◌, Bool, cond, ◌&&◌, List, [], ◌∷◌, ltb, leb, eqb, length, get_or, set, drop, Option, Some, None, is_some, is_none}
use Rattle.std.proofs.Math.Path.{refl}
use Rattle.std.proofs.Common.{sym, ap, subst, ◌∙◌, arith, ltb-true, leb-false, length-drop, length-take-le}
use Rattle.std.proofs.Math.Bool.{true, false, not}
use Rattle.std.proofs.lemmas.Bool.{false≢true, eqb-false}
use Rattle.std.proofs.Math.ListN.{take}
use Rattle.std.proofs.Math.Seq.{take-set-le}
use Rattle.base.specs.Members.{Every}
use Rattle.base.specs.Members.Laws.{every_nil, every_cons, every_append}
use Rattle.rows.specs.declared.Entry.{Entry}
use Rattle.rows.specs.declared.Fault.{Fault}
use Rattle.rows.specs.declared.Fault.TheVariants.{MoreRows, TooLong}
use Rattle.rows.specs.declared.Phase.{Phase}
use Rattle.rows.specs.declared.Phase.TheVariants.{Bare, Quoted}
use Rattle.rows.specs.declared.Row.{Row}
use Rattle.rows.specs.declared.scan.Sort.{Sort}
use Rattle.rows.specs.declared.Sheet.{Sheet}
use Rattle.rows.specs.Cases.{by_test}
use Rattle.rows.specs.Row.{next, sort_of, in_name, in_solid, is_over, is_start, placed, fed, fed_by}
use Rattle.rows.specs.Sheet.{fresh, blank_sheet, row_fault, with_row, passed, refused, taken, ended, starts_listing, entered, eaten, kept, sheet_after, names_after, closed_by, sheet_of, names_of}
use Rattle.rows.specs.Sheet.Laws.{Sound, sound, kept_length}
use Rattle.rows.specs.Lines.{Line, lines_in, lines_of, accepted}
use Rattle.rows.specs.RoundTrip.Held.{Good, Laid, line_by, lines_count, lines_same, taken_lines, taken-laid}

-- ---- a row's places among the names

pub record Ordered (room : ℕ) (r : Row) : Type 0 where
  pub solid : r.start ≤ r.solid
  pub kept : r.solid ≤ r.kept
  pub within : r.kept ≤ room

placed_range : (room k : ℕ) → k ≤ room → (k ≤ placed room k) × (placed room k ≤ room)
placed_range room k h = go (ltb k room) refl
  where
    go : (t : Bool) → ltb k room ≡ t → (k ≤ cond t (k + 1) k) × (cond t (k + 1) k ≤ room)
    go true e = (omega arith, omega (arith, ltb-true k room e))
    go false e = (omega arith, h)

-- a byte of a name up to its end is a byte of the name
solid_named : (to : Phase) (sort : Sort) → in_solid to sort ≡ true → in_name to ≡ true
solid_named Bare sort e = refl
solid_named Quoted sort e = refl
solid_named _ sort e = absurd (false≢true e)

fed_ordered : (room : ℕ) (r : Row) (b : ℕ) (sort : Sort) (to : Phase) → Ordered room r → Ordered room (fed_by room r b sort to)
unfolding fed_by
fed_ordered room r b sort to o =
    let all = go (in_name to) (in_solid to sort) (solid_named to sort) in
    record { solid = all.0; kept = all.1; within = all.2 }
  where
    k : ℕ
    k = placed room r.kept

    near : (r.kept ≤ k) × (k ≤ room)
    near = placed_range room r.kept o.within

    go : (p q : Bool) → (q ≡ true → p ≡ true) → (r.start ≤ cond q k r.solid) × (cond q k r.solid ≤ cond p k r.kept) × (cond p k r.kept ≤ room)
    go true true h = (omega (arith, o.solid, o.kept, near.0), omega arith, near.1)
    go true false h = (o.solid, omega (arith, o.kept, near.0), near.1)
    go false true h = absurd (false≢true (h refl))
    go false false h = (o.solid, o.kept, o.within)

fed-order : (room : ℕ) (r : Row) (b : ℕ) → Ordered room r → Ordered room (fed room r b)
unfolding fed
fed-order room r b o = fed_ordered room r b (sort_of b) (next r.phase (sort_of b)) o

fed-start : (room : ℕ) (r : Row) (b : ℕ) → (fed room r b).start ≡ r.start
unfolding fed fed_by
fed-start room r b = refl

none_of : (f : Option Fault) → is_some f ≡ false → f ≡ None
none_of None e = refl
none_of (Some f) e = absurd (false≢true (sym e))

-- ---- a sheet and its names

pub record Fair (room : ℕ) (s : Sheet) (names : List ℕ) : Type 0 where
  pub laid : Laid s
  pub order : Ordered room s.row
  pub long : length names ≡ room
  pub good : Every Good (lines_in s names)

pub blank_fair : (names : List ℕ) → Fair (length names) blank_sheet names
unfolding lines_in Rattle.rows.specs.Lines.cut
blank_fair names = record {
  laid = record { room = refl; few = omega arith; behind = refl };
  order = record { solid = omega arith; kept = omega arith; within = omega arith };
  long = refl;
  good = every_nil Good;
}

-- the same lines, another row whose name begins at the same place
laid-row : (s t : Sheet) → Laid s → t.entries ≡ s.entries → t.count ≡ s.count → t.row.start ≡ s.row.start → Laid t
laid-row s t p a d e = record {
  room = ap (λ (l : List Entry). length l) a ∙ p.room;
  few = omega (arith, p.few, d);
  behind = rw (a, d) p.behind ∙ sym e;
}

module _ (room : ℕ) (s : Sheet) (names : List ℕ) (f : Fair room s names) where
  -- ---- a byte of a name

  kept_same : (b : ℕ) → take s.row.start (kept s b names) ≡ take s.row.start names
  unfolding kept
  kept_same b = go (not s.stopped && in_name (next s.row.phase (sort_of b)))
    where
      go : (t : Bool) → take s.row.start (cond t (set names s.row.kept b) names) ≡ take s.row.start names
      go true = take-set-le s.row.start names s.row.kept b (omega (arith, f.order.solid, f.order.kept))
      go false = refl

  pub kept_fair : (b : ℕ) → Fair room s (kept s b names)
  kept_fair b = record {
    laid = f.laid;
    order = f.order;
    long = kept_length s b names ∙ f.long;
    good = subst (λ (l : List Line). Every Good l) (lines_same s names (kept s b names) f.laid (sym (kept_same b))) f.good;
  }

  -- ---- a row

  module _ (r : Row) (at : r.start ≡ s.row.start) (o : Ordered room r) where
    with_fair : Fair room (with_row s r) names
    unfolding lines_in
    with_fair = record { laid = laid-row s (with_row s r) f.laid refl refl at; order = o; long = f.long; good = f.good }

    refused_fair : (fault : Option Fault) → Fair room (refused s r fault) names
    unfolding lines_in
    refused_fair fault = record { laid = laid-row s (refused s r fault) f.laid refl refl at; order = o; long = f.long; good = f.good }

    passed_fair : (first : Bool) → Fair room (passed s first r.start) names
    unfolding lines_in
    passed_fair first = record {
      laid = laid-row s (passed s first r.start) f.laid refl refl at;
      order = record { solid = omega arith; kept = omega arith; within = omega (arith, o.solid, o.kept, o.within) };
      long = f.long;
      good = f.good;
    }

    line_good : Sound r → Good (line_by r names)
    line_good g =
        let n : length (take (r.solid - r.start) (drop r.start names)) ≡ r.solid - r.start =
        length-take-le (r.solid - r.start) (drop r.start names) (omega (arith, length-drop r.start names, f.long, o.kept, o.within)) in
        record { named = omega (arith, n, g.named); least = g.least; most = g.most; some = g.some; few = g.few }

    taken_fair : Sound r → s.count < 16 → Fair room (taken s r) names
    taken_fair g few = record {
      laid = taken-laid s r f.laid few at o.solid;
      order = record { solid = omega arith; kept = omega arith; within = omega (arith, o.kept, o.within) };
      long = f.long;
      good = subst (λ (l : List Line). Every Good l) (sym (taken_lines s r f.laid few at names))
          (every_append Good (lines_in s names) (line_by r names ∷ []) f.good (every_cons Good (line_by r names) [] (line_good g) (every_nil Good)));
    }

    ended_fair : Fair room (ended s r) names
    unfolding ended
    ended_fair =
        let P : Sheet → Type 0 = λ t. Fair room t names in
        by_test P r.empty (λ _. passed_fair s.first) (λ _.
        by_test P (s.first && not r.digits) (λ _. passed_fair false) (λ _.
        by_test P (is_some (row_fault r)) (λ _. refused_fair (row_fault r)) (λ e.
        by_test P (leb 16 s.count) (λ _. refused_fair (Some MoreRows)) (λ h.
        taken_fair (sound r (none_of (row_fault r) e)) (leb-false _ _ h)))))

    entered_fair : Fair room (entered s r) names
    entered_fair = by_test (λ (t : Sheet). Fair room t names) (is_over r.phase) (λ _. ended_fair) (λ _. with_fair)

  pub eaten_fair : (l : List ℕ) → Fair room (eaten room s l) names
  unfolding eaten
  eaten_fair l =
      let P : Sheet → Type 0 = λ t. Fair room t names in
      by_test P s.stopped (λ _. f) (λ _.
      by_test P (is_start s.row.phase && starts_listing l) (λ _. refused_fair s.row refl f.order None) (λ _.
      entered_fair (fed room s.row (get_or l 0 0)) (fed-start room s.row (get_or l 0 0)) (fed-order room s.row (get_or l 0 0) f.order)))

-- ---- a text

pub text_fair : (room : ℕ) (text : List ℕ) (s : Sheet) (names : List ℕ) → Fair room s names → Fair room (sheet_after room s text) (names_after s text names)
unfolding sheet_after names_after
text_fair room [] s names f = f
text_fair room (b ∷ text) s names f =
    let one = eaten_fair room s (kept s b names) (kept_fair room s names f b) (b ∷ text) in
    let all = text_fair room text (eaten room s (b ∷ text)) (kept s b names) one in
    subst (λ (k : ℕ). Fair room (sheet_after room (eaten room s (b ∷ text)) text) (names_after (eaten k s (b ∷ text)) text (kept s b names))) (sym f.long) all

-- a sheet without a fault holds a line
closed_fair : (room : ℕ) (s : Sheet) (names : List ℕ) → Fair room s names → is_none (closed_by s).fault ≡ true
    → Fair room (closed_by s) names × (0 < (closed_by s).count)
unfolding closed_by
closed_fair room s names f =
    let P : Sheet → Type 0 = λ t. is_none t.fault ≡ true → Fair room t names × (0 < t.count) in
    by_test P (is_some s.fault) (λ t e. absurd (false≢true (sym (ap not t) ∙ e))) (λ _.
    by_test P (not (is_start s.row.phase)) (λ _ e. absurd (false≢true e)) (λ _.
    by_test P (eqb s.count 0) (λ _ e. absurd (false≢true e)) (λ h _. (f, some s.count (eqb-false _ _ h)))))
  where
    some : (n : ℕ) → (n ≡ 0 → ⊥) → 0 < n
    some n h = omega (arith, h)

-- what an accepted text is read as: 1 to 16 good lines
pub accepted_good : (text names : List ℕ) → accepted text names ≡ true
    → Every Good (lines_of text names) × (0 < length (lines_of text names)) × (length (lines_of text names) ≤ 16)
unfolding sheet_of names_of lines_of
accepted_good text names = go (ltb (length names) (length text))
  where
    room : ℕ
    room = length names

    s : Sheet
    s = eaten room (sheet_after room blank_sheet text) (10 ∷ [])

    all : List ℕ
    all = names_after blank_sheet text names

    fair : Fair room s all
    fair = eaten_fair room (sheet_after room blank_sheet text) all (text_fair room text blank_sheet names (blank_fair names)) (10 ∷ [])

    End : Sheet → List ℕ → Type 0
    End t more = Every Good (lines_in t more) × (0 < length (lines_in t more)) × (length (lines_in t more) ≤ 16)

    held : (t : Sheet) (more : List ℕ) → Fair room t more × (0 < t.count) → End t more
    held t more f = (f.0.good, omega (arith, lines_count t more f.0.laid, f.1), omega (arith, lines_count t more f.0.laid, f.0.laid.few))

    go : (t : Bool) → is_none (cond t (refused blank_sheet (fresh 0) (Some TooLong)) (closed_by s)).fault ≡ true
        → End (cond t (refused blank_sheet (fresh 0) (Some TooLong)) (closed_by s)) (cond t names all)
    go true e = absurd (false≢true e)
    go false e = held (closed_by s) all (closed_fair room s all fair e)
