-- What is wrong with a stream is known once its last byte is in, and it is what reading says of it: `end_refusal_lem`.
-- In order: bytes behind a whole stream, and too few of them; n and the sizes as they come in; the costs; the theorem.
-- Assumes nothing.
use Prim.Native.Nat.{ℕ, zero, suc, ◌+◌, ◌*◌, ◌-◌, ◌≤◌, ◌<◌}
use Rattle.std.specs.Prelude.{◌≡◌, Bool, cond, ◌&&◌, ◌⊎◌, ltb, eqb, set, take, replicate}
use Rattle.std.proofs.Math.Path.{refl, ap}
use Rattle.std.proofs.Common.{sym, ◌∙◌, inl, inr, ⊎_elim, arith, add-zero, length-drop, take-append-drop, drop-drop, take_all, length-take-le}
use Rattle.std.proofs.Math.Bool.{true, false}
use Rattle.std.proofs.lemmas.Bool.{false≢true}
use mathlib.Core.List.{List, [], ◌∷◌, ◌++◌, append_assoc}
use Rattle.std.proofs.Math.ListN.{length, drop, length-append}
use Rattle.std.proofs.lemmas.List.{length-replicate, set_at}
use borrow.Author.Tests.{lt-ltb, le-ltb, lt-leb, ltb-true, ltb-false, eq-eqb, eqb-true, eqb-false}
use Rattle.base.specs.Shape.{is_value, all_in_sixteen, shape_good}
use Rattle.base.specs.Shape.Laws.{value_range, and_left, and_right, in_sixteen}
use Rattle.table.specs.Stream.{opening, units_of, after_units, sizes_of, unaries_in, unaries_at, pairs_at, needed, stream_refusal, Accepted, in_form_two, costs_good, sum_list, pairs_in, unary_good, pair_good}
use Rattle.table.specs.StreamLaws.{opening_one, opening-two, unaries_one, unaries_two, costs_part, refused_short, refused_units, refused-sizes, refused_length, accepted_all, accepted_length}
use Rattle.start.specs.declared.Reader.{Reader}
use Rattle.start.specs.declared.Stage.{Stage}
use Rattle.start.specs.declared.Stage.TheVariants.{Opening, Units, Sizes, Low, High, Whole, Long, Misshapen}
use Rattle.start.specs.Byte.{unread, with_stage, to_run, at_end, after, kept, with_byte, after_byte, end_by, end_refusal}
use Rattle.start.specs.Fold.{after_append}
use Rattle.start.specs.Runs.{found, based, From, row_in, next_row, rows_in, split_after, costs_behind, both}

-- ---- bytes behind the end, and too few

abbrev stage_of : Reader → Stage
stage_of r = r.stage

long_stays : (r : Reader) (l : List ℕ) → stage_of r ≡ Long → stage_of (after r l) ≡ Long
unfolding after
long_stays r [] e = e
long_stays r (b ∷ l) e = long_stays (after_byte r b) l (ap (λ (g : Stage). stage_of (with_byte g r b)) e ∙ e)

misshapen_stays : (r : Reader) (l : List ℕ) → stage_of r ≡ Misshapen → stage_of (after r l) ≡ Misshapen
unfolding after
misshapen_stays r [] e = e
misshapen_stays r (b ∷ l) e = misshapen_stays (after_byte r b) l (ap (λ (g : Stage). stage_of (with_byte g r b)) e ∙ e)

misshapen_ends : (r : Reader) (l : List ℕ) → stage_of r ≡ Misshapen → end_refusal (after r l) ≡ 5
misshapen_ends r l e = ap (λ (g : Stage). end_by g (after r l).refusal) (misshapen_stays r l e)

whole_ends : (r : Reader) (l : List ℕ) → stage_of r ≡ Whole → 1 ≤ length l → stage_of (after r l) ≡ Long
unfolding after
whole_ends r [] e h = absurd (omega arith)
whole_ends r (b ∷ l) e h = long_stays (after_byte r b) l (ap (λ (g : Stage). stage_of (with_byte g r b)) e)

-- what stands still at a stage where no more than m bytes make it whole
module _ (r : Reader) (m : ℕ) (exact : (l : List ℕ) → length l ≡ m → stage_of (after r l) ≡ Whole) where
  too_long : (l : List ℕ) → m < length l → stage_of (after r l) ≡ Long
  too_long l h =
      ap (λ (x : List ℕ). stage_of (after r x)) (sym (take-append-drop m l)) ∙ ap stage_of (after_append r (take m l) (drop m l))
      ∙ whole_ends (after r (take m l)) (drop m l) (exact (take m l) (length-take-le m l (omega arith))) (rw length-drop (omega arith))

  -- more bytes would make it whole
  too_short : (l : List ℕ) → length l < m → end_refusal (after r l) ≡ 6
  too_short l h = go (stage_of (after r l)) refl
    where
      more : List ℕ
      more = replicate (m - length l) 0

      made : stage_of (after (after r l) more) ≡ Whole
      made = sym (ap stage_of (after_append r l more)) ∙ exact (l ++ more) (length-append l more ∙ rw length-replicate (omega arith))

      go : (g : Stage) → stage_of (after r l) ≡ g → end_by g (after r l).refusal ≡ 6
      go Opening e = refl
      go Units e = refl
      go Sizes e = refl
      go Low e = refl
      go High e = refl
      go Whole e =
          let long : stage_of (after (after r l) more) ≡ Long = whole_ends (after r l) more e (rw length-replicate (omega arith)) in
          let z : ◌≡◌ {A = ℕ} 6 0 = ap (λ (g : Stage). end_by g 0) (sym long ∙ made) in absurd (omega arith)
      go Long e = refl
      go Misshapen e = let z : ◌≡◌ {A = ℕ} 5 0 = ap (λ (g : Stage). end_by g 0) (sym (misshapen_stays (after r l) more e) ∙ made) in absurd (omega arith)

  pub not_whole : (l : List ℕ) → (length l ≡ m → ⊥) → end_refusal (after r l) ≡ 6
  not_whole l h = go (ltb (length l) m) refl
    where
      go : (t : Bool) → ltb (length l) m ≡ t → end_refusal (after r l) ≡ 6
      go true e = too_short l (ltb-true (length l) m e)
      go false e = let b = ltb-false (length l) m e in ap (λ (g : Stage). end_by g (after r l).refusal) (too_long l (omega (arith, h)))

-- ---- the sizes

module _ (n row : ℕ) where
  -- the sizes g are in
  abbrev pub sizing : List ℕ → ℕ → Reader
  sizing sizes unit = record { stage = Sizes; n = n; sizes = sizes; row = row; unit = unit; left = 0; low = 0; refusal = 0 }

  -- one size
  module _ (sizes : List ℕ) (unit b : ℕ) where
    size_bad : is_value 16 b ≡ false → after_byte (sizing sizes unit) b ≡ with_stage (sizing sizes unit) Misshapen
    size_bad e = rw e

    pub size_more : is_value 16 b ≡ true → unit + 1 < n → after_byte (sizing sizes unit) b ≡ sizing (set sizes unit b) (unit + 1)
    size_more e h = rw (e, lt-ltb (unit + 1) n h)

    size_last : is_value 16 b ≡ true → n ≤ unit + 1 → after_byte (sizing sizes unit) b ≡ to_run (based n (set sizes unit b) 0) row (row + 1)
    unfolding to_run
    size_last e h = rw (e, le-ltb (unit + 1) n h)

  -- those present are checked, and one is refused
  sizes_bad : (m : ℕ) (l sizes : List ℕ) (unit : ℕ) → unit + suc m ≡ n → all_in_sixteen (take (suc m) l) ≡ false → end_refusal (after (sizing sizes unit) l) ≡ 5
  unfolding after all_in_sixteen
  sizes_bad m [] sizes unit h e = absurd (false≢true (sym e))
  sizes_bad m (b ∷ l) sizes unit h e = go (is_value 16 b) refl m h e (λ k p q. sizes_bad k l (set sizes unit b) (unit + 1) p q)
    where
      go : (t : Bool) → is_value 16 b ≡ t → (m : ℕ) → unit + suc m ≡ n → (t && all_in_sixteen (take m l)) ≡ false
          → ((k : ℕ) → unit + 1 + suc k ≡ n → all_in_sixteen (take (suc k) l) ≡ false → end_refusal (after (sizing (set sizes unit b) (unit + 1)) l) ≡ 5)
          → end_refusal (after (after_byte (sizing sizes unit) b) l) ≡ 5
      go false q m h e more =
          ap (λ (r : Reader). end_refusal (after r l)) (size_bad sizes unit b q)
          ∙ misshapen_ends (with_stage (sizing sizes unit) Misshapen) l refl
      go true q zero h e more = absurd (false≢true (sym e))
      go true q (suc m) h e more = ap (λ (r : Reader). end_refusal (after r l)) (size_more sizes unit b q (omega arith)) ∙ more m (omega arith) e

  -- there are fewer than n, all good
  sizes_short : (m : ℕ) (l sizes : List ℕ) (unit : ℕ) → unit + m ≡ n → length l < m → all_in_sixteen l ≡ true → end_refusal (after (sizing sizes unit) l) ≡ 6
  unfolding after all_in_sixteen
  sizes_short m [] sizes unit h s e = refl
  sizes_short m (b ∷ l) sizes unit h s e =
      ap (λ (r : Reader). end_refusal (after r l)) (size_more sizes unit b (and_left (is_value 16 b) (all_in_sixteen l) e) (omega arith))
      ∙ sizes_short (m - 1) l (set sizes unit b) (unit + 1) (omega arith) (omega arith) (and_right (is_value 16 b) (all_in_sixteen l) e)

  -- there are n, all good
  pub sizes_all : (m : ℕ) (l g z : List ℕ) → length g + suc m ≡ n → suc m ≤ length z → suc m ≤ length l → all_in_sixteen (take (suc m) l) ≡ true
      → after (sizing (g ++ z) (length g)) l ≡ after (to_run (based n (g ++ (take (suc m) l ++ drop (suc m) z)) 0) row (row + 1)) (drop (suc m) l)
  unfolding after all_in_sixteen
  sizes_all m [] g z h k s e = absurd (omega arith)
  sizes_all m (b ∷ l) g [] h k s e = absurd (omega arith)
  sizes_all zero (b ∷ l) g (y ∷ z) h k s e =
      ap (λ (r : Reader). after r l) (size_last (g ++ y ∷ z) (length g) b (and_left (is_value 16 b) (all_in_sixteen (take 0 l)) e) (omega arith) ∙ rw (set_at g y z b (length g) refl))
  sizes_all (suc m) (b ∷ l) g (y ∷ z) h k s e =
      let q : length (g ++ b ∷ []) ≡ length g + 1 = length-append g (b ∷ []) in
      let one : (x : List ℕ) → (g ++ b ∷ []) ++ x ≡ g ++ b ∷ x = λ x. append_assoc g (b ∷ []) x in
      ap (λ (r : Reader). after r l) (size_more (g ++ y ∷ z) (length g) b (and_left (is_value 16 b) (all_in_sixteen (take (suc m) l)) e) (omega arith)
      ∙ rw (set_at g y z b (length g) refl, ← q, ← one z))
      ∙ sizes_all m l (g ++ b ∷ []) z (omega arith) (omega arith) (omega arith) (and_right (is_value 16 b) (all_in_sixteen (take (suc m) l)) e)
      ∙ rw (one (take (suc m) l ++ drop (suc m) z))

-- ---- the costs

module _ (n : ℕ) (ds z : List ℕ) (good : all_in_sixteen ds ≡ true) (many : length ds ≡ n) where
  pub from_first : From n (ds ++ z) 1 ds
  from_first = record { rest = z; said = refl; good = good; last = omega arith }

  -- in form one, pair costs alone
  costs_one : (c : List ℕ) → length c ≡ 2 * pairs_in ds → after (to_run (based n (ds ++ z) 0) 1 2) c ≡ at_end (based n (ds ++ z) (cond (costs_good pair_good c 0 (pairs_in ds)) 0 7))
  costs_one c h = (rows_in n (ds ++ z) 0 ds 1 0 c (omega arith) from_first h).0

  -- in form two, unary costs before them
  costs_two : (c : List ℕ) → length c ≡ 2 * sum_list ds + 2 * pairs_in ds
      → after (to_run (based n (ds ++ z) 0) 0 1) c ≡ at_end (based n (ds ++ z) (cond (costs_good unary_good c 0 (sum_list ds) && costs_good pair_good c (2 * sum_list ds) (pairs_in ds)) 0 7))
  costs_two c h =
      let k : ℕ = 2 * sum_list ds in
      let e : 1 * sum_list ds ≡ sum_list ds = omega arith in
      let y : ℕ = found unary_good 0 (take k c) (sum_list ds) in
      let r : after (to_run (based n (ds ++ z) 0) 0 1) (take k c) ≡ to_run (based n (ds ++ z) y) 1 2
      = rw e at (row_in n (ds ++ z) 0 0 1 refl (omega arith) ds 1 0 (take k c) from_first (rw e (length-take-le k c (omega arith)))).0 ∙ next_row n (ds ++ z) y 0 in
      split_after (to_run (based n (ds ++ z) 0) 0 1) k c r ∙ (rows_in n (ds ++ z) 0 ds 1 y (drop k c) (omega arith) from_first (rw length-drop (omega arith))).0
      ∙ ap (λ (x : ℕ). at_end (based n (ds ++ z) x)) (rw (costs_part unary_good c 0 (sum_list ds) k (omega arith), costs_behind pair_good c k 0 (pairs_in ds), add-zero) (both (costs_good unary_good c 0 (sum_list ds)) (costs_good pair_good c k (pairs_in ds)) 0))

-- ---- the theorem

-- behind n, in either form
module _ (b : ℕ) (l : List ℕ) (form : eqb b 200 ≡ false) where
  one_in : in_sixteen b ≡ true → after unread (b ∷ l) ≡ after (sizing b 1 (replicate 16 0) 0) l
  unfolding after
  one_in e = ap (λ (r : Reader). after r l) (rw (form, e))

  one_bad : in_sixteen b ≡ false → end_refusal (after unread (b ∷ l)) ≡ 5
  unfolding after
  one_bad e = misshapen_ends (after_byte unread b) l (rw (form, e))

module _ (b n : ℕ) (l : List ℕ) (form : eqb b 200 ≡ true) where
  two_in : in_sixteen n ≡ true → after unread (b ∷ n ∷ l) ≡ after (sizing n 0 (replicate 16 0) 0) l
  unfolding after
  two_in e = ap (λ (r : Reader). after r l) (rw (form, e))

  two_bad : in_sixteen n ≡ false → end_refusal (after unread (b ∷ n ∷ l)) ≡ 5
  unfolding after
  two_bad e = misshapen_ends (after_byte (after_byte unread b) n) l (rw (form, e))

-- a stream s in which l stands behind n, and its costs by their number U of unary ones
module _ (s l : List ℕ) (m row : ℕ) (U : List ℕ → ℕ) (some : opening s < length s) (units : units_of s ≡ suc m) (behind : after_units s ≡ l) (unaries : unaries_in s ≡ U (take (suc m) l))
    (n_good : in_sixteen (suc m) ≡ true) (begun : after unread s ≡ after (sizing (suc m) row (replicate 16 0) 0) l)
    (costs : (ds z : List ℕ) → all_in_sixteen ds ≡ true → length ds ≡ suc m → (c : List ℕ) → length c ≡ 2 * U ds + 2 * pairs_in ds
    → after (to_run (based (suc m) (ds ++ z) 0) row (row + 1)) c ≡ at_end (based (suc m) (ds ++ z) (cond (costs_good unary_good c 0 (U ds) && costs_good pair_good c (2 * U ds) (pairs_in ds)) 0 7))) where
  abbrev ds : List ℕ
  ds = take (suc m) l

  abbrev cost_bytes : List ℕ
  cost_bytes = drop (suc m) l

  sizes_are : sizes_of s ≡ ds
  sizes_are = rw (units, behind)

  n-there : in_sixteen (units_of s) ≡ true
  n-there = rw units n_good

  place : cost_bytes ≡ drop (unaries_at s) s
  place = rw (← behind, ← units) (drop-drop (units_of s) (opening s + 1) s)

  long : length s ≡ opening s + 1 + length l
  long = rw (← behind) (rw length-drop (omega arith))

  unaries_same : costs_good unary_good cost_bytes 0 (U ds) ≡ costs_good unary_good s (unaries_at s) (unaries_in s)
  unaries_same =
      ap (λ (x : List ℕ). costs_good unary_good x 0 (U ds)) place ∙ costs_behind unary_good s (unaries_at s) 0 (U ds)
      ∙ rw add-zero (ap (costs_good unary_good s (unaries_at s)) (sym unaries))

  pairs_same : costs_good pair_good cost_bytes (2 * U ds) (pairs_in ds) ≡ costs_good pair_good s (pairs_at s) (pairs_in (sizes_of s))
  pairs_same =
      ap (λ (x : List ℕ). costs_good pair_good x (2 * U ds) (pairs_in ds)) place ∙ costs_behind pair_good s (unaries_at s) (2 * U ds) (pairs_in ds)
      ∙ ap (λ (x : ℕ). costs_good pair_good s (unaries_at s + 2 * x) (pairs_in ds)) (sym unaries) ∙ ap (λ (x : List ℕ). costs_good pair_good s (pairs_at s) (pairs_in x)) (sym sizes_are)

  module _ (good : all_in_sixteen ds ≡ true) where
    all_there : all_in_sixteen (sizes_of s) ≡ true
    all_there = rw sizes_are good

    by_costs : length s ≡ needed s → cond (costs_good unary_good cost_bytes 0 (U ds) && costs_good pair_good cost_bytes (2 * U ds) (pairs_in ds)) 0 7 ≡ stream_refusal s
    unfolding stream_refusal shape_good
    by_costs e = rw (unaries_same, pairs_same) (simp (lt-leb (length s) (opening s) some, n-there, all_there, eq-eqb (length s) (needed s) e))

    whole-sizes : suc m ≤ length l → end_refusal (after (to_run (based (suc m) (ds ++ drop (suc m) (replicate 16 0)) 0) row (row + 1)) cost_bytes) ≡ stream_refusal s
    whole-sizes h = go (eqb (length cost_bytes) (2 * U ds + 2 * pairs_in ds)) refl
      where
        z : List ℕ
        z = drop (suc m) (replicate 16 0)

        many : length ds ≡ suc m
        many = length-take-le (suc m) l h

        rest : length cost_bytes ≡ length l - suc m
        rest = length-drop (suc m) l

        pairs : pairs_in (sizes_of s) ≡ pairs_in ds
        pairs = ap pairs_in sizes_are

        go : (t : Bool) → eqb (length cost_bytes) (2 * U ds + 2 * pairs_in ds) ≡ t → end_refusal (after (to_run (based (suc m) (ds ++ z) 0) row (row + 1)) cost_bytes) ≡ stream_refusal s
        go true q =
            let e = eqb-true (length cost_bytes) (2 * U ds + 2 * pairs_in ds) q in
            ap end_refusal (costs ds z good many cost_bytes e) ∙ by_costs (omega (arith, e, h, rest, pairs, units, unaries, long))
        go false q =
            let e = eqb-false (length cost_bytes) (2 * U ds + 2 * pairs_in ds) q in
            not_whole (to_run (based (suc m) (ds ++ z) 0) row (row + 1)) (2 * U ds + 2 * pairs_in ds) (λ c x. ap stage_of (costs ds z good many c x)) cost_bytes e
            ∙ refused_length s some n-there all_there (λ x. e (omega (arith, x, h, rest, pairs, units, unaries, long)))

    good_sizes : end_refusal (after (sizing (suc m) row (replicate 16 0) 0) l) ≡ stream_refusal s
    good_sizes = go (ltb (length l) (suc m)) refl
      where
        go : (t : Bool) → ltb (length l) (suc m) ≡ t → end_refusal (after (sizing (suc m) row (replicate 16 0) 0) l) ≡ stream_refusal s
        go true q =
            let h = ltb-true (length l) (suc m) q in
            sizes_short (suc m) row (suc m) l (replicate 16 0) 0 (omega arith) h (rw (take_all (suc m) l (omega arith)) at good)
            ∙ refused_length s some n-there all_there (λ x. omega (arith, x, h, units, long))
        go false q =
            let h = ltb-false (length l) (suc m) q in
            ap end_refusal (sizes_all (suc m) row m l [] (replicate 16 0) (omega arith) (value_range 16 (suc m) n_good).1 h good) ∙ whole-sizes h

    -- the reader behind all bytes, where there are just as many as needed
    whole_as_read : length s ≡ needed s → after unread s ≡ at_end (based (suc m) (ds ++ drop (suc m) (replicate 16 0)) (stream_refusal s))
    whole_as_read e =
        let z : List ℕ = drop (suc m) (replicate 16 0) in
        let h : suc m ≤ length l = omega (arith, e, units, long) in
        let c : length cost_bytes ≡ 2 * U ds + 2 * pairs_in ds = omega (arith, e, h, length-drop (suc m) l, ap pairs_in sizes_are, units, unaries, long) in
        begun ∙ sizes_all (suc m) row m l [] (replicate 16 0) (omega arith) (value_range 16 (suc m) n_good).1 h good
        ∙ costs ds z good (length-take-le (suc m) l h) cost_bytes c ∙ ap (λ (x : ℕ). at_end (based (suc m) (ds ++ z) x)) (by_costs e)

  ends_as_read : end_refusal (after unread s) ≡ stream_refusal s
  ends_as_read = ap end_refusal begun ∙ go (all_in_sixteen ds) refl
    where
      go : (t : Bool) → all_in_sixteen ds ≡ t → end_refusal (after (sizing (suc m) row (replicate 16 0) 0) l) ≡ stream_refusal s
      go false e = sizes_bad (suc m) row m l (replicate 16 0) 0 (omega arith) e ∙ refused-sizes s some n-there (rw sizes_are e)
      go true e = good_sizes e

-- what stands where in a stream of either form whose n is good
pub record Formed (s : List ℕ) : Type 0 where
  pub l : List ℕ
  pub m : ℕ
  pub row : ℕ
  pub U : List ℕ → ℕ
  pub some : opening s < length s
  pub units : units_of s ≡ suc m
  pub behind : after_units s ≡ l
  pub unaries : unaries_in s ≡ U (take (suc m) l)
  pub n_good : in_sixteen (suc m) ≡ true
  pub begun : after unread s ≡ after (sizing (suc m) row (replicate 16 0) 0) l
  pub opens : (own : ℕ) → kept own unread s ≡ kept own (sizing (suc m) row (replicate 16 0) 0) l
  pub form : ((row ≡ 1) × (in_form_two s ≡ false)) ⊎ ((row ≡ 0) × (in_form_two s ≡ true))
  pub costs : (ds z : List ℕ) → all_in_sixteen ds ≡ true → length ds ≡ suc m → (c : List ℕ) → length c ≡ 2 * U ds + 2 * pairs_in ds
      → after (to_run (based (suc m) (ds ++ z) 0) row (row + 1)) c ≡ at_end (based (suc m) (ds ++ z) (cond (costs_good unary_good c 0 (U ds) && costs_good pair_good c (2 * U ds) (pairs_in ds)) 0 7))

-- form one
formed_one : (b : ℕ) (l : List ℕ) → eqb b 200 ≡ false → in_sixteen b ≡ true → Formed (b ∷ l)
unfolding costs_good kept
formed_one zero l form e = absurd (false≢true e)
formed_one (suc m) l form e =
    let o : opening (suc m ∷ l) ≡ 0 = opening_one (suc m ∷ l) form in
    record {
      l = l;
      m = m;
      row = 1;
      U = λ ds. 0;
      some = omega arith;
      units = rw o refl;
      behind = rw o refl;
      unaries = unaries_one (suc m ∷ l) form;
      n_good = e;
      begun = one_in (suc m) l form e;
      opens = λ own. ap (λ (r : Reader). kept own r l) (rw (form, e));
      form = inl (refl, form);
      costs = λ ds z good many c h. costs_one (suc m) ds z good many c (omega arith);
    }

-- form two
formed_two : (b n : ℕ) (l : List ℕ) → eqb b 200 ≡ true → in_sixteen n ≡ true → Formed (b ∷ n ∷ l)
unfolding kept
formed_two b zero l form e = absurd (false≢true e)
formed_two b (suc m) l form e =
    let s : List ℕ = b ∷ suc m ∷ l in
    let o : opening s ≡ 1 = opening-two s form in
    let sizes : sizes_of s ≡ take (suc m) l = rw o refl in
    let first : after_byte unread b ≡ with_stage unread Units = rw form in
    let second : after_byte (with_stage unread Units) (suc m) ≡ sizing (suc m) 0 (replicate 16 0) 0 = rw e in
    record {
      l = l;
      m = m;
      row = 0;
      U = sum_list;
      some = omega arith;
      units = rw o refl;
      behind = rw o refl;
      unaries = unaries_two s form ∙ ap sum_list sizes;
      n_good = e;
      begun = two_in b (suc m) l form e;
      opens = λ own. ap (λ (r : Reader). kept own r (suc m ∷ l)) first ∙ ap (λ (r : Reader). kept own r l) second;
      form = inr (refl, form);
      costs = λ ds z good many c h. costs_two (suc m) ds z good many c h;
    }

-- a stream is formed, or what is wrong with it is known by then
pub by_form : (s : List ℕ) → Formed s ⊎ (end_refusal (after unread s) ≡ stream_refusal s) × (stream_refusal s ≡ 0 → ⊥)
unfolding after
by_form [] = inr (refused_short [] (omega arith), λ z. omega (arith, refused_short [] (omega arith)))
by_form (b ∷ l) = go l (eqb b 200) refl
  where
    refused : (x : ℕ) (s : List ℕ) → (x ≡ 0 → ⊥) → end_refusal (after unread s) ≡ x → x ≡ stream_refusal s → Formed s ⊎ (end_refusal (after unread s) ≡ stream_refusal s) × (stream_refusal s ≡ 0 → ⊥)
    refused x s h e f = inr (e ∙ f, λ z. h (f ∙ z))

    one : (l : List ℕ) → eqb b 200 ≡ false → (t : Bool) → in_sixteen b ≡ t → Formed (b ∷ l) ⊎ (end_refusal (after unread (b ∷ l)) ≡ stream_refusal (b ∷ l)) × (stream_refusal (b ∷ l) ≡ 0 → ⊥)
    one l form true e = inl (formed_one b l form e)
    one l form false e =
        let o : opening (b ∷ l) ≡ 0 = opening_one (b ∷ l) form in
        refused 5 (b ∷ l) (λ z. omega arith) (one_bad b l form e) (refused_units (b ∷ l) (omega arith) (rw o e))

    two : (n : ℕ) (l : List ℕ) → eqb b 200 ≡ true → (t : Bool) → in_sixteen n ≡ t → Formed (b ∷ n ∷ l) ⊎ (end_refusal (after unread (b ∷ n ∷ l)) ≡ stream_refusal (b ∷ n ∷ l)) × (stream_refusal (b ∷ n ∷ l) ≡ 0 → ⊥)
    two n l form true e = inl (formed_two b n l form e)
    two n l form false e =
        let o : opening (b ∷ n ∷ l) ≡ 1 = opening-two (b ∷ n ∷ l) form in
        refused 5 (b ∷ n ∷ l) (λ z. omega arith) (two_bad b n l form e) (refused_units (b ∷ n ∷ l) (omega arith) (rw o e))

    go : (l : List ℕ) (t : Bool) → eqb b 200 ≡ t → Formed (b ∷ l) ⊎ (end_refusal (after unread (b ∷ l)) ≡ stream_refusal (b ∷ l)) × (stream_refusal (b ∷ l) ≡ 0 → ⊥)
    go l false form = one l form (in_sixteen b) refl
    go [] true form = refused 6 (b ∷ []) (λ z. omega arith) (rw form refl) (refused_short (b ∷ []) (rw (opening-two (b ∷ []) form) (omega arith)))
    go (n ∷ l) true form = two n l form (in_sixteen n) refl

-- what is wrong with a stream
pub end_refusal_lem : (s : List ℕ) → end_refusal (after unread s) ≡ stream_refusal s
end_refusal_lem s = ⊎_elim (λ F. ends_as_read s F.l F.m F.row F.U F.some F.units F.behind F.unaries F.n_good F.begun F.costs) (λ w. w.0) (by_form s)

-- an accepted stream is whole behind its last byte; n and the sizes are in
pub accepted_reader : (s : List ℕ) → Accepted s → after unread s ≡ at_end (based (units_of s) (sizes_of s ++ drop (units_of s) (replicate 16 0)) 0)
unfolding Accepted
accepted_reader s ok = ⊎_elim (λ F. whole F) (λ w. absurd (w.1 ok)) (by_form s)
  where
    whole : Formed s → after unread s ≡ at_end (based (units_of s) (sizes_of s ++ drop (units_of s) (replicate 16 0)) 0)
    whole F =
        let sizes : take (suc F.m) F.l ≡ sizes_of s = sym (rw (F.units, F.behind) refl) in
        whole_as_read s F.l F.m F.row F.U F.some F.units F.behind F.unaries F.n_good F.begun F.costs (rw sizes (accepted_all s ok)) (accepted_length s ok)
        ∙ ap (λ (x : ℕ). at_end (based (suc F.m) (take (suc F.m) F.l ++ drop (suc F.m) (replicate 16 0)) x)) ok
        ∙ ap (λ (x : List ℕ). at_end (based (suc F.m) (x ++ drop (suc F.m) (replicate 16 0)) 0)) sizes
        ∙ ap (λ (x : ℕ). at_end (based x (sizes_of s ++ drop x (replicate 16 0)) 0)) (sym F.units)
