-- The costs of a stream as they come in: of a run, of a row, of all rows. Where just as many bytes come as there are, the stream is whole behind
-- them; check 7 has found what it finds in them together; and what is kept is the runs that touch the unit.
-- By induction on the costs of a run, the units of a row, the rows. Assumes nothing.
use Prim.Native.Nat.{ℕ, zero, suc, ◌+◌, ◌*◌, ◌-◌, ◌≤◌}
use Rattle.std.specs.Prelude.{◌≡◌, Bool, ◌&&◌, ◌||◌, length, take, drop}
use Rattle.std.proofs.Math.Path.{refl, sym, ap}
use Rattle.std.proofs.Common.{◌∙◌, add-zero, add_assoc, zero-add, take-append-drop, get_or-drop, drop-drop, length-take-le}
use Rattle.std.proofs.Math.Bool.{true, false, cond}
use mathlib.Core.List.{List, [], ◌∷◌, ◌++◌}
use native.Mathlib.Omega.{arith}
use Rattle.std.proofs.Math.Nat.{mul-add, mul-le-mul, mul-zero}
use Rattle.std.proofs.Math.Dec.{leb, eqb}
use Rattle.std.proofs.Math.ListN.{get_or, length-drop}
use borrow.Author.Tests.{lt-ltb, le-leb, lt-leb, leb-false, ne_eqb}
use Rattle.base.specs.Shape.{is_value, all_in_sixteen}
use Rattle.base.specs.Shape.Laws.{value_range, and_left, and_right}
use Rattle.table.specs.Stream.{pair_good, costs_good, sum_list, pairs_in}
use Rattle.table.specs.StreamLaws.{costs_same, costs_split, costs_part}
use Rattle.start.specs.declared.Reader.{Reader}
use Rattle.start.specs.declared.Stage.TheVariants.{Low}
use Rattle.start.specs.Byte.{values_of, at_run, at_end, to_run, test_of, after, kept}
use Rattle.start.specs.Fold.{after_append, kept_append}

-- ---- check 7 of costs that come one after the other

-- the refusal where x was found before, and m costs of l come
abbrev pub found : (ℕ → Bool) → ℕ → List ℕ → ℕ → ℕ
found good x l m = cond (costs_good good l 0 m) x 7

pub both : (a b : Bool) (x : ℕ) → cond b (cond a x 7) 7 ≡ cond (a && b) x 7
both true b x = refl
both false true x = refl
both false false x = refl

module _ (good : ℕ → Bool) where
  pub costs_behind : (l : List ℕ) (k j m : ℕ) → costs_good good (drop k l) j m ≡ costs_good good l (k + j) m
  costs_behind l k j m = costs_same good (drop k l) l j (k + j) m (λ i h. get_or-drop k l (j + i) 0 ∙ rw (add_assoc k j i))

  pub found_append : (x : ℕ) (l : List ℕ) (a b : ℕ) → found good (found good x (take (2 * a) l) a) (drop (2 * a) l) b ≡ found good x l (a + b)
  found_append x l a b =
      rw (costs_part good l 0 a (2 * a) (omega arith), costs_behind l (2 * a) 0 b, add-zero, costs_split good l 0 a b, zero-add) (both (costs_good good l 0 a) (costs_good good l (2 * a) b) x)

nothing : (l : List ℕ) → length l ≡ 0 → l ≡ []
nothing [] h = refl
nothing (x ∷ l) h = absurd (omega arith)

-- bytes up to a place, and those behind it
pub split_after : (r : Reader) {q : Reader} (k : ℕ) (l : List ℕ) → after r (take k l) ≡ q → after r l ≡ after q (drop k l)
split_after r k l e = ap (after r) (sym (take-append-drop k l)) ∙ after_append r (take k l) (drop k l) ∙ rw e

pub split_kept : (own : ℕ) (r : Reader) {q : Reader} (k : ℕ) (l : List ℕ) → after r (take k l) ≡ q → kept own r l ≡ kept own r (take k l) ++ kept own q (drop k l)
split_kept own r k l e = ap (kept own r) (sym (take-append-drop k l)) ∙ kept_append own r (take k l) (drop k l) ∙ rw e

-- ---- what is kept

-- what is kept of the runs of a row of d values with units of these sizes, the first of which is `unit`
abbrev pub row_kept : ℕ → ℕ → ℕ → ℕ → List ℕ → List ℕ → List ℕ
row_kept own row d unit [] l = []
row_kept own row d unit (e ∷ es) l = cond (eqb row own || eqb unit own) (take (2 * (d * e)) l) [] ++ row_kept own row d (unit + 1) es (drop (2 * (d * e)) l)

-- what is kept of the rows from `row` on, which have these sizes
abbrev pub rows_kept : ℕ → ℕ → List ℕ → List ℕ → List ℕ
rows_kept own row [] l = []
rows_kept own row (d ∷ ds) l = row_kept own row d (row + 1) ds (take (2 * (d * sum_list ds)) l) ++ rows_kept own (row + 1) ds (drop (2 * (d * sum_list ds)) l)

-- ---- a run

module _ (n : ℕ) (sizes : List ℕ) where
  -- so many costs of the run of a row and a unit are to come
  abbrev pub running : ℕ → ℕ → ℕ → ℕ → Reader
  running row unit left x = record { stage = Low; n = n; sizes = sizes; row = row; unit = unit; left = left; low = 0; refusal = x }

  -- n and the sizes are in, and check 7 has found this
  abbrev pub based : ℕ → Reader
  based x = running 0 0 0 x

  module _ (row unit : ℕ) where
    pub run_after : (m x : ℕ) (l : List ℕ) → length l ≡ 2 * suc m → after (running row unit (suc m) x) l ≡ to_run (based (found (test_of row) x l (suc m))) row (unit + 1)
    unfolding after to_run
    run_after m x [] h = absurd (omega arith)
    run_after m x (a ∷ []) h = absurd (omega arith)
    run_after zero x (a ∷ b ∷ []) h = refl
    run_after zero x (a ∷ b ∷ c ∷ l) h = absurd (omega arith)
    run_after (suc m) x (a ∷ b ∷ l) h =
        let e : 1 + suc m ≡ suc (suc m) = omega arith in
        let q : suc (suc m) - 1 ≡ suc m = omega arith in
        rw (lt-ltb 1 (suc (suc m)) (omega arith), q) (run_after m (found (test_of row) x (a ∷ b ∷ []) 1) l (omega arith)
        ∙ ap (λ (y : ℕ). to_run (based y) row (unit + 1)) (found_append (test_of row) x (a ∷ b ∷ l) 1 (suc m) ∙ ap (found (test_of row) x (a ∷ b ∷ l)) e))

    -- what is kept of it: all or nothing
    pub run-kept : (own m x : ℕ) (l : List ℕ) → length l ≡ 2 * suc m → kept own (running row unit (suc m) x) l ≡ cond (eqb row own || eqb unit own) l []
    unfolding kept
    run-kept own m x l h = go (eqb row own || eqb unit own) refl m x l h
      where
        less : (m : ℕ) → suc (suc m) - 1 ≡ suc m
        less m = omega arith

        go : (t : Bool) → (eqb row own || eqb unit own) ≡ t → (m x : ℕ) (l : List ℕ) → length l ≡ 2 * suc m → kept own (running row unit (suc m) x) l ≡ cond t l []
        go t e m x [] h = absurd (omega arith)
        go t e m x (a ∷ []) h = absurd (omega arith)
        go true e zero x (a ∷ b ∷ []) h = rw e refl
        go false e zero x (a ∷ b ∷ []) h = rw e refl
        go t e zero x (a ∷ b ∷ c ∷ l) h = absurd (omega arith)
        go true e (suc m) x (a ∷ b ∷ l) h = rw (e, lt-ltb 1 (suc (suc m)) (omega arith), less m) (ap (λ (y : List ℕ). a ∷ b ∷ y) (go true e m (found (test_of row) x (a ∷ b ∷ []) 1) l (omega arith)))
        go false e (suc m) x (a ∷ b ∷ l) h = rw (e, lt-ltb 1 (suc (suc m)) (omega arith), less m) (go false e m (found (test_of row) x (a ∷ b ∷ []) 1) l (omega arith))

  -- ---- a row

  -- the units from `unit` on have these sizes
  pub record From (unit : ℕ) (es : List ℕ) : Type 0 where
    pub rest : List ℕ
    pub said : drop unit (1 ∷ sizes) ≡ es ++ rest
    pub good : all_in_sixteen es ≡ true
    pub last : unit + length es ≡ suc n

  next_from : (unit e : ℕ) (es : List ℕ) → From unit (e ∷ es) → (From (unit + 1) es) × (values_of sizes unit ≡ e) × (1 ≤ e) × (unit ≤ n)
  unfolding all_in_sixteen
  next_from unit e es f =
      let h = value_range 16 e (and_left (is_value 16 e) (all_in_sixteen es) f.good) in
      let l : unit + suc (length es) ≡ suc n = f.last in (
        record { rest = f.rest; said = sym (drop-drop 1 unit (1 ∷ sizes)) ∙ ap (drop 1) f.said; good = and_right (is_value 16 e) (all_in_sixteen es) f.good; last = omega arith },
        sym (get_or-drop unit (1 ∷ sizes) 0 0 ∙ rw (add-zero unit)) ∙ ap (λ (m : List ℕ). get_or m 0 0) f.said,
        h.0,
        omega arith,
      )

  module _ (own row d : ℕ) (known : values_of sizes row ≡ d) (some : 1 ≤ d) where
    -- a run of d * e costs, one and more
    begun : (unit e x : ℕ) → values_of sizes unit ≡ e → 1 ≤ e → unit ≤ n → to_run (based x) row unit ≡ running row unit (suc (d * e - 1)) x
    unfolding to_run
    begun unit e x v some' h =
        let p : 1 * 1 ≤ d * e = mul-le-mul some some' in
        let q : d * e ≡ suc (d * e - 1) = omega arith in
        rw (le-leb unit n h, known, v) (ap (λ (m : ℕ). running row unit m x) q)

    run_in : (unit e x : ℕ) (l : List ℕ) → values_of sizes unit ≡ e → 1 ≤ e → unit ≤ n → length l ≡ 2 * (d * e)
        → (after (to_run (based x) row unit) l ≡ to_run (based (found (test_of row) x l (d * e))) row (unit + 1)) × (kept own (to_run (based x) row unit) l ≡ cond (eqb row own || eqb unit own) l [])
    run_in unit e x l v some' h long =
        let p : 1 * 1 ≤ d * e = mul-le-mul some some' in
        let q : suc (d * e - 1) ≡ d * e = omega arith in
        rw (begun unit e x v some' h) (
          run_after row unit (d * e - 1) x l (omega arith) ∙ ap (λ (m : ℕ). to_run (based (found (test_of row) x l m)) row (unit + 1)) q,
          run-kept row unit own (d * e - 1) x l (omega arith),
        )

    pub row_in : (es : List ℕ) (unit x : ℕ) (l : List ℕ) → From unit es → length l ≡ 2 * (d * sum_list es)
        → (after (to_run (based x) row unit) l ≡ to_run (based (found (test_of row) x l (d * sum_list es))) row (suc n))
        × (kept own (to_run (based x) row unit) l ≡ row_kept own row d unit es l)
    unfolding sum_list after kept costs_good
    row_in [] unit x l f h =
        let e : l ≡ [] = nothing l (omega arith) in
        let u : unit ≡ suc n = omega (arith, f.last) in
        rw (e, u, mul-zero d) (refl, refl)
    row_in (e ∷ es) unit x l f h =
        let g = next_from unit e es f in
        let k : ℕ = 2 * (d * e) in
        let sum : d * (e + sum_list es) ≡ d * e + d * sum_list es = mul-add d e (sum_list es) in
        let r = run_in unit e x (take k l) g.1 g.2 g.3 (length-take-le k l (omega arith)) in
        let y : ℕ = found (test_of row) x (take k l) (d * e) in
        let i = row_in es (unit + 1) y (drop k l) g.0 (rw length-drop (omega arith)) in (
          split_after (to_run (based x) row unit) k l r.0 ∙ i.0 ∙ ap (λ (z : ℕ). to_run (based z) row (suc n)) (found_append (test_of row) x l (d * e) (d * sum_list es) ∙ ap (found (test_of row) x l) (sym sum)),
          split_kept own (to_run (based x) row unit) k l r.0 ∙ rw (r.1, i.1) refl,
        )

  -- ---- all rows

  -- behind its last unit a row ends, and the next begins
  pub next_row : (x row : ℕ) → to_run (based x) row (suc n) ≡ to_run (based x) (row + 1) (row + 1 + 1)
  unfolding to_run
  next_row x row =
      let e : row + 1 + 1 ≡ row + 2 = omega arith in
      rw (lt-leb (suc n) n (omega arith), e) (go (leb (row + 2) n) refl)
    where
      go : (t : Bool) → leb (row + 2) n ≡ t → cond t (at_run (based x) (row + 1) (row + 2)) (at_end (based x)) ≡ cond t (at_run (based x) (row + 1) (row + 2)) (cond (leb (row + 1 + 2) n) (at_run (based x) (row + 2) (row + 1 + 2)) (at_end (based x)))
      go true q = refl
      go false q = let h = leb-false (row + 2) n q in rw (lt-leb (row + 1 + 2) n (omega arith))

  pub rows_end : (x : ℕ) → to_run (based x) (suc n) (suc n + 1) ≡ at_end (based x)
  unfolding to_run
  rows_end x = rw (lt-leb (suc n + 1) n (omega arith), lt-leb (suc n + 2) n (omega arith))

  pub rows_in : (own : ℕ) (ds : List ℕ) (row x : ℕ) (l : List ℕ) → 1 ≤ row → From row ds → length l ≡ 2 * pairs_in ds
      → (after (to_run (based x) row (row + 1)) l ≡ at_end (based (found pair_good x l (pairs_in ds)))) × (kept own (to_run (based x) row (row + 1)) l ≡ rows_kept own row ds l)
  unfolding pairs_in after kept costs_good
  rows_in own [] row x l pos f h =
      let e : l ≡ [] = nothing l (omega arith) in
      let u : row ≡ suc n = omega (arith, f.last) in
      rw (e, u) (rows_end x, refl)
  rows_in own (d ∷ ds) row x l pos f h =
      let g = next_from row d ds f in
      let k : ℕ = 2 * (d * sum_list ds) in
      let r = row_in own row d g.1 g.2 ds (row + 1) x (take k l) g.0 (length-take-le k l (omega arith)) in
      let y : ℕ = found (test_of row) x (take k l) (d * sum_list ds) in
      let t : test_of row ≡ pair_good = rw (ne_eqb row 0 (λ z. omega arith)) in
      let i = rows_in own ds (row + 1) y (drop k l) (omega arith) g.0 (rw length-drop (omega arith)) in (
        split_after (to_run (based x) row (row + 1)) k l (r.0 ∙ next_row y row) ∙ i.0 ∙ ap (λ (z : ℕ). at_end (based z)) (rw t (found_append pair_good x l (d * sum_list ds) (pairs_in ds))),
        split_kept own (to_run (based x) row (row + 1)) k l (r.0 ∙ next_row y row) ∙ rw (r.1, i.1) refl,
      )
