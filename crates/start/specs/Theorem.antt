-- What is kept of an accepted stream for one of its units, byte after byte, is what gathering gives: `kept-gathered`. By the two forms: the sizes,
-- then unary costs, then pair costs. Assumes nothing.
use Prim.Native.Nat.{ℕ, zero, suc, ◌+◌, ◌*◌, ◌-◌, ◌≤◌, ◌<◌}
use Rattle.std.specs.Prelude.{◌≡◌, refl, true, false}
use Rattle.std.proofs.Common.{sym, ◌∙◌, ⊎_elim, arith, length-take-le, take_all}
use Rattle.std.proofs.Math.Path.{ap}
use mathlib.Core.List.{List, [], ◌∷◌, ◌++◌}
use Rattle.std.proofs.Math.ListN.{length, get_or, take, drop, replicate, length-drop}
use Rattle.std.proofs.Math.Seq.{drop-drop}
use Rattle.base.specs.Shape.{all_in_sixteen}
use Rattle.base.specs.Shape.Laws.{value_range}
use Rattle.table.specs.Stream.{opening, units_of, sizes_of, unaries_in, unaries_at, pairs_at, sum_list, pairs_in, in_form_two, Accepted}
use Rattle.table.specs.StreamLaws.{accepted_all, accepted_length, unaries_one, unaries_two}
use Rattle.base.specs.Sums.{sum_to}
use Rattle.base.specs.Sums.Laws.{sum_to_sum_from}
use Rattle.costs.specs.Instance.{dom_of}
use Rattle.costs.specs.Gathered.{gathered}
use Rattle.start.specs.Byte.{unread, to_run, after, kept}
use Rattle.start.specs.Runs.{based, row_kept, rows_kept, split_kept}
use Rattle.start.specs.Refused.{Formed, by_form, sizing, sizes_all}
use Rattle.start.specs.Kept.{sizes_kept, sizes-kept, kept_one, kept-two, row_before}
use Rattle.start.specs.Gathered.{take_within, part_sum, pairs-gathered, zeros-kept, none_kept}

sum_room : (ds : List ℕ) (k : ℕ) → k < length ds → sum_list (take k ds) + get_or ds k 0 ≤ sum_list ds
unfolding sum_list
sum_room [] k h = absurd (omega arith)
sum_room (d ∷ ds) zero h = omega arith
sum_room (d ∷ ds) (suc k) h = omega (arith, sum_room ds k (omega arith))

-- the sizes, then the costs
sizes_then : (own m row : ℕ) (l : List ℕ) → suc m ≤ 16 → suc m ≤ length l → all_in_sixteen (take (suc m) l) ≡ true
    → kept own (sizing (suc m) row (replicate 16 0) 0) l ≡ sizes_kept own row 0 (take (suc m) l) ++ kept own (to_run (based (suc m) (take (suc m) l ++ drop (suc m) (replicate 16 0)) 0) row (row + 1)) (drop (suc m) l)
unfolding after
sizes_then own m row l most h good =
    let ds : List ℕ = take (suc m) l in
    let many : length ds ≡ suc m = length-take-le (suc m) l h in
    let same : take (suc m) ds ≡ ds = take_all (suc m) ds (omega arith) in
    let none : drop (suc m) ds ≡ [] = nothing (drop (suc m) ds) (rw length-drop (omega arith)) in
    let r = sizes_all (suc m) row m ds [] (replicate 16 0) (omega arith) most (omega arith) (rw same good) in
    split_kept own (sizing (suc m) row (replicate 16 0) 0) (suc m) l (rw (same, none) at r)
    ∙ ap (λ (x : List ℕ). x ++ kept own (to_run (based (suc m) (ds ++ drop (suc m) (replicate 16 0)) 0) row (row + 1)) (drop (suc m) l)) (sizes-kept (suc m) row own ds (replicate 16 0) 0 good (omega arith))
  where
    nothing : (x : List ℕ) → length x ≡ 0 → x ≡ []
    nothing [] e = refl
    nothing (y ∷ x) e = absurd (omega arith)

module _ (s : List ℕ) (ok : Accepted s) (F : Formed s) (k : ℕ) (in-n : k < units_of s) where
  abbrev sizes : List ℕ
  sizes = take (suc F.m) F.l

  abbrev cost_bytes : List ℕ
  cost_bytes = drop (suc F.m) F.l

  sizes_are : sizes ≡ sizes_of s
  sizes_are = sym (rw (F.units, F.behind) refl)

  sizes_good : all_in_sixteen sizes ≡ true
  sizes_good = rw sizes_are (accepted_all s ok)

  long : length F.l ≡ length s - (opening s + 1)
  long = rw (← F.behind) (length-drop (opening s + 1) s)

  sizes_fit : suc F.m ≤ length F.l
  sizes_fit = omega (arith, long, accepted_length s ok, F.units)

  many : length sizes ≡ suc F.m
  many = length-take-le (suc F.m) F.l sizes_fit

  place : cost_bytes ≡ drop (unaries_at s) s
  place = rw (← F.behind, ← F.units) (drop-drop (units_of s) (opening s + 1) s)

  -- a table of form one
  gathered_one : F.row ≡ 1 → in_form_two s ≡ false → kept (suc k) unread s ≡ gathered s (suc k)
  unfolding gathered
  gathered_one r f =
      let z : List ℕ = drop (suc F.m) (replicate 16 0) in
      let u : unaries_in s ≡ 0 = unaries_one s f in
      let c : length cost_bytes ≡ 2 * pairs_in sizes = rw length-drop (omega (arith, long, accepted_length s ok, F.units, u, ap pairs_in sizes_are)) in
      let at : unaries_at s ≡ pairs_at s = omega (arith, u) in
      F.opens (suc k) ∙ sizes_then (suc k) F.m F.row F.l (value_range 16 (suc F.m) F.n_good).1 sizes_fit sizes_good
      ∙ rw (r, f)
      (ap (λ (x : List ℕ). x ++ kept (suc k) (to_run (based (suc F.m) (sizes ++ z) 0) 1 2) cost_bytes) (zeros-kept sizes 0 k (suc k) (omega arith) (omega (arith, many, F.units)) ∙ ap (λ (x : List ℕ). replicate (2 * get_or x k 0) 0) sizes_are)
      ∙ ap (λ (x : List ℕ). replicate (2 * get_or (sizes_of s) k 0) 0 ++ x) (kept_one (suc F.m) sizes z sizes_good many (suc k) cost_bytes c
      ∙ ap (λ (x : List ℕ). rows_kept (suc k) 1 x cost_bytes) sizes_are ∙ ap (rows_kept (suc k) 1 (sizes_of s)) (place ∙ ap (λ (x : ℕ). drop x s) at) ∙ pairs-gathered s ok k in-n))

  -- its unary costs, in form two
  unary_part : row_kept (suc k) 0 1 1 sizes (take (2 * sum_list sizes) cost_bytes) ≡ take (2 * dom_of s k) (drop (unaries_at s + 2 * sum_to (dom_of s) k) s)
  unary_part =
      let one : 1 * get_or sizes k 0 ≡ get_or sizes k 0 = omega arith in
      let sum : 1 * sum_list (take k sizes) ≡ sum_list (take k sizes) = omega arith in
      let in-sizes : k < length sizes = omega (arith, many, F.units) in
      let sums : sum_list (take k (sizes_of s)) ≡ sum_to (dom_of s) k = part_sum (sizes_of s) 0 k (omega (arith, in-sizes, ap length sizes_are)) ∙ sym (sum_to_sum_from (dom_of s) k) in
      row_before (suc k) 0 1 sizes 1 k (take (2 * sum_list sizes) cost_bytes) (λ q. omega (arith, q)) (omega arith) in-sizes
      ∙ rw (one, sum) (take_within (2 * get_or sizes k 0) (2 * sum_list (take k sizes)) (2 * sum_list sizes) cost_bytes (omega (arith, sum_room sizes k in-sizes))
      ∙ ap (λ (x : List ℕ). take (2 * get_or x k 0) (drop (2 * sum_list (take k x)) cost_bytes)) sizes_are
      ∙ ap (λ (x : ℕ). take (2 * dom_of s k) (drop (2 * x) cost_bytes)) sums
      ∙ ap (λ (x : List ℕ). take (2 * dom_of s k) (drop (2 * sum_to (dom_of s) k) x)) place
      ∙ ap (take (2 * dom_of s k)) (drop-drop (2 * sum_to (dom_of s) k) (unaries_at s) s))

  -- a table of form two
  gathered-two : F.row ≡ 0 → in_form_two s ≡ true → kept (suc k) unread s ≡ gathered s (suc k)
  unfolding gathered
  gathered-two r f =
      let z : List ℕ = drop (suc F.m) (replicate 16 0) in
      let u : unaries_in s ≡ sum_list sizes = unaries_two s f ∙ ap sum_list (sym sizes_are) in
      let c : length cost_bytes ≡ 2 * sum_list sizes + 2 * pairs_in sizes = rw length-drop (omega (arith, long, accepted_length s ok, F.units, u, ap pairs_in sizes_are)) in
      let at : unaries_at s + 2 * sum_list sizes ≡ pairs_at s = omega (arith, u) in
      let pairs : drop (2 * sum_list sizes) cost_bytes ≡ drop (pairs_at s) s = ap (drop (2 * sum_list sizes)) place ∙ drop-drop (2 * sum_list sizes) (unaries_at s) s ∙ ap (λ (x : ℕ). drop x s) at in
      F.opens (suc k) ∙ sizes_then (suc k) F.m F.row F.l (value_range 16 (suc F.m) F.n_good).1 sizes_fit sizes_good
      ∙ rw (r, f)
      (ap (λ (x : List ℕ). x ++ kept (suc k) (to_run (based (suc F.m) (sizes ++ z) 0) 0 1) cost_bytes) (none_kept sizes 0 (suc k))
      ∙ kept-two (suc F.m) sizes z sizes_good many (suc k) cost_bytes c
      ∙ ap (λ (x : List ℕ). x ++ rows_kept (suc k) 1 sizes (drop (2 * sum_list sizes) cost_bytes)) unary_part
      ∙ ap (λ (x : List ℕ). take (2 * dom_of s k) (drop (unaries_at s + 2 * sum_to (dom_of s) k) s) ++ x)
      (ap (rows_kept (suc k) 1 sizes) pairs ∙ ap (λ (x : List ℕ). rows_kept (suc k) 1 x (drop (pairs_at s) s)) sizes_are ∙ pairs-gathered s ok k in-n))

-- byte after byte, what gathering gives
pub kept-gathered : (s : List ℕ) → Accepted s → (k : ℕ) → k < units_of s → kept (suc k) unread s ≡ gathered s (suc k)
unfolding Accepted
kept-gathered s ok k h = ⊎_elim (λ F. ⊎_elim (λ w. gathered_one s ok F k h w.0 w.1) (λ w. gathered-two s ok F k h w.0 w.1) F.form) (λ w. absurd (w.1 ok)) (by_form s)
