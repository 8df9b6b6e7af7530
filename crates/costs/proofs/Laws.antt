-- The laws of an instance's problem (L1 to L6 of the protocol's proof). They go by one fact, `bound`: the cost so far and all estimates bound every full
-- assignment, as one value more counts each pair of unassigned units once. Assumes nothing.
use Rattle.std.specs.Prelude.{◌≡◌, ℕ, zero, suc, ◌+◌, ◌-◌, ◌≤◌, List, [], ◌∷◌, length, Some}
use Rattle.std.proofs.Common.{sym, subst, arith}
use Rattle.base.specs.Sums as N
use Rattle.costs.specs.Cost.{Cost, ◌⊕◌, sum_from, least, as_number}
use Rattle.costs.specs.Cost.Laws.{add_assoc, add_zero, ◌⊑◌, le_refl, le_trans, add_mono, add_more, sum_from_add_le, number_le, at_least, numbers_le, reached, number_mono}
use Rattle.costs.proofs.LeastOf.{least_le, least_add}
use Rattle.costs.specs.Instance.{Instance}
use Rattle.costs.specs.Problem.{ClosedBy, Closed, Laws}
use Rattle.costs.specs.Laws.{Sound, against, cost_le_lookahead, cost_of, estimate_of, h_of, lookahead_of, one_more, problem_of}
pub mod Prefix
pub mod Tried

module _ (I : Instance) where
  -- one value more counts each pair of unassigned units once: h of the value, and the estimates without it
  estimate-step : (b : List ℕ) (v j : ℕ) → least (λ w. I.cost (length b) v j w) (I.dom j) ⊕ estimate_of I j b ⊑ estimate_of I j (v ∷ b)
  estimate-step b v j =
      least_add (λ w. I.cost (length b) v j w) (λ w. against I j w b ⊕ h_of I j w) (λ w. against I j w (v ∷ b) ⊕ h_of I j w)
      (λ w. sym (add_assoc (I.cost (length b) v j w) (against I j w b) (h_of I j w))) (I.dom j)

  estimate-steps : (b : List ℕ) (v lo m : ℕ)
      → sum_from (λ j. least (λ w. I.cost (length b) v j w) (I.dom j)) lo m ⊕ sum_from (λ j. estimate_of I j b) lo m ⊑ sum_from (λ j. estimate_of I j (v ∷ b)) lo m
  estimate-steps b v lo m = sum_from_add_le (λ j. least (λ w. I.cost (length b) v j w) (I.dom j)) (λ j. estimate_of I j b) (λ j. estimate_of I j (v ∷ b)) (estimate-step b v) lo m

  -- the cost so far and all estimates bound every full assignment
  bound : (r : ℕ) (b : List ℕ) → length b + r ≡ I.n → (B : ℕ) → Some B ⊑ cost_of I b ⊕ sum_from (λ j. estimate_of I j b) (length b) r → ClosedBy (problem_of I) r b B
  bound zero b e B le = λ few. reached B (cost_of I b) (subst (λ (x : Cost). Some B ⊑ x) (add_zero (cost_of I b)) le) few
  bound (suc r) b e B le = λ v lo hi.
      let k : ℕ = length b in
      let q : I.n - suc k ≡ r = omega arith in
      let later : h_of I k v ⊕ sum_from (λ j. estimate_of I j b) (suc k) r ⊑ sum_from (λ j. estimate_of I j (v ∷ b)) (suc k) r = rw q (estimate-steps b v (suc k) r) in
      bound r (v ∷ b) (omega arith) B
      (le_trans (Some B) (cost_of I b ⊕ (estimate_of I k b ⊕ sum_from (λ j. estimate_of I j b) (suc k) r)) (cost_of I (v ∷ b) ⊕ sum_from (λ j. estimate_of I j (v ∷ b)) (suc k) r) le
      (one_more (cost_of I b) (against I k v b) (estimate_of I k b) (h_of I k v) (sum_from (λ j. estimate_of I j b) (suc k) r) (sum_from (λ j. estimate_of I j (v ∷ b)) (suc k) r)
      (least_le (λ w. against I k w b ⊕ h_of I k w) (I.dom k) v lo hi) later))

  bounded : (b : List ℕ) (B : ℕ) → length b ≤ I.n → Some B ⊑ cost_of I b ⊕ sum_from (λ j. estimate_of I j b) (length b) (I.n - length b) → Closed (problem_of I) b B
  bounded b B l le = bound (I.n - length b) b (omega arith) B le

  by_estimates : (b : List ℕ) (B : ℕ) → length b ≤ I.n
      → B ≤ as_number (cost_of I b) + N.sum_from (λ j. as_number (estimate_of I j b)) (length b) (I.n - length b) → Closed (problem_of I) b B
  by_estimates b B l le =
      let m : ℕ = I.n - length b in
      let f : ℕ → Cost = λ j. estimate_of I j b in
      bounded b B l
      (le_trans (Some B) (Some (as_number (cost_of I b)) ⊕ Some (N.sum_from (λ j. as_number (f j)) (length b) m)) (cost_of I b ⊕ sum_from f (length b) m) le
      (add_mono (Some (as_number (cost_of I b))) (Some (N.sum_from (λ j. as_number (f j)) (length b) m)) (cost_of I b) (sum_from f (length b) m) (number_le (cost_of I b)) (numbers_le f (length b) m)))

  by_cost : (b : List ℕ) (B : ℕ) → length b ≤ I.n → B ≤ as_number (cost_of I b) → Closed (problem_of I) b B
  by_cost b B l le =
      let rest : Cost = sum_from (λ j. estimate_of I j b) (length b) (I.n - length b) in
      bounded b B l (le_trans (Some B) (cost_of I b) (cost_of I b ⊕ rest) (at_least B (cost_of I b) le) (add_more (cost_of I b) rest))

  by_lookahead : (b : List ℕ) (B : ℕ) → length b ≤ I.n → B ≤ as_number (lookahead_of I b) → Closed (problem_of I) b B
  by_lookahead [] B l le = by_cost [] B l le
  by_lookahead (v ∷ b) B l le =
      let m : ℕ = I.n - suc (length b) in
      let before : Cost = sum_from (λ j. estimate_of I j b) (suc (length b)) m in
      let rest : Cost = sum_from (λ j. estimate_of I j (v ∷ b)) (suc (length b)) m in
      let later : h_of I (length b) v ⊑ rest =
      le_trans (h_of I (length b) v) (h_of I (length b) v ⊕ before) rest (add_more (h_of I (length b) v) before) (estimate-steps b v (suc (length b)) m) in
      bounded (v ∷ b) B l
      (le_trans (Some B) (lookahead_of I (v ∷ b)) (cost_of I (v ∷ b) ⊕ rest) (at_least B (lookahead_of I (v ∷ b)) le)
      (add_mono (cost_of I (v ∷ b)) (h_of I (length b) v) (cost_of I (v ∷ b)) rest (le_refl (cost_of I (v ∷ b))) later))

  pub laws_of : Sound I → Laws (problem_of I)
  laws_of s =
      record {
        size_le_16 = s.dom16;
        cost_le_lookahead = λ b few. number_mono (cost_of I b) (lookahead_of I b) (cost_le_lookahead I b) few;
        closed_by_lookahead = by_lookahead;
        closed_by_cost = by_cost;
        closed_by_estimates = by_estimates;
      }
