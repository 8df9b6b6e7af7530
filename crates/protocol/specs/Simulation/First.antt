-- The machine's best is the first: where all before it, in the order tried, is closed above its bound (`Passed`), the unit's array is the first least
-- assignment of the instance. Two arrays that differ first at unit k share a prefix, and the sooner value behind it is closed.
-- In order: values read as places; the prefix at which one comes before the other is closed, and so is all that extends it; what a unit reports.
-- Assumes nothing.
use Rattle.std.specs.Prelude.{ℕ, zero, suc, ◌-◌, ◌≤◌, ◌<◌, ◌≡◌, refl, ◌⊎◌, List, [], ◌∷◌, length, get_or}
use Rattle.std.proofs.Common.{sym, ap, ◌∙◌, subst, inl, inr, arith}
use Rattle.costs.specs.declared.ValueOrder.{ValueOrder}
use Rattle.costs.specs.Cost.{as_number}
use Rattle.costs.specs.Instance.{Instance, View, view_by}
use Rattle.costs.specs.Bounds.{total}
use Rattle.costs.specs.Order.{place_tried, value_at}
use Rattle.costs.specs.Order.Laws.{place-least, place-most, value_of_place}
use Rattle.costs.specs.Least.{Before, LeastFirst}
use Rattle.costs.specs.Problem.{ClosedBy, closed-next}
use Rattle.costs.specs.Laws.{Sound, cost_of, problem_of}
use Rattle.costs.specs.Laws.Prefix.{pre, length_pre, pre_cong, total_prefix, in_dom_prefix}
use Rattle.costs.proofs.Laws.Prefix.{assignment_full}
use Rattle.costs.specs.Laws.Tried.{values_at, places_at, problem_by, places_of_values, closed_empty}
use Rattle.rules.specs.declared.Unit.{Unit as UnitState}
use Rattle.protocol.specs.Problem.{NONE, Full, InDomains, Closed, closed-least, ValidBound, Passed}
use Rattle.protocol.specs.Machine.{Agent}
use Rattle.protocol.specs.Tests.{le_split}
use Rattle.protocol.specs.Simulation.Relations.{AtRest}
use Rattle.protocol.specs.Simulation.Report.{full_read, reports}

module _ (order : ValueOrder) (I : Instance) where
  -- ---- values read as places

  length_places : (b : List ℕ) → length (places_at order I b) ≡ length b
  length_places [] = refl
  length_places (v ∷ b) = ap suc (length_places b)

  values_of_places : (b : List ℕ) → InDomains (problem_of I) b → values_at order I (places_at order I b) ≡ b
  values_of_places [] d = refl
  values_of_places (v ∷ b) d =
      let e : length (places_at order I b) ≡ length b = length_places b in
      let a : value_at (view_by order I (length b)) (place_tried (view_by order I (length b)) v) ≡ v = value_of_place (view_by order I (length b)) v d.1 in
      let c : values_at order I (places_at order I b) ≡ b = values_of_places b d.2 in
      rw e cc

  -- the places of the first k values of an array
  abbrev places_to : ℕ → List ℕ → List ℕ
  places_to k l = places_at order I (pre k l)

  length_to : (k : ℕ) (l : List ℕ) → length (places_to k l) ≡ k
  length_to k l = length_places (pre k l) ∙ length_pre k l

  -- ---- one array before another

  -- a sooner value behind a prefix of a is closed
  passed_at : (C k n : ℕ) (a : List ℕ) → k < n → Passed (problem_by order I) (places_to n a) C → (v : ℕ) → 1 ≤ v → v < place_tried (view_by order I k) (get_or a k 0)
      → Closed (problem_by order I) (v ∷ places_to k a) C
  passed_at C k zero a lt ps v lo hi = absurd (omega (arith, lt))
  passed_at C k (suc n) a lt ps v lo hi = go (le_split (suc k) n lt) (λ l. passed_at C k n a l ps.1 v lo hi)
    where
      go : (suc k ≤ n) ⊎ (suc k ≡ suc n) → (suc k ≤ n → Closed (problem_by order I) (v ∷ places_to k a) C) → Closed (problem_by order I) (v ∷ places_to k a) C
      go (inl l) ih = ih l
      go (inr e) ih =
          let q : k ≡ n = omega (arith, e) in
          let sooner : v < place_tried (view_by order I (length (pre n a))) (get_or a n 0) = subst (λ j. v < place_tried (view_by order I j) (get_or a n 0)) (sym (length_pre n a)) (rw q at hi) in
          subst (λ j. Closed (problem_by order I) (v ∷ places_to j a) C) (sym q) (ps.0 v lo sooner)

  -- and so is all that extends it
  closed_on : (C k n : ℕ) (l : List ℕ) → k ≤ n → n ≤ I.n → InDomains (problem_of I) (pre n l) → Closed (problem_by order I) (places_to k l) C → Closed (problem_by order I) (places_to n l) C
  closed_on C k zero l hi le d c = let q : k ≡ 0 = omega (arith, hi) in subst (λ j. Closed (problem_by order I) (places_to j l) C) q c
  closed_on C k (suc n) l hi le d c = go (le_split k n hi) (λ a. closed_on C k n l a (omega (arith, le)) d.2 c)
    where
      go : (k ≤ n) ⊎ (k ≡ suc n) → (k ≤ n → Closed (problem_by order I) (places_to n l) C) → Closed (problem_by order I) (places_to (suc n) l) C
      go (inl a) ih =
          let w : View = view_by order I (length (pre n l)) in
          closed-next (problem_by order I) (places_to n l) (place_tried w (get_or l n 0)) C (omega (arith, le, length_to n l)) (place-least w (get_or l n 0) d.0)
          (subst (λ j. place_tried w (get_or l n 0) ≤ I.dom j) (sym (length_places (pre n l))) (place-most w (get_or l n 0) d.1)) (ih a)
      go (inr q) ih = subst (λ j. Closed (problem_by order I) (places_to j l) C) q c

  -- of two assignments, the one before a
  before_closed : (C : ℕ) (m a : List ℕ) → Full (problem_of I) (pre I.n m) → Before order I m a → Passed (problem_by order I) (places_to I.n a) C → C ≤ as_number (total I m)
  before_closed C m a f bf ps =
      subst (λ x. C ≤ as_number x) (ap (cost_of I) (values_of_places (pre I.n m) f.1) ∙ sym (total_prefix I m))
      (subst (λ r. ClosedBy (problem_by order I) r (places_to I.n m) C) full (closed_on C (suc bf.place) I.n m bf.inside (omega arith) f.1 next) permitted)
    where
      full : I.n - length (places_to I.n m) ≡ 0
      full = omega (arith, length_to I.n m)

      permitted : as_number (cost_of I (values_at order I (places_to I.n m))) < NONE
      permitted = subst (λ b. as_number (cost_of I b) < NONE) (sym (values_of_places (pre I.n m) f.1)) f.2

      next : Closed (problem_by order I) (places_to (suc bf.place) m) C
      next =
          let e : pre bf.place a ≡ pre bf.place m = pre_cong bf.place a m (λ i h. sym (bf.same i h)) in
          let v : ℕ = place_tried (view_by order I bf.place) (get_or m bf.place 0) in
          let c : Closed (problem_by order I) (v ∷ places_at order I (pre bf.place a)) C = passed_at C bf.place I.n a bf.inside ps v (place-least (view_by order I bf.place) (get_or m bf.place 0) (in_dom_prefix I I.n m f.1 bf.place bf.inside).0) bf.sooner in
          rw (length_pre bf.place m, ← e) c

  -- ---- what a unit reports

  module _ (snd : Sound I) where
    pub reports_first : (k : ℕ) (s : UnitState) (u : Agent) → AtRest order I k s u → ValidBound (problem_by order I) u.bound u.best → Closed (problem_by order I) [] u.bound
        → Passed (problem_by order I) u.best (suc u.bound) → LeastFirst order I s.bound s.best
    reports_first k s u r valid closed ps = record { reported = reports order I snd k s u r valid closed; first = λ m am bf. go m (assignment_full I snd m am) bf valid }
      where
        go : (m : List ℕ) → Full (problem_of I) (pre I.n m) → Before order I m s.best → ValidBound (problem_by order I) u.bound u.best → s.bound < as_number (total I m)
        go m f bf (inl q) =
            let c : Closed (problem_of I) [] u.bound = closed_empty order I u.bound closed in
            absurd (omega (arith, q.0, closed-least (problem_of I) u.bound c (pre I.n m) f, f.2))
        go m f bf (inr q) =
            let e : places_at order I (pre I.n s.best) ≡ u.best = ap (places_at order I) (full_read order I snd u.best s.best q.1.0 r.common.best_is) ∙ places_of_values order I u.best q.1.1 in
            rw r.common.bound_is (before_closed (suc u.bound) m s.best f bf (subst (λ l. Passed (problem_by order I) l (suc u.bound)) (sym e) ps))
