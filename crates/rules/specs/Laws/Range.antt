-- A state in range, as facts: what 01's long sentence says of each part, from the tests of `in_range` and back.
-- Each test is taken apart or put together once, here. Assumes nothing.
use Rattle.std.specs.Prelude.{ℕ, suc, ◌+◌, ◌-◌, ◌≤◌, ◌<◌, ◌≡◌, refl, Bool, ◌&&◌, List, length, get_or}
use Rattle.std.proofs.Math.Bool.{true, false, cond}
use native.Mathlib.Omega.{arith}
use Rattle.std.proofs.Common.{add-one}
use Rattle.std.proofs.Math.Dec.{eqb}
use Rattle.std.specs.Ordering.{is_ge}
use borrow.Author.Tests.{leb-true, le-leb, eqb-true, eqb-false, eq-eqb, ne_eqb}
use Rattle.base.specs.Limits.{estimate_limit, prefix_limit}
use Rattle.base.specs.Shape.Laws.{and_left, and_right}
use Rattle.costs.specs.Instance.{View}
use Rattle.costs.specs.Order.{place_tried}
use Rattle.message.specs.Message.{filled_to, none_or_bound}
use Rattle.rules.specs.declared.Unit.{Unit}
use Rattle.rules.specs.State.{own_value, own_cost, compare_on, cpa_zero, cpa_out_in_range, paid_in_range, in_range_paid, in_range}
use Rattle.rules.specs.Laws.Filled.{most_at, at_most}

-- what the types of the code say of a state: arrays of 16 places
pub record SizedUnit (u : Unit) : Type 0 where
  pub threshold : length u.threshold ≡ 16
  pub best : length u.best ≡ 16
  pub estimates : length u.estimates ≡ 16
  pub stamp : length u.stamp ≡ 16
  pub values : length u.values ≡ 16

-- no CPA out
pub record NoCpa (sizes : List ℕ) (u : Unit) : Type 0 where
  pub stamp : filled_to 0 sizes u.stamp ≡ true
  pub values : filled_to 0 sizes u.values ≡ true
  pub cost : u.cost ≡ 0

-- a CPA out
pub record CpaOut (sizes : List ℕ) (w : View) (u : Unit) : Type 0 where
  pub stamp : filled_to (suc w.place) sizes u.stamp ≡ true
  pub values : filled_to (suc w.place) sizes u.values ≡ true
  pub cost : u.cost ≤ prefix_limit (suc w.place)
  pub counter : u.counter ≡ get_or u.stamp w.place 0
  pub tried : u.counter ≤ place_tried w (own_value w u)
  pub threshold : is_ge (compare_on (suc w.place) u.threshold u.stamp) ≡ true
  pub paid : own_cost w u ≤ u.cost
  pub bare : u.cost - own_cost w u ≤ prefix_limit w.place

pub record InRange (sizes : List ℕ) (w : View) (u : Unit) : Type 0 where
  pub threshold : (j : ℕ) → j < 16 → get_or u.threshold j 0 ≤ 17
  pub estimates : (j : ℕ) → j < 16 → get_or u.estimates j 0 ≤ estimate_limit
  pub bound : none_or_bound w.n sizes u.bound u.best ≡ true
  pub none : own_value w u ≡ 0 → NoCpa sizes u
  pub out : 1 ≤ own_value w u → CpaOut sizes w u

-- ---- conjunctions of tests

split : (a b : Bool) → (a && b) ≡ true → (a ≡ true) × (b ≡ true)
split a b e = (and_left a b e, and_right a b e)

both : (a b : Bool) → a ≡ true → b ≡ true → (a && b) ≡ true
both a b e f = rw (e, f)

module _ (sizes : List ℕ) (w : View) (u : Unit) where
  none_facts : cpa_zero sizes u ≡ true → NoCpa sizes u
  unfolding cpa_zero
  none_facts e =
      let c = split _ _ e in
      let s = split _ _ c.0 in
      record { stamp = s.0; values = s.1; cost = eqb-true u.cost 0 c.1 }

  none_tests : NoCpa sizes u → cpa_zero sizes u ≡ true
  unfolding cpa_zero
  none_tests f = both _ _ (both _ _ f.stamp f.values) (eq-eqb u.cost 0 f.cost)

  out_facts : cpa_out_in_range sizes (suc w.place) (own_cost w u) (place_tried w (own_value w u)) u ≡ true → CpaOut sizes w u
  unfolding cpa_out_in_range
  out_facts e =
      let b = split _ _ e in
      let p = split _ _ b.0 in
      let t = split _ _ p.0 in
      let r = split _ _ t.0 in
      let c = split _ _ r.0 in
      let l = split _ _ c.0 in
      let s = split _ _ l.0 in
      record {
        stamp = s.0;
        values = s.1;
        cost = leb-true _ _ l.1;
        counter = eqb-true _ _ c.1;
        tried = leb-true _ _ r.1;
        threshold = t.1;
        paid = leb-true _ _ p.1;
        bare = leb-true _ _ b.1;
      }

  out_tests : CpaOut sizes w u → cpa_out_in_range sizes (suc w.place) (own_cost w u) (place_tried w (own_value w u)) u ≡ true
  unfolding cpa_out_in_range
  out_tests f =
      both _ _
      (both _ _
      (both _ _ (both _ _ (both _ _ (both _ _ (both _ _ f.stamp f.values) (le-leb _ _ f.cost)) (eq-eqb _ _ f.counter)) (le-leb _ _ f.tried)) f.threshold)
      (le-leb _ _ f.paid))
      (le-leb _ _ f.bare)

  -- the tests say what the facts say
  pub range_facts : in_range sizes w u ≡ true → InRange sizes w u
  unfolding in_range paid_in_range
  range_facts e =
      let c = split _ _ e in
      let b = split _ _ c.0 in
      let t = split _ _ b.0 in
      record {
        threshold = most_at 17 u.threshold t.0;
        estimates = most_at estimate_limit u.estimates t.1;
        bound = b.1;
        none = λ z. none_facts (rw (eq-eqb (own_value w u) 0 z) at c.1);
        out = λ l. out_facts (rw (ne_eqb (own_value w u) 0 (λ z. omega arith)) at c.1);
      }

  pub range_tests : InRange sizes w u → in_range sizes w u ≡ true
  unfolding in_range paid_in_range
  range_tests f =
      both _ _ (both _ _ (both _ _ (at_most 17 u.threshold f.threshold) (at_most estimate_limit u.estimates f.estimates)) f.bound) (go (eqb (own_value w u) 0) refl)
    where
      go : (t : Bool) → eqb (own_value w u) 0 ≡ t → cond t (cpa_zero sizes u) (cpa_out_in_range sizes (suc w.place) (own_cost w u) (place_tried w (own_value w u)) u) ≡ true
      go true e = none_tests (f.none (eqb-true (own_value w u) 0 e))
      go false e = out_tests (f.out (nonzero (own_value w u) (eqb-false (own_value w u) 0 e)))
        where
          nonzero : (x : ℕ) → (x ≡ 0 → ⊥) → 1 ≤ x
          nonzero x h = omega arith

-- by the number of a unit
pub range_numbered : (n : ℕ) (sizes : List ℕ) (k paid place : ℕ) (u : Unit) → k < 16 → in_range_paid n sizes (k + 1) paid place u ≡ paid_in_range n sizes (suc k) paid place u
unfolding in_range_paid
range_numbered n sizes k paid place u l = simp (add-one, le-leb 1 (suc k) (omega arith), le-leb (suc k) 16 (omega arith))
