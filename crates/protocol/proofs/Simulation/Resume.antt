-- With a CPA in hand a unit assigns and resumes as the machine does (`assign_agrees`, `resume_agrees`), also after a bound was taken
-- (`resume-lower`). The own value comes off, and Assign.antt has the values tried.
-- Assumes nothing.
use Rattle.std.specs.Prelude.{ℕ, zero, suc, ◌+◌, ◌*◌, ◌-◌, ◌≤◌, ◌<◌, ◌≡◌, Bool, true, cond, List, ltb, leb, eqb}
use Rattle.std.proofs.Math.Path.{refl, subst}
use Rattle.std.proofs.Common.{sym, ap, ◌∙◌, arith, ltb-true, ne_eqb}
use Rattle.std.proofs.Math.Bool.{false}
use Rattle.costs.specs.declared.ValueOrder.{ValueOrder}
use Rattle.costs.specs.Instance.{Instance, view_by}
use Rattle.costs.specs.Cost.{as_number}
use Rattle.costs.specs.Order.{place_tried, value_at}
use Rattle.costs.specs.Order.Laws.{value_of_none, value_least}
use Rattle.costs.specs.Laws.{cost_of}
use Rattle.costs.specs.Laws.Tried.{values_at, problem_by}
use Rattle.costs.specs.Laws.Prefix.{pre_set}
use Rattle.message.specs.declared.Message.{Message}
use Rattle.rules.specs.declared.Unit.{Unit as UnitState}
use Rattle.rules.specs.State.{own_value}
use Rattle.rules.specs.Step as U
use Rattle.rules.specs.Step.{take_off, begun, take_bound}
use Rattle.rules.specs.Tests.{take_lower, reached_bound}
use Rattle.protocol.specs.Problem.{NONE}
use Rattle.protocol.specs.Machine as M
use Rattle.protocol.specs.Machine.{Agent}
use Rattle.protocol.specs.Simulation.Stamps.{rank_set, digits_set, filled_off}
use Rattle.protocol.specs.Simulation.Relations.{BestIs, own-place, InHand, OwnOff, Agrees}
use Rattle.protocol.proofs.Simulation.Assign.{less_test, most_test, backtrack_agrees, try_agrees}

module _ (order : ValueOrder) (I : Instance) (k : ℕ) (k16 : k < 16) where
  -- what assigning needs: the threshold is the CPA's stamp, the counter has room for the values left, the bound is at most NONE, and the own value has a place
  abbrev pub ReadyToAssign : Agent → Type 0
  ReadyToAssign u =
      (u.threshold ≡ u.prefix_stamp * 32 + M.recount u.own u.counter) × (M.recount u.own u.counter + (I.dom k - u.own) ≤ 30) × (u.bound ≤ NONE)
      × (u.own ≤ I.dom k)

  -- the unit has a value where the machine has a place
  counter_begun : (v p c d : ℕ) → v ≡ value_at (view_by order I k) p → p ≤ I.dom k → c ≡ d → cond (eqb v 0) 0 c ≡ M.recount p d
  counter_begun v zero c d q le e = let z : v ≡ 0 = q ∙ value_of_none (view_by order I k) in rw z
  counter_begun v (suc p) c d q le e = rw (ne_eqb v 0 (λ z. absurd (omega (arith, z, q, value_least (view_by order I k) (suc p) (omega arith) le)))) e

  own_off : (s : UnitState) (u : Agent) → InHand order I k s u → OwnOff order I k u.own (take_off (view_by order I k) s) u
  own_off s u a =
      record {
        common = a.common;
        tried = refl;
        stamp = record {
          filled = filled_off s.stamp k k16 a.hand.stamp-filled;
          digits = digits_set s.stamp k 0 a.hand.stamp-filled.size k16 a.hand.stamp_digits (omega arith);
          is = rank_set k k s.stamp 0 (omega arith) ∙ a.hand.prefix_stamp;
        };
        values = record { filled = filled_off s.values k k16 a.hand.values-filled; are = pre_set k k s.values 0 (omega arith) ∙ a.hand.prefix };
        cost = a.hand.cost_is;
      }

  begun_off : (s : UnitState) (u : Agent) → InHand order I k s u → u.own ≤ I.dom k → OwnOff order I k u.own (begun (view_by order I k) s) (M.counted u)
  begun_off s u a le =
      let b = own_off s u a in
      record {
        common = record {
          size = a.common.size;
          digits = a.common.digits;
          threshold_is = a.common.threshold_is;
          bound_is = a.common.bound_is;
          best_is = a.common.best_is;
          counter_is = counter_begun (own_value (view_by order I k) s) u.own s.counter u.counter a.hand.own le a.common.counter_is;
          stopped_is = a.common.stopped_is;
        };
        tried = refl;
        stamp = b.stamp;
        values = b.values;
        cost = b.cost;
      }

  pub assign_agrees : (s : UnitState) (u : Agent) → InHand order I k s u → ReadyToAssign u → Agrees order I k u.log (U.assign (view_by order I k) s) (M.assign (problem_by order I) k u)
  unfolding U.assign
  assign_agrees s u a r =
      subst (λ x. Agrees order I k u.log (U.try_after (view_by order I k) (I.dom k - x) (own_value (view_by order I k) s) false (begun (view_by order I k) s)) (M.assign (problem_by order I) k u)) (sym place)
      (subst (λ x. Agrees order I k u.log (U.try_after (view_by order I k) (I.dom k - u.own) x false (begun (view_by order I k) s)) (M.assign (problem_by order I) k u)) (sym a.hand.own)
      (try_agrees order I k k16 (I.dom k - u.own) u.own (omega (arith, r.3)) false (begun (view_by order I k) s) (M.counted u) (begun_off s u a r.3) refl r.0 r.1 r.2))
    where
      place : place_tried (view_by order I k) (own_value (view_by order I k) s) ≡ u.own
      place = own-place order I k u.own s.values a.hand.own r.3

  resume_agrees : (s : UnitState) (u : Agent) → InHand order I k s u → ReadyToAssign u → Agrees order I k u.log (U.resume (view_by order I k) s) (M.resume (problem_by order I) k u)
  unfolding U.resume
  resume_agrees s u a r =
      subst (λ x. Agrees order I k u.log (reached_bound (view_by order I k) x s) (M.resume (problem_by order I) k u)) (sym (most_test a.common.bound_is (ap as_number a.hand.cost_is)))
      (go (leb u.bound (as_number (cost_of I (values_at order I u.prefix)))))
    where
      room : M.recount u.own u.counter ≤ 30
      room = omega (arith, r.1)

      go : (t : Bool) → Agrees order I k u.log (reached_bound (view_by order I k) t s) (M.backtrack_if (problem_by order I) k t u)
      go true =
          backtrack_agrees order I k k16 u.own false (take_off (view_by order I k) s) u (own_off s u a)
          (omega (arith, a.common.threshold_is, a.common.digits k, r.0, room))
      go false = assign_agrees s u a r

  -- ---- a bound taken if lower

  lower_in_hand : (s : UnitState) (u : Agent) (m : Message) (B : ℕ) (l : List ℕ) → m.bound ≡ B → BestIs order I m.best l → InHand order I k s u → InHand order I k (take_bound m s) (M.take_bound B l u)
  lower_in_hand s u m B l e r a =
      subst (λ x. InHand order I k (take_lower x m.bound m.best s) (M.take_bound B l u)) (sym (less_test e a.common.bound_is)) (go (ltb B u.bound))
    where
      go : (t : Bool) → InHand order I k (take_lower t m.bound m.best s) (M.lower t B l u)
      go true =
          record {
            common = record {
              size = a.common.size;
              digits = a.common.digits;
              threshold_is = a.common.threshold_is;
              bound_is = e;
              best_is = r;
              counter_is = a.common.counter_is;
              stopped_is = a.common.stopped_is;
            };
            hand = a.hand;
          }
      go false = a

  lower_ready : (t : Bool) (B : ℕ) (l : List ℕ) (u : Agent) → ltb B u.bound ≡ t → ReadyToAssign u → ReadyToAssign (M.lower t B l u)
  lower_ready true B l u e r = (r.0, r.1, omega (arith, r.2, ltb-true B u.bound e), r.3)
  lower_ready false B l u e r = r

  pub lower_log : (t : Bool) (B : ℕ) (l : List ℕ) (u : Agent) → (M.lower t B l u).log ≡ u.log
  lower_log true B l u = refl
  lower_log false B l u = refl

  pub resume-lower : (s : UnitState) (u : Agent) (m : Message) (B : ℕ) (l : List ℕ) → m.bound ≡ B → BestIs order I m.best l → InHand order I k s u → ReadyToAssign u
      → Agrees order I k u.log (U.resume (view_by order I k) (take_bound m s)) (M.resume (problem_by order I) k (M.take_bound B l u))
  resume-lower s u m B l e r a ready =
      subst (λ L. Agrees order I k L (U.resume (view_by order I k) (take_bound m s)) (M.resume (problem_by order I) k (M.take_bound B l u))) (lower_log (ltb B u.bound) B l u)
      (resume_agrees (take_bound m s) (M.take_bound B l u) (lower_in_hand s u m B l e r a) (lower_ready (ltb B u.bound) B l u refl ready))
