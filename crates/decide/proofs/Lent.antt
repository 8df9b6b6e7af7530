-- The view of a unit from what is lent with it: its place, the number of units, its own domain size and value.
-- By computing. Assumes nothing.
use Rattle.std.specs.Prelude.{Some}
use Prim.Native.Nat.{ℕ, zero, suc, pred, min, ◌-◌, ◌≤◌, ◌<◌}
use native.Mathlib.Omega.{arith}
use mathlib.Core.Path.{◌≡◌, refl, sym, ap, ◌∙◌}
use mathlib.Core.Bool.{and-false}
use mathlib.Core.List.{List}
use lib.ListN.{get_or}
use lib.Seq.{get_or-take}
use Rattle.costs.specs.declared.Seat.{Seat}
use Rattle.costs.specs.Cost.{sum_to, as_number}
use Rattle.costs.specs.Instance.{View, lent_view, view_from, knowing, view_knowing}
use Rattle.costs.specs.Bounds.{cost_with}
use Rattle.costs.specs.Knowing.{cost-knowing}
use Rattle.costs.specs.Rows.{paid_number}
use Rattle.base.specs.Shape.Laws.{range_value}
use Rattle.rules.specs.Ready.{Shaped, IsPaid, Paid}
use Rattle.rules.specs.declared.Unit.{Unit}
use Rattle.rules.specs.State.{own_value, own_cost}
use Rattle.rules.specs.Laws.Readiness.{pred_sub}

module _ (seat : Seat) (costs ahead : List ℕ) where
  pub place-lent : (view_knowing seat costs ahead).place ≡ seat.own - 1
  unfolding knowing lent_view
  place-lent = pred_sub seat.own

  pub n-lent : (view_knowing seat costs ahead).n ≡ seat.n
  unfolding knowing lent_view
  n-lent = refl

  pub order-lent : (view_knowing seat costs ahead).order ≡ seat.order
  unfolding knowing lent_view
  order-lent = refl

  -- the unit's number is the next of its place
  pub own-lent : 1 ≤ seat.own → suc (view_knowing seat costs ahead).place ≡ seat.own
  own-lent h = rw place-lent (omega arith)

  pub dom-lent : 1 ≤ seat.own → seat.own ≤ seat.n → (view_knowing seat costs ahead).dom (view_knowing seat costs ahead).place ≡ get_or seat.sizes (seat.own - 1) 0
  unfolding knowing lent_view
  dom-lent h b = rw (pred_sub seat.own) (get_or-take seat.n seat.sizes (seat.own - 1) 0 (omega arith))

  pub value_lent : (u : Unit) → own_value (view_knowing seat costs ahead) u ≡ get_or u.values (seat.own - 1) 0
  value_lent u = ap (λ (k : ℕ). get_or u.values k 0) place-lent

  -- without a value there is nothing to pay
  none_paired : (l : List ℕ) (k : ℕ) → sum_to (λ j. (view_knowing seat costs ahead).pair j (get_or l j 0) 0) k ≡ Some 0
  unfolding knowing lent_view
  none_paired l zero = refl
  none_paired l (suc k) = rw (none_paired l k) (simp and-false)

  none_paid : (l : List ℕ) (k : ℕ) → cost_with (view_knowing seat costs ahead) l k 0 ≡ Some 0
  unfolding cost_with knowing lent_view
  none_paid l k = rw (none_paired l k)

  pub own-cost-lent : (u : Unit) → as_number (cost_with (view_from seat costs) u.values (seat.own - 1) (get_or u.values (seat.own - 1) 0)) ≡ own_cost (view_knowing seat costs ahead) u
  own-cost-lent u =
      ap as_number (sym (cost-knowing (view_from seat costs) ahead u.values (seat.own - 1) (get_or u.values (seat.own - 1) 0)))
      ∙ ap (λ (k : ℕ). as_number (cost_with (view_knowing seat costs ahead) u.values k (get_or u.values k 0))) (sym place-lent)

  pub no_value_no_cost : (u : Unit) → get_or u.values (seat.own - 1) 0 ≡ 0 → 0 ≡ own_cost (view_knowing seat costs ahead) u
  no_value_no_cost u e =
      sym (ap as_number (ap (λ (v : ℕ). cost_with (view_knowing seat costs ahead) u.values (view_knowing seat costs ahead).place v) (value_lent u ∙ e) ∙ none_paid u.values (view_knowing seat costs ahead).place))

-- the costs of all values, as `costs::paid` tells them, at the unit's place
pub all_paid : (seat : Seat) (costs ahead values paid : List ℕ) → Shaped seat → ((i : ℕ) → i < 16 → get_or paid i 0 ≡ paid_number (view_from seat costs) values (min (pred seat.own) 16) (suc i)) → Paid (view_knowing seat costs ahead) values paid
unfolding knowing lent_view
all_paid seat costs ahead values paid s told k l =
    let d = dom-lent seat costs ahead s.number.first s.within in
    let place : min (pred seat.own) 16 ≡ pred seat.own = omega (arith, s.number.last) in
    let number : get_or paid k 0 ≡ as_number (cost_with (view_from seat costs) values (pred seat.own) (suc k)) =
    told k (omega (arith, l, d, s.size)) ∙ rw (range_value ((view_from seat costs).dom (view_from seat costs).place) (suc k) (omega arith) l, place) in
    number ∙ ap as_number (sym (cost-knowing (view_from seat costs) ahead values (pred seat.own) (suc k)))

-- of these, one value's
pub paid_of : (w : View) (values paid : List ℕ) (v : ℕ) → 1 ≤ v → v ≤ w.dom w.place → Paid w values paid → IsPaid w values v (get_or paid (v - 1) 0)
paid_of w values paid v lo hi known = let e : suc (v - 1) ≡ v = omega arith in rw e at (known (v - 1) (omega (arith, lo, hi)))
