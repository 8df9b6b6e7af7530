-- `in_range` meets its contract: a number of no unit is refused; what the own value costs and when it is tried is what the unit's view says.
-- Assumes nothing.
use Prim.Native.Nat.{ℕ}
use mathlib.Core.Path.{◌≡◌, refl, sym, ap, ◌∙◌}
use mathlib.Core.Bool.{true}
use Rattle.costs.specs.Instance.{view_knowing}
use Rattle.costs.specs.Order.{place_tried}
use Rattle.message.specs.Message.{is_unit}
use Rattle.rules.specs.Trusted.{in_range_at}
use Rattle.rules.specs.Ready.{Own}
use Rattle.rules.specs.Laws.Views.{unit_range}
use Rattle.decide.proofs.Lent.{value_lent}
use Rattle.decide.proofs.Ranges.{range_lent}
use Rattle.decide.proofs.state.in_range.Goals as goal
use Rattle.decide.proofs.state.in_range.Goals.{Else-not-is_unit}

unit : (c : Else-not-is_unit) → is_unit 16 c.args.seat.own ≡ true
unit c = sym c.is_unit.ensures ∙ c.if-not-is_unit.false

own : (c : Else-not-is_unit) → Own c.args.seat.own
own c = let u = unit_range 16 c.args.seat.own (unit c) in record { first = u.0; last = u.1 }

pub returns-then-not-is_unit : goal.returns-then-not-is_unit
unfolding in_range_at
returns-then-not-is_unit c = rw (sym c.is_unit.ensures ∙ c.if-not-is_unit.true)

pub returns : goal.returns
unfolding in_range_at
returns c =
    let past = goal.at.returns c in
    let a = c.args in
    let place = c.place_tried-place.ensures ∙ ap (λ (v : ℕ). place_tried (view_knowing a.seat a.costs.now a.ahead.now) v) (rw c.from.ensures (sym (value_lent a.seat a.costs.now a.ahead.now a.u))) in
    rw (unit past.Else-not-is_unit) (c.paid_in_range.ensures ∙ range_lent a.seat a.costs.now a.ahead.now a.u _ _ (own past.Else-not-is_unit).first (c.own_cost-paid.ensures a.ahead.now a.u refl) place)
