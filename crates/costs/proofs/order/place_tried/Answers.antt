-- `place_tried` meets its contract: 0 is at place 0, ascending a value is its place, and by rising h it is one past those counted.
-- Assumes nothing.
use Rattle.std.proofs.Common.{◌≤◌, sym, ◌∙◌, one-add, arith}
use Rattle.costs.specs.Instance.{view_knowing}
use Rattle.costs.specs.Order.Laws.{place_of_none, ascending_place}
use Rattle.costs.specs.Lent.Steps.{order_from, cheapest_place}
use Rattle.costs.proofs.order.place_tried.Goals as goal

pub returns-in_default : goal.returns-in_default
returns-in_default c =
    let a = c.args in
    rw (← c.from-v.ensures, c.if-v-ne0.false, place_of_none (view_knowing a.seat a.costs.now a.ahead.now))

pub returns-in_default-2 : goal.returns-in_default-2
returns-in_default-2 c =
    let a = c.args in
    c.from-v.ensures ∙ sym (ascending_place (view_knowing a.seat a.costs.now a.ahead.now) (order_from a.seat a.costs.now a.ahead.now ∙ c.in_default.is) a.v)

pub returns-in-CheapestFirst : goal.returns-in-CheapestFirst
returns-in-CheapestFirst c =
    let a = c.args in
    let some : 1 ≤ a.v = omega (arith, c.if-v-ne0.true, c.from-v.ensures) in
    rw (cheapest_place a.seat a.costs.now a.ahead.now a.v c.in-CheapestFirst.is some, c.earlier_values.ensures.0, c.from-v.ensures, one-add)
