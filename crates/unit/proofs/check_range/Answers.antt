-- `check_range` meets its contract: each refusal is the first test of 01's order that fails.
-- Assumes nothing.
use mathlib.Core.Path.{◌≡◌, refl, sym, ap, ◌∙◌}
use mathlib.Core.List.{[]}
use Rattle.costs.specs.Instance.{View, view_from}
use Rattle.costs.specs.Knowing.{knowing_sees, knows_nothing}
use Rattle.std.proofs.lemmas.Result.{err_from_is_err_and}
use Rattle.base.specs.Refusal.Laws.{number_some}
use Rattle.rules.specs.State.{in_range}
use Rattle.rules.specs.Laws.Calls.{seated}
use Rattle.rules.specs.Laws.Readiness.{own_of}
use Rattle.rules.specs.Laws.Trusted.{in_range_at_lem}
use Rattle.unit.proofs.Calls.{range_seat, range_5, range_0}
use Rattle.unit.proofs.check_range.Goals as goal
use Rattle.unit.proofs.check_range.Goals.{After-in_range}

pub returns-in_err-check_seat : goal.returns-in_err-check_seat
returns-in_err-check_seat c =
    let a = c.args in
    let p = err_from_is_err_and c.from_residual.result c.from_residual.ensures.1 in
    let number = rw c.in_err-check_seat.was at c.check_seat.ensures in
    rw (p.1, p.2) (range_seat a.seat a.costs.now _ number a.u (λ z. number_some _ z))

-- the state's range is the view's, as the number is a unit's
ranged : (c : After-in_range) → let a = c.args in c.in_range.result ≡ in_range a.seat.sizes (view_from a.seat a.costs.now) a.u
ranged c =
    let a = c.args in
    let s = seated a.seat.own a.seat.n a.seat.sizes a.costs.now (sym c.in_ok-check_seat.ensures) in
    let w = view_from a.seat a.costs.now in
    c.in_range.ensures ∙ in_range_at_lem a.seat a.costs.now [] a.u (own_of a.seat.own a.seat.n a.seat.sizes s.shape s.unit)
    ∙ ap (λ (v : View). in_range a.seat.sizes v a.u) (knowing_sees w [] (knows_nothing w))

pub returns-then-not-in_range : goal.returns-then-not-in_range
returns-then-not-in_range c =
    let a = c.args in
    range_5 a.seat a.costs.now _ c.in_ok-check_seat.ensures a.u refl (sym (ranged (goal.at.returns-then-not-in_range c).After-in_range) ∙ c.if-not-in_range.true)

pub returns : goal.returns
returns c =
    let a = c.args in
    range_0 a.seat a.costs.now _ c.in_ok-check_seat.ensures a.u refl (sym (ranged (goal.at.returns c).After-in_range) ∙ c.if-not-in_range.false)
