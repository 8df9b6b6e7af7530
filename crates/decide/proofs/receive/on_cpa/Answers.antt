-- `on_cpa` meets its contract: the sender decides which way the cpa goes.
-- Assumes nothing.
use mathlib.Core.Path.{ap, ◌∙◌}
use Rattle.costs.specs.Instance.{view_knowing}
use Rattle.rules.specs.Step.{Decision}
use Rattle.rules.specs.Ready.{decided_of}
use Rattle.decide.proofs.Lent.{own-lent}
use Rattle.decide.proofs.Rules.{cpa_down, cpa_back}
use Rattle.decide.proofs.receive.on_cpa.Goals as goal

pub returns-then-m-seat : goal.returns-then-m-seat
returns-then-m-seat c =
    let a = c.args in
    let w = view_knowing a.seat a.costs.now a.ahead.now in
    c.on_down.ensures a.u ∙ ap (λ (o : Decision). decided_of a.u o) (cpa_down w a.seat.own a.u a.m c.compare-order.result (own-lent a.seat a.costs.now a.ahead.now c.requires.0.number.first) (rw c.from.ensures at c.compare-order.ensures) c.if-m-seat.true)

pub returns-else-m-seat : goal.returns-else-m-seat
returns-else-m-seat c =
    let a = c.args in
    let w = view_knowing a.seat a.costs.now a.ahead.now in
    c.on_back.ensures ∙ ap (λ (o : Decision). decided_of a.u o) (cpa_back w a.seat.own a.u a.m c.compare-order.result (own-lent a.seat a.costs.now a.ahead.now c.requires.0.number.first) (rw c.from.ensures at c.compare-order.ensures) c.if-m-seat.false)
