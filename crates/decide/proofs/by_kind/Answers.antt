-- `by_kind` meets its contract: each arm is a clause of `by_kind`.
-- Assumes nothing.
use mathlib.Core.Path.{ap, ◌∙◌}
use Rattle.costs.specs.Instance.{view_knowing}
use Rattle.message.specs.declared.Kind.TheVariants.{Cpa, Request, Estimate, Solution, Stop}
use Rattle.rules.specs.Step.{Decision}
use Rattle.rules.specs.Ready.{decided_of}
use Rattle.decide.proofs.Rules.{respond-stopped, respond_kind}
use Rattle.decide.proofs.by_kind.Goals as goal

pub returns-then-u : goal.returns-then-u
returns-then-u c =
    let a = c.args in
    c.refused.ensures ∙ ap (λ (x : Decision). decided_of a.u x) (respond-stopped (view_knowing a.seat a.costs.now a.ahead.now) a.kind a.u a.m c.if-u.true)

pub returns-in-Cpa : goal.returns-in-Cpa
returns-in-Cpa c =
    let a = c.args in
    let w = view_knowing a.seat a.costs.now a.ahead.now in
    c.on_cpa.ensures ∙ ap (λ (x : Decision). decided_of a.u x) (respond_kind w a.kind Cpa a.u a.m c.if-u.false c.in-Cpa.is)

pub returns-in-Request : goal.returns-in-Request
returns-in-Request c =
    let a = c.args in
    let w = view_knowing a.seat a.costs.now a.ahead.now in
    c.on_request.ensures a.u ∙ ap (λ (x : Decision). decided_of a.u x) (respond_kind w a.kind Request a.u a.m c.if-u.false c.in-Request.is)

pub returns-in-Estimate : goal.returns-in-Estimate
returns-in-Estimate c =
    let a = c.args in
    let w = view_knowing a.seat a.costs.now a.ahead.now in
    c.on_estimate.ensures ∙ ap (λ (x : Decision). decided_of a.u x) (respond_kind w a.kind Estimate a.u a.m c.if-u.false c.in-Estimate.is)

pub returns-in-Solution : goal.returns-in-Solution
returns-in-Solution c =
    let a = c.args in
    let w = view_knowing a.seat a.costs.now a.ahead.now in
    c.on_solution.ensures w a.u ∙ ap (λ (x : Decision). decided_of a.u x) (respond_kind w a.kind Solution a.u a.m c.if-u.false c.in-Solution.is)

pub returns-in-Stop : goal.returns-in-Stop
returns-in-Stop c =
    let a = c.args in
    let w = view_knowing a.seat a.costs.now a.ahead.now in
    c.on_stop.ensures w a.u ∙ ap (λ (x : Decision). decided_of a.u x) (respond_kind w a.kind Stop a.u a.m c.if-u.false c.in-Stop.is)
