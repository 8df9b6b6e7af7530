-- `on_estimate` meets its contract: each arm is a clause of `on_timely`.
-- Assumes nothing.
use mathlib.Core.Path.{sym, ap, ◌∙◌}
use Rattle.costs.specs.Instance.{view_knowing}
use Rattle.std.specs.declared.cmp.Ordering.{Ordering}
use Rattle.rules.specs.Step.{Decision, on_timely}
use Rattle.rules.specs.Ready.{decided_of}
use Rattle.decide.proofs.Lent.{own-lent}
use Rattle.decide.proofs.Rules.{estimate_timely}
use Rattle.decide.proofs.estimate.on_estimate.Goals as goal

pub returns-in-Less : goal.returns-in-Less
returns-in-Less c =
    let a = c.args in
    let w = view_knowing a.seat a.costs.now a.ahead.now in
    let o = own-lent a.seat a.costs.now a.ahead.now c.requires.0.number.first in
    c.quiet.ensures a.u ∙ ap (λ (x : Ordering). decided_of a.u (on_timely w x a.u a.m)) (sym c.in-Less.is)
    ∙ ap (λ (x : Decision). decided_of a.u x) (estimate_timely w a.seat.own a.u a.m c.compare.result o (rw c.from.ensures at c.compare.ensures))

pub returns-in-Equal : goal.returns-in-Equal
returns-in-Equal c =
    let a = c.args in
    let w = view_knowing a.seat a.costs.now a.ahead.now in
    let o = own-lent a.seat a.costs.now a.ahead.now c.requires.0.number.first in
    c.on_own_estimate.ensures ∙ ap (λ (x : Ordering). decided_of a.u (on_timely w x a.u a.m)) (sym c.in-Equal.is)
    ∙ ap (λ (x : Decision). decided_of a.u x) (estimate_timely w a.seat.own a.u a.m c.compare.result o (rw c.from.ensures at c.compare.ensures))

pub returns-in-Greater : goal.returns-in-Greater
returns-in-Greater c =
    let a = c.args in
    let w = view_knowing a.seat a.costs.now a.ahead.now in
    let o = own-lent a.seat a.costs.now a.ahead.now c.requires.0.number.first in
    c.refused.ensures ∙ ap (λ (x : Ordering). decided_of a.u (on_timely w x a.u a.m)) (sym c.in-Greater.is)
    ∙ ap (λ (x : Decision). decided_of a.u x) (estimate_timely w a.seat.own a.u a.m c.compare.result o (rw c.from.ensures at c.compare.ensures))
