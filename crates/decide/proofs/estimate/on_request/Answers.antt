-- `on_request` meets its contract: each arm is a clause of `on_fresh`.
-- Assumes nothing.
use mathlib.Core.Path.{sym, ap, ◌∙◌}
use mathlib.Core.List.{[]}
use Rattle.costs.specs.Instance.{view_knowing}
use Rattle.rules.specs.declared.Unit.{Unit}
use Rattle.std.specs.declared.cmp.Ordering.{Ordering}
use Rattle.rules.specs.Step.{Decision, accepted, reply, on_fresh}
use Rattle.rules.specs.Ready.{decided_of}
use Rattle.decide.proofs.Lent.{place-lent}
use Rattle.decide.proofs.Rules.{request_fresh}
use Rattle.decide.proofs.estimate.on_request.Goals as goal

pub returns-in-Less : goal.returns-in-Less
returns-in-Less c =
    λ was. let a = c.args in
    let w = view_knowing a.seat a.costs.now a.ahead.now in
    c.quiet.ensures was ∙ ap (λ (o : Ordering). decided_of was (on_fresh w o a.u a.m)) (sym c.in-Less.is)
    ∙ ap (λ (o : Decision). decided_of was o) (request_fresh w a.u a.m c.compare.result _ (place-lent a.seat a.costs.now a.ahead.now) (rw c.from.ensures at c.compare.ensures))

pub returns-in-Equal : goal.returns-in-Equal
returns-in-Equal c =
    λ was. let a = c.args in
    let w = view_knowing a.seat a.costs.now a.ahead.now in
    c.answer.ensures was ∙ ap (λ (o : Ordering). decided_of was (on_fresh w o a.u a.m)) (sym c.in-Equal.is)
    ∙ ap (λ (o : Decision). decided_of was o) (request_fresh w a.u a.m c.compare.result _ (place-lent a.seat a.costs.now a.ahead.now) (rw c.from.ensures at c.compare.ensures))

pub returns-in-Greater : goal.returns-in-Greater
returns-in-Greater c =
    λ was. let a = c.args in
    let w = view_knowing a.seat a.costs.now a.ahead.now in
    c.answer-in-Greater.ensures was ∙ ap (λ (t : Unit). decided_of was (accepted t (reply w a.m) [])) c.with_threshold.ensures
    ∙ ap (λ (o : Ordering). decided_of was (on_fresh w o a.u a.m)) (sym c.in-Greater.is)
    ∙ ap (λ (o : Decision). decided_of was o) (request_fresh w a.u a.m c.compare.result _ (place-lent a.seat a.costs.now a.ahead.now) (rw c.from.ensures at c.compare.ensures))
