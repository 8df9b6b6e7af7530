-- `on_down` meets its contract: each arm is a clause of `on_down`.
-- Assumes nothing.
use mathlib.Core.Path.{sym, ap, ◌∙◌}
use Rattle.costs.specs.Instance.{view_knowing}
use Rattle.rules.specs.declared.Unit.{Unit}
use Rattle.std.specs.declared.cmp.Ordering.{Ordering}
use Rattle.rules.specs.State.{with_threshold}
use Rattle.rules.specs.Step.{received, resume, on_down}
use Rattle.rules.specs.Ready.{decided_of}
use Rattle.decide.proofs.Rules.{ready_received, ready_held, ready_follow}
use Rattle.decide.proofs.receive.on_down.Goals as goal

pub resume-requires : goal.resume-requires
resume-requires c =
    let a = c.args in (
      c.requires.0,
      ready_held a.seat c.receive.result a.u.estimates (received a.m a.u) c.receive.ensures (ready_received a.seat a.m a.u c.requires.2 c.requires.3 c.requires.1),
    )

pub resume-requires-in-Greater : goal.resume-requires-in-Greater
resume-requires-in-Greater c =
    let a = c.args in
    let u = with_threshold a.m.stamp a.u in (
      c.requires.0,
      ready_held a.seat c.receive-in-Greater.result a.u.estimates (received a.m u) c.receive-in-Greater.ensures
          (ready_received a.seat a.m u c.requires.2 c.requires.3 (ready_follow a.seat a.m a.u c.requires.2 c.requires.1)),
    )

pub returns-in-Less : goal.returns-in-Less
returns-in-Less c =
    λ was. let a = c.args in
    let w = view_knowing a.seat a.costs.now a.ahead.now in
    c.quiet.ensures was ∙ ap (λ (o : Ordering). decided_of was (on_down w o a.u a.m)) (sym c.in-Less.is)

pub returns-in-Equal : goal.returns-in-Equal
returns-in-Equal c =
    λ was. let a = c.args in
    let w = view_knowing a.seat a.costs.now a.ahead.now in
    c.resume.ensures was a.u.estimates ∙ ap (λ (t : Unit). decided_of was (resume w t)) c.receive.ensures
    ∙ ap (λ (o : Ordering). decided_of was (on_down w o a.u a.m)) (sym c.in-Equal.is)

pub returns-in-Greater : goal.returns-in-Greater
returns-in-Greater c =
    λ was. let a = c.args in
    let w = view_knowing a.seat a.costs.now a.ahead.now in
    c.resume-in-Greater.ensures was a.u.estimates ∙ ap (λ (t : Unit). decided_of was (resume w t)) c.receive-in-Greater.ensures
    ∙ ap (λ (o : Ordering). decided_of was (on_down w o a.u a.m)) (sym c.in-Greater.is)
