-- `on_stop` meets its contract, by what its callees ensure.
-- Assumes nothing.
use mathlib.Core.Path.{ap, ◌∙◌}
use mathlib.Core.Bool.{true}
use Rattle.rules.specs.declared.Unit.{Unit}
use Rattle.rules.specs.State.{with_stopped}
use Rattle.rules.specs.Step.{quiet, take_bound, on_stop}
use Rattle.rules.specs.Ready.{decided_of}
use Rattle.decide.proofs.bound.on_stop.Goals as goal

pub returns : goal.returns
unfolding on_stop
returns c =
    λ w was. let a = c.args in
    c.quiet.ensures was
    ∙ ap (λ (u : Unit). decided_of was (quiet u)) c.release.ensures
    ∙ ap (λ (u : Unit). decided_of was (quiet (with_stopped true u))) (c.take_bound-t.ensures a.u.estimates ∙ ap (λ (u : Unit). take_bound a.m u) (c.hold.ensures a.u.estimates))
