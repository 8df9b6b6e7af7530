-- `receive` meets its contract, by what its two callees ensure.
-- Assumes nothing.
use mathlib.Core.Path.{ap, ◌∙◌}
use Rattle.rules.specs.declared.Unit.{Unit}
use Rattle.rules.specs.State.{with_threshold}
use Rattle.rules.specs.Step.{received}
use Rattle.decide.proofs.receive.receive.Goals as goal

pub returns : goal.returns
returns c =
    let a = c.args in
    c.take_bound.ensures a.u.estimates
    ∙ ap (λ (u : Unit). received a.m (with_threshold a.threshold u)) (c.hold-t.ensures a.u.estimates)
