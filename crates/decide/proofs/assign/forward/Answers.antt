-- `forward` meets its contract: the state and the fields sent are what the callees ensure.
-- Assumes nothing.
use mathlib.Core.Path.{ap}
use Rattle.rules.specs.declared.Unit.{Unit}
use Rattle.rules.specs.State.{zeros}
use Rattle.rules.specs.Ready.{sent_on}
use Rattle.decide.proofs.assign.forward.Goals as goal

pub returns : goal.returns
returns c =
    λ w o.
    rw (c.release.ensures, c.carry.ensures w zeros o)
    (ap (λ (u : Unit). sent_on w c.args.records u) (c.put-s.ensures w zeros o))
