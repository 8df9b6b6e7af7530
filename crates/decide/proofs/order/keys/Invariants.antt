-- `keys` meets its contract. The loop's invariant: the first v keys are known.
-- Assumes nothing.
use mathlib.Core.Path.{◌≡◌}
use lib.ListN.{length}
use Rattle.costs.specs.Instance.{view_knowing}
use Rattle.decide.proofs.Later.{Known}
use Rattle.decide.proofs.order.keys.Given as goal

abbrev pub invariant-loop-v : goal.invariant-loop-v
invariant-loop-v l = (length l.keys ≡ 16) × Known (view_knowing l.seat l.costs l.ahead) l.keys l.v
