-- `backtrack` meets its contract: the state and the fields sent are what the two callees ensure.
-- Assumes nothing.
use Prim.Native.Nat.{◌+◌}
use native.Mathlib.Omega.{arith}
use mathlib.Core.Path.{◌≡◌}
use Rattle.rules.specs.Step.{backtrack}
use Rattle.decide.proofs.backtrack.backtrack.Goals as goal

pub returns : goal.returns
unfolding backtrack
returns c = λ w was e o. let n : c.args.records + 0 ≡ c.args.records = omega arith in rw (c.back_up.ensures w e o, c.carry.ensures w e o, n)
