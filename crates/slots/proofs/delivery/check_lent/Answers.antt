-- `slots::delivery::check_lent` meets its contract: 13, or what is asked of the units and counts. Assumes nothing.
use Rattle.std.proofs.Common.{◌∙◌, arith}
use Rattle.slots.specs.Checks.{check_room, check_core}
use Rattle.slots.proofs.delivery.check_lent.Goals as goal

pub returns-then-pool-lt-SLOT_POOL_SIZE : goal.returns-then-pool-lt-SLOT_POOL_SIZE
returns-then-pool-lt-SLOT_POOL_SIZE c = let a = c.args in check_room a.order a.core a.stream.now a.pool.now (omega arith)

pub returns : goal.returns
returns c = let a = c.args in c.check.ensures ∙ check_core a.order a.core a.stream.now a.pool.now (omega arith)
