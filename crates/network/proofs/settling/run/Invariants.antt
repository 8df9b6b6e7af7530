-- `network::settling::run` meets its contract. The loop's invariant: the network and the pool are what as many deliveries of cell 0 as are
-- counted have left of what was lent. So the next delivery is accepted, and each way of its message does what the delivery says.
-- The measure is (3n - 1) × N less the accepted deliveries, in the two count words: demand 3 bounds them. Assumes nothing.
use Rattle.std.specs.Prelude.{◌≡◌, ◌-◌, length}
use Rattle.costs.specs.Instance.{instance_of}
use Rattle.runs.specs.Count.{value_of}
use Rattle.runs.specs.Count.Laws.{Words}
use Rattle.runs.specs.Demand3.{most}
use Rattle.runs.specs.Settle.Laws.{After}
use Rattle.network.proofs.settling.run.Given as goal

abbrev pub invariant-loop-core : goal.invariant-loop-core
invariant-loop-core l =
    (length l.pool ≡ length l.initial.pool) × Words l.core.records
    × After l.first.order l.stream (record { network = record { core = l.initial.core; used = l.initial.used }; pool = l.initial.pool }) (record { network = record { core = l.core; used = l.used }; pool = l.pool })

abbrev pub decreases-loop-core : goal.decreases-loop-core
decreases-loop-core l = most (instance_of l.stream) - value_of l.core.deliveries
