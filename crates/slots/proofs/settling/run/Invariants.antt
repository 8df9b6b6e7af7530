-- `slots::settling::run` meets its contract. The loop's invariant: units, counts and pool are what as many deliveries of the lowest cell as are counted have left
-- of what was lent, and would pass the checks. The measure is (3n - 1) × N less the accepted deliveries: demand 3 bounds them.
-- Assumes nothing.
use Rattle.std.specs.Prelude.{◌≡◌, ◌-◌}
use Rattle.costs.specs.Instance.{instance_of}
use Rattle.runs.specs.Count.{value_of}
use Rattle.runs.specs.Demand3.{most}
use Rattle.slots.specs.Calls.{lent_refusal}
use Rattle.slots.specs.Settle.Laws.{After}
use Rattle.slots.proofs.settling.run.Given as goal

abbrev pub invariant-loop-core : goal.invariant-loop-core
invariant-loop-core l =
    (lent_refusal l.order l.core l.stream l.pool ≡ 0) × After l.order l.stream (record { core = l.initial.core; pool = l.initial.pool }) (record { core = l.core; pool = l.pool })

abbrev pub decreases-loop-core : goal.decreases-loop-core
decreases-loop-core l = most (instance_of l.stream) - value_of l.core.deliveries
