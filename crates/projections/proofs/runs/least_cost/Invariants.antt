-- `least_cost` meets its contract. The loop's invariant: `best` is the least of the first k, as a number.
-- Assumes nothing.
use mathlib.Core.Path.{◌≡◌}
use Rattle.projections.specs.Held.{held_cost}
use Rattle.projections.specs.Moves.{least_at}
use Rattle.projections.specs.Steps.{run_place}
use Rattle.projections.proofs.runs.least_cost.Given as goal

abbrev pub invariant-loop-k : goal.invariant-loop-k
invariant-loop-k l = held_cost l.best ≡ least_at (run_place l.run) l.k l.costs
