-- `shift` meets its contract. The loop's invariant: the first k costs of the run are raised or lowered.
-- Assumes nothing.
use mathlib.Core.Path.{◌≡◌}
use Rattle.projections.specs.Moves.{change_each}
use Rattle.projections.specs.Steps.{run_place, shifted}
use Rattle.projections.proofs.runs.shift.Given as goal

abbrev pub invariant-loop-k : goal.invariant-loop-k
invariant-loop-k l = l.costs ≡ change_each (shifted l.up l.by) (run_place l.run) l.k l.initial.costs
