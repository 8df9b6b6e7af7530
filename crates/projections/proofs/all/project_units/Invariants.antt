-- `project_units` meets its contract. The loop's invariant: the first i units are projected.
-- Assumes nothing.
use mathlib.Core.Path.{◌≡◌}
use Rattle.projections.specs.Moves.{in_order}
use Rattle.projections.specs.Steps.{outcome_in}
use Rattle.projections.specs.All.Steps.{each_unit}
use Rattle.projections.proofs.all.project_units.Given as goal

abbrev pub invariant-loop-i : goal.invariant-loop-i
invariant-loop-i l = outcome_in l.moved l.costs ≡ in_order (each_unit l.n l.sizes) l.i (outcome_in l.initial.moved l.initial.costs)
