-- `project_unit` meets its contract. The loop's invariant: the first k values are projected.
-- Assumes nothing.
use mathlib.Core.Path.{◌≡◌}
use Rattle.projections.specs.Moves.{in_order}
use Rattle.projections.specs.Steps.{outcome_in}
use Rattle.projections.specs.All.Steps.{each_value}
use Rattle.projections.proofs.all.project_unit.Given as goal

abbrev pub invariant-loop-k : goal.invariant-loop-k
invariant-loop-k l = outcome_in l.moved l.costs ≡ in_order (each_value l.n l.sizes l.i) l.k (outcome_in l.initial.moved l.initial.costs)
