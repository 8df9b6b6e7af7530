-- `project_value` meets its contract. The loop's invariant: the first k units are projected with.
-- Assumes nothing.
use mathlib.Core.Path.{◌≡◌}
use Rattle.projections.specs.Moves.{in_order}
use Rattle.projections.specs.Steps.{outcome_in}
use Rattle.projections.specs.All.Steps.{with_each}
use Rattle.projections.proofs.all.project_value.Given as goal

abbrev pub invariant-loop-k : goal.invariant-loop-k
invariant-loop-k l = outcome_in l.moved l.costs ≡ in_order (with_each l.n l.sizes l.unit l.value) l.k (outcome_in l.initial.moved l.initial.costs)
