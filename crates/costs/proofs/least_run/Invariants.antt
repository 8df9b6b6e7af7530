-- `least_run` meets its contract. The loop's invariant: the best stands for the least of the first u costs.
-- Assumes nothing.
use Rattle.std.proofs.Common.{◌≡◌, ◌≤◌}
use Rattle.costs.specs.Cost.{pair_cost}
use Rattle.costs.specs.Lent.Parts.{least_run}
use Rattle.costs.proofs.least_run.Given as goal

abbrev pub invariant-loop-u : goal.invariant-loop-u
invariant-loop-u l = (pair_cost l.best ≡ least_run l.costs l.start l.u) × (l.best ≤ 65535)
