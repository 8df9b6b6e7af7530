-- `cost_starts` meets its contract. The loop's invariant: the rows before i are filled, and `at` is where the next one's costs begin.
-- Assumes nothing.
use Rattle.search.specs.Steps.{Filling}
use Rattle.search.proofs.cost_starts.Given as goal

abbrev pub invariant-loop-i : goal.invariant-loop-i
invariant-loop-i l = Filling l.stream l.first l.n l.i l.at l.starts
