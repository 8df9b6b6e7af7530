-- `fill_unaries` meets its contract. Form one has none. In form two, the loop's invariant: the starts of the places before i are put, and those of place i
-- begin at `at`.
-- Assumes nothing.
use Prim.Native.Nat.{◌+◌, ◌*◌, ◌≤◌}
use Rattle.search.specs.Steps.{Unaries}
use Rattle.search.proofs.fill_unaries.Given as goal

abbrev pub invariant-loop-i : goal.invariant-loop-i
invariant-loop-i l = Unaries l.stream l.i l.at l.starts × (l.at ≤ 18 + 510 * l.i)
