-- `pair_start` meets its contract. The loop's invariant: the rows passed have as many costs, each at most 255 times 16 times 255.
-- Assumes nothing.
use Prim.Native.Nat.{◌*◌, ◌≤◌}
use mathlib.Core.Path.{◌≡◌}
use Rattle.costs.specs.Laws.Stream.{row_start}
use Rattle.sensitivity.specs.Steps.{size_in}
use Rattle.sensitivity.proofs.place.pair_start.Given as goal

abbrev pub invariant-loop-a : goal.invariant-loop-a
invariant-loop-a l = (l.rows ≡ row_start (size_in l.sizes) l.n l.a) × (l.rows ≤ 1040400 * l.a)
