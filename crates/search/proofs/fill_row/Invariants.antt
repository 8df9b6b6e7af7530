-- `fill_row` meets its contract. The loop's invariant: `from` is where the costs of the pair (i, j) begin, and the starts of all pairs before it are put.
-- Assumes nothing.
use Prim.Native.Nat.{◌+◌, ◌*◌}
use mathlib.Core.Path.{◌≡◌}
use Rattle.search.specs.Steps.{start_at, Filled}
use Rattle.search.proofs.fill_row.Given as goal

abbrev pub invariant-loop-j : goal.invariant-loop-j
invariant-loop-j l = (l.from ≡ start_at l.stream l.i l.j) × Filled l.stream (16 * l.i + l.j) l.starts
