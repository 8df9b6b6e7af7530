-- `row_start` meets its contract. The loop's invariant: `start` is how many stand before those of unit a.
-- Assumes nothing.
use Prim.Native.Nat.{◌*◌, ◌≤◌}
use mathlib.Core.Path.{◌≡◌}
use Rattle.costs.specs.Instance.{dom_in}
use Rattle.costs.specs.Laws.Stream.{row_start}
use Rattle.projections.proofs.places.row_start.Given as goal

abbrev pub invariant-loop-a : goal.invariant-loop-a
invariant-loop-a l = (l.start ≡ row_start (dom_in l.n l.sizes) l.n l.a) × (l.start ≤ 1040400 * l.a)
