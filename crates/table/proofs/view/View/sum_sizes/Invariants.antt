-- `sum_sizes` meets its contract. The loop's invariant: the sum of the first i sizes; bytes are small, so nothing wraps.
-- Assumes nothing.
use Prim.Native.Nat.{◌≤◌, ◌*◌}
use mathlib.Core.Path.{◌≡◌}
use lib.ListN.{take, drop}
use Rattle.table.specs.Stream.{sum_list}
use Rattle.table.specs.Seen.{seen}
use Rattle.table.proofs.view.View.sum_sizes.Given as goal

abbrev pub invariant-loop-i : goal.invariant-loop-i
invariant-loop-i l = (l.i ≤ l.n) × (l.sum ≤ 255 * l.i) × (l.sum ≡ sum_list (take l.i (take l.n (drop l.from (seen l.self)))))
