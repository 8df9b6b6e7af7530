-- `pairs_in` meets its contract. The loop's invariant: the sum and the pairs of the first i sizes; bytes are small, so nothing wraps.
-- Assumes nothing.
use Prim.Native.Nat.{◌≤◌, ◌*◌}
use mathlib.Core.Path.{◌≡◌}
use lib.ListN.{take, drop}
use Rattle.table.specs.Stream.{sum_list, pairs_in}
use Rattle.table.specs.Seen.{seen}
use Rattle.table.proofs.view.View.pairs_in.Given as goal

abbrev pub invariant-loop-i : goal.invariant-loop-i
invariant-loop-i l =
    (l.i ≤ l.n) × (l.earlier ≤ 255 * l.i) × (l.pairs ≤ 1040400 * l.i)
    × (l.earlier ≡ sum_list (take l.i (take l.n (drop l.from (seen l.self)))))
    × (l.pairs ≡ pairs_in (take l.i (take l.n (drop l.from (seen l.self)))))
