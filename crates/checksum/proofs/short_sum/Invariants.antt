-- `short_sum` meets its contract. The loop's invariant: the total is the sum of the bytes passed. With the next byte it is the sum of one more,
-- which `block_most_lem` bounds, so nothing wraps. Assumes nothing.
use Prim.Native.Nat.{◌≤◌}
use mathlib.Core.Path.{◌≡◌}
use lib.ListN.{length, take}
use Rattle.base.specs.Limits.{checked_size}
use Rattle.checksum.specs.Sum.{weigh}
use Rattle.checksum.proofs.short_sum.Given as goal

abbrev pub invariant-loop-i : goal.invariant-loop-i
invariant-loop-i l = (l.i ≤ length l.bytes) × (length l.bytes ≤ checked_size) × (l.total ≡ weigh 0 (take l.i l.bytes))
