-- `long_sum` meets its contract. The loop's invariant: the total is the check of the bytes passed, and below 65,521.
-- Each product is at most 65,521 × 255, so nothing wraps. Assumes nothing.
use Prim.Native.Nat.{◌≤◌, ◌<◌}
use mathlib.Core.Path.{◌≡◌}
use lib.ListN.{length, take}
use Rattle.checksum.specs.Sum.{sum_of}
use Rattle.checksum.proofs.long_sum.Given as goal

abbrev pub invariant-loop-i : goal.invariant-loop-i
invariant-loop-i l = (l.i ≤ length l.bytes) × (l.total ≡ sum_of (take l.i l.bytes)) × (l.total < 65521)
