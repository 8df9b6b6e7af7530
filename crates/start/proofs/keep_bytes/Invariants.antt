-- `keep_bytes` meets its contract. The loop's invariant: the whole answer is that of the bytes from there on, written from `place` on. Assumes nothing.
use Prim.Native.Nat.{◌+◌, ◌*◌, ◌≤◌}
use mathlib.Core.Path.{◌≡◌}
use lib.ListN.{length, drop}
use Rattle.start.specs.Byte.{kept, filled}
use Rattle.start.proofs.keep_bytes.Given as goal

abbrev pub invariant-loop-b : goal.invariant-loop-b
invariant-loop-b l =
    (l.place ≤ l.at + 32 * l.b-index) × (l.at + length (kept l.own l.initial.reader l.bytes) ≡ l.place + length (kept l.own l.reader (drop l.b-index l.bytes)))
    × (filled l.own l.initial.reader l.at l.bytes l.initial.costs ≡ filled l.own l.reader l.place (drop l.b-index l.bytes) l.costs)
