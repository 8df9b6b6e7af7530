-- `put_doubled` meets its contract. The loop's invariant: the bytes so far are written, each quote twice.
-- Assumes nothing.
use Prim.Native.Nat.{◌+◌, ◌*◌, ◌≤◌}
use mathlib.Core.Path.{◌≡◌}
use lib.ListN.{length, take}
use Rattle.base.specs.Put.{put_at}
use Rattle.rows.specs.Lines.{doubled}
use Rattle.rows.proofs.text.put_doubled.Given as goal

abbrev pub invariant-loop-b : goal.invariant-loop-b
invariant-loop-b l = (l.at ≡ 1 + length (doubled (take l.b-index l.name))) × (l.at ≤ 1 + 2 * l.b-index) × (l.out ≡ put_at l.initial.out 1 (doubled (take l.b-index l.name)))
