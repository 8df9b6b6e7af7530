-- `spread` meets its contract. The loop's invariant: the messages to the first i units are put; the measure is how many are left.
-- Assumes nothing.
use Prim.Native.Nat.{◌*◌}
use mathlib.Core.Path.{◌≡◌}
use lib.ListN.{length}
use Rattle.base.specs.Put.{put_at}
use Rattle.rules.specs.Send.{sent_to, each, encode_all}
use Rattle.unit.proofs.sending.spread.Given as goal

abbrev pub invariant-loop-i : goal.invariant-loop-i
invariant-loop-i l = (length l.out ≡ length l.initial.out) × (l.out ≡ put_at l.initial.out (64 * l.sent) (encode_all (each (sent_to l.kind l.m) l.lo l.i)))
