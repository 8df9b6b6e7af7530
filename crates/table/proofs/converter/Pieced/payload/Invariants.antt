-- `payload` meets its contract. The loop's invariant: the first i bytes are those of the result's stream from byte `from` on.
-- Assumes nothing.
use mathlib.Core.Path.{◌≡◌}
use lib.ListN.{length, take, drop}
use Rattle.table.specs.Form.Made.{made}
use Rattle.table.proofs.converter.Pieced.payload.Given as goal

abbrev pub invariant-loop-i : goal.invariant-loop-i
invariant-loop-i l = (length l.payload ≡ 506) × (take l.i l.payload ≡ take l.i (drop l.from (made l.self)))
