-- `write` meets its contract. The loop's invariant: the first k blocks of the result's stream, then the buffer as it was.
-- Assumes nothing.
use Prim.Native.Nat.{◌*◌}
use mathlib.Core.Path.{◌≡◌}
use mathlib.Core.List.{◌++◌}
use lib.ListN.{drop}
use Rattle.table.specs.Written.{file_from}
use Rattle.table.specs.Form.Made.{made}
use Rattle.table.proofs.converter.Pieced.write.Given as goal

abbrev pub invariant-loop-k : goal.invariant-loop-k
invariant-loop-k l = l.out ≡ file_from 0 l.k (made l.self) ++ drop (512 * l.k) l.initial.out
