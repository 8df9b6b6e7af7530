-- `write_blocks` meets its contract. The loop's invariant: the first k blocks, then the buffer as it was.
-- Assumes nothing.
use Prim.Native.Nat.{◌*◌}
use mathlib.Core.Path.{◌≡◌}
use mathlib.Core.List.{◌++◌}
use lib.ListN.{drop}
use Rattle.table.specs.Written.{file_from}
use Rattle.table.proofs.write_blocks.Given as goal

abbrev pub invariant-loop-k : goal.invariant-loop-k
invariant-loop-k l = l.file ≡ file_from 0 l.k l.stream ++ drop (512 * l.k) l.initial.file
