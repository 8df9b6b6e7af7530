-- `copy_blocks` meets its contract. The loop's invariant: the first k payloads joined, then the buffer as it was.
-- Assumes nothing.
use mathlib.Core.Path.{◌≡◌}
use mathlib.Core.List.{◌++◌}
use lib.ListN.{length, drop}
use Rattle.table.specs.File.{joined}
use Rattle.table.proofs.copy_blocks.Given as goal

abbrev pub invariant-loop-k : goal.invariant-loop-k
invariant-loop-k l = l.out ≡ joined l.k l.file ++ drop (length (joined l.k l.file)) l.initial.out
