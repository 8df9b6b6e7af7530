-- `zero_between` meets its contract. The loop's invariant: the whole answer is that of the bytes from place k on.
-- Assumes nothing.
use mathlib.Core.Path.{◌≡◌}
use lib.ListN.{take, drop}
use Rattle.table.specs.Block.{all_zero}
use Rattle.table.specs.File.{stream_of}
use Rattle.table.proofs.converter.Table.zero_between.Given as goal

abbrev pub invariant-loop-k : goal.invariant-loop-k
invariant-loop-k l = all_zero (drop l.from (take l.to (stream_of l.self.bytes.now))) ≡ all_zero (drop l.k (take l.to (stream_of l.self.bytes.now)))
