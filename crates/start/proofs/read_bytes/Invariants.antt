-- `read_bytes` meets its contract. The loop's invariant: the whole answer is that of the bytes from there on. Assumes nothing.
use mathlib.Core.Path.{◌≡◌}
use lib.ListN.{drop}
use Rattle.start.specs.Byte.{after}
use Rattle.start.proofs.read_bytes.Given as goal

abbrev pub invariant-loop-b : goal.invariant-loop-b
invariant-loop-b l = after l.initial.reader l.bytes ≡ after l.reader (drop l.b-index l.bytes)
