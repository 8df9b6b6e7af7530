-- `sizes_of` meets its contract. The loop's invariant: the first i places are written, the others zero.
-- Assumes nothing.
use Rattle.std.proofs.Common.{◌≡◌, ◌++◌, take, drop, replicate}
use Rattle.costs.specs.Gather.{sizes_in}
use Rattle.costs.proofs.stream.sizes_of.Given as goal

abbrev pub invariant-loop-i : goal.invariant-loop-i
invariant-loop-i l = (l.sizes ≡ take l.i (sizes_in l.stream) ++ drop l.i (replicate 16 0))
