-- `highest` meets its contract. The loop's invariant: all costs pass just where the most so far, lifted and come round, and the costs left do.
-- Assumes nothing.
use Prim.Native.Nat.{◌+◌, ◌*◌, ◌-◌}
use mathlib.Core.Path.{◌≡◌}
use mathlib.Core.Bool.{◌&&◌}
use lib.Dec.{leb}
use Rattle.base.specs.Limits.{pair_limit}
use Rattle.table.specs.Stream.{costs_good}
use Rattle.table.specs.StreamLaws.{within}
use Rattle.table.proofs.highest.Given as goal

abbrev pub invariant-loop-i : goal.invariant-loop-i
invariant-loop-i l = costs_good (within l.lift) l.costs 0 l.count ≡ (leb l.most (pair_limit + l.lift) && costs_good (within l.lift) l.costs (2 * l.i) (l.count - l.i))
