-- `slots::cells::lowest` meets its contract. The loop's invariant: the lowest is the first of the cells from c on.
-- Assumes nothing.
use Rattle.std.specs.Prelude.{◌≡◌, ◌-◌}
use Rattle.slots.specs.Settle.{first_from, lowest}
use Rattle.slots.proofs.cells.lowest.Given as goal

abbrev pub invariant-loop-c : goal.invariant-loop-c
invariant-loop-c l = lowest l.n l.pool ≡ first_from (l.used - l.c) l.c l.pool
