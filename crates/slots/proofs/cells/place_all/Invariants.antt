-- `slots::cells::place_all` meets its contract. The loop's invariant: placing all is placing those from the i-th on into the pool as it is.
-- Assumes nothing.
use Rattle.std.specs.Prelude.{◌≡◌, ◌-◌}
use Rattle.slots.specs.Placing.{place_sent}
use Rattle.slots.proofs.cells.place_all.Given as goal

abbrev pub invariant-loop-i : goal.invariant-loop-i
invariant-loop-i l = place_sent l.n l.initial.pool l.out 0 l.sent ≡ place_sent l.n l.pool l.out l.i (l.sent - l.i)
