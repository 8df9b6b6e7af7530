-- `Sheet::readings` meets its contract. The loop's invariant: the readings of the entries passed, and behind them the zeros that there were.
-- Assumes nothing.
use Rattle.std.proofs.Common.{◌≡◌, ◌*◌, ◌≤◌, ◌++◌, length, take, drop, replicate}
use Rattle.rows.specs.Lines.{readings_in}
use Rattle.rows.proofs.Sheet.readings.Given as goal

abbrev pub invariant-loop-k : goal.invariant-loop-k
invariant-loop-k l = (l.k ≤ length l.entry-items) × (l.readings ≡ readings_in (take l.k l.entry-items) ++ drop (2 * l.k) (replicate 32 0))
