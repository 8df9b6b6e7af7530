-- `row_starts` meets its contract. The loop's invariant: the next row begins behind those passed, each of at most 255 times 16 times 255 costs,
-- and each place passed holds where its row begins. Assumes nothing.
use Rattle.std.proofs.Common.{◌≡◌, ◌+◌, ◌*◌, ◌≤◌, length}
use Rattle.costs.specs.Lent.Parts.{dom_from}
use Rattle.costs.specs.Laws.Stream.{row_start}
use Rattle.costs.specs.Gather.Steps.{RowsTo}
use Rattle.costs.proofs.stream.row_starts.Given as goal

abbrev pub invariant-loop-a : goal.invariant-loop-a
invariant-loop-a l = (length l.rows ≡ 16) × (l.row ≡ l.from + 2 * row_start (dom_from l.seat) l.seat.n l.a) × (l.row ≤ 131072 + 2080800 * l.a) × RowsTo l.seat l.from l.a l.rows
