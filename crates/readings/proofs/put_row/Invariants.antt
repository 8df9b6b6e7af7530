-- `put_row` meets its contract. The loop's invariant: the costs with the first v lots stand at their place. Assumes nothing.
use mathlib.Core.Path.{◌≡◌}
use Rattle.base.specs.Put.{put_at}
use Rattle.readings.specs.Pieces.{row_of}
use Rattle.readings.proofs.put_row.Given as goal

abbrev pub invariant-loop-v : goal.invariant-loop-v
invariant-loop-v l = l.stream ≡ put_at l.initial.stream l.at (row_of l.cost l.v l.u)
