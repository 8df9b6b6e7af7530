-- A network can be made of the table of readings, as it is accepted. Assumes nothing.
use Rattle.std.specs.Prelude.{ℕ, ◌≤◌, ◌≡◌, true, List, length}
use Rattle.base.specs.Limits.{pool_size}
use Rattle.base.specs.Shape.{shape_good}
use Rattle.costs.specs.declared.ValueOrder.{ValueOrder}
use Rattle.costs.specs.Streamed.{stream_for}
use Rattle.runs.specs.Demand3.{Made}
use Rattle.runs.specs.Made.{accepted-made}
use Rattle.readings.specs.Readings.{lines_of}
use Rattle.readings.specs.Table.{lines_accepted}

pub lines_made : (order : ValueOrder) (n : ℕ) (sizes readings pool : List ℕ) → shape_good n sizes ≡ true → n ≤ length sizes → pool_size ≤ length pool → Made order (stream_for (lines_of n sizes readings)) pool
lines_made order n sizes readings pool good long room = accepted-made order (stream_for (lines_of n sizes readings)) pool (lines_accepted n sizes readings good long) room
