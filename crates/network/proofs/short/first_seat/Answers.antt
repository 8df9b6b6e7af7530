-- `first_seat` meets its contract: units and sizes are the table's.
-- Assumes nothing.
use Rattle.network.proofs.short.first_seat.Goals as goal

pub returns : goal.returns
returns c = rw (c.sizes_of.ensures, c.units_of.ensures)
