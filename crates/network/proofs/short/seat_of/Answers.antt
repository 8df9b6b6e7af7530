-- `seat_of` meets its contract: only the number changes, to the receiver.
-- Assumes nothing.
use Rattle.network.proofs.short.seat_of.Goals as goal

pub returns : goal.returns
returns c = (rw c.receiver.ensures.0, c.receiver.ensures.1)
