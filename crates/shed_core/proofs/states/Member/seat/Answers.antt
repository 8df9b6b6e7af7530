-- `shed_core::states::Member::seat` meets its contract: the stream's n and sizes. Assumes nothing.
use Rattle.shed_core.proofs.states.Member.seat.Goals as goal

pub returns : goal.returns
returns c = rw (c.units_of.ensures, c.sizes_of.ensures)
