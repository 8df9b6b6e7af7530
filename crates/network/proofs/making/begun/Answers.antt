-- `network::making::begun` meets its contract: the units and counts as `core` has them, and what was sent. Assumes nothing.
use Rattle.network.proofs.making.begun.Goals as goal

pub returns : goal.returns
returns c = rw (c.begun.ensures, c.from.ensures)
