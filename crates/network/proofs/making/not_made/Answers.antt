-- `network::making::not_made` meets its contract: the number, and each part zero. Assumes nothing.
use Rattle.network.proofs.making.not_made.Goals as goal

pub returns : goal.returns
returns c = rw (c.number.ensures, c.no_core.ensures)
