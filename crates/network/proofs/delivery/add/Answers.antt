-- `network::delivery::add` meets its contract: what was sent is copied in behind the cells in use. Assumes nothing.
use Rattle.network.proofs.delivery.add.Goals as goal

pub returns : goal.returns
returns c = (rw (c.advance.ensures, c.from.ensures), rw c.from-sent.ensures at c.copy_in.ensures)
