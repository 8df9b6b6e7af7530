-- `network::lending::lend` meets its contract, by what its two callees ensure.
-- Assumes nothing.
use Rattle.network.proofs.lending.lend.Goals as goal

pub look-looks-requires : goal.look-looks-requires
look-looks-requires c = (c.requires.0, c.lay-starts.ensures)

pub returns : goal.returns
returns c = (c.lay-starts.ensures, c.look-looks.ensures)
