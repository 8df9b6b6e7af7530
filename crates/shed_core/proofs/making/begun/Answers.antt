-- `shed_core::making::begun` meets its contract: 15 new units behind unit 1, and its records counted. Assumes nothing.
use Rattle.shed_core.proofs.making.begun.Goals as goal

pub returns : goal.returns
returns c = rw (c.plus.ensures, c.from.ensures, c.fresh-units.ensures)
