-- `shed_core::making::no_core` meets its contract: each part is zero. Assumes nothing.
use Rattle.shed_core.proofs.making.no_core.Goals as goal

pub returns : goal.returns
returns c = rw c.no_unit.ensures
