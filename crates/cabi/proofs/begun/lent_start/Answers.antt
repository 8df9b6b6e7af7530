-- `lent_start` meets its contract: all fields are copied but the stage. Assumes nothing.
use Rattle.cabi.proofs.begun.lent_start.Goals as goal

pub returns : goal.returns
returns c = rw c.stage_number.ensures
