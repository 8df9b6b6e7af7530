-- `start_from` meets its contract: all fields are copied but the stage. Assumes nothing.
use Rattle.cabi.proofs.begun.start_from.Goals as goal

pub returns : goal.returns
returns c = rw c.stage_of-stage.ensures
