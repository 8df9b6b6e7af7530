-- `assign` meets its contract: what each value costs is what `assign_paid` asks for.
-- Assumes nothing.
use Rattle.decide.proofs.Lent.{all_paid}
use Rattle.decide.proofs.assign.assign.Goals as goal

pub assign_paid-requires : goal.assign_paid-requires
assign_paid-requires c =
    (c.requires.0, c.requires.1, all_paid c.args.seat c.args.costs.now c.args.ahead.now c.args.t.values c.paid-paid.result c.requires.0 c.paid-paid.ensures)
