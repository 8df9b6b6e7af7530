-- `slots::making::make_by` meets its contract: a refusal with all zero, or unit 1's making placed. Assumes nothing.
use Rattle.std.proofs.Common.{sym, ◌∙◌}
use Rattle.base.specs.Refusal.{number_of}
use Rattle.base.specs.Refusal.Laws.{number_some}
use Rattle.slots.specs.Code.{make_refuses}
use Rattle.slots.proofs.making.make_by.Goals as goal

pub place_first-requires : goal.place_first-requires
place_first-requires c = sym c.in_default.ensures

pub returns-in-Err : goal.returns-in-Err
returns-in-Err c =
    let a = c.args in
    let r = c.in-Err.refusal in
    let e = make_refuses a.order a.stream.now a.pool.now (number_of r) c.in-Err.ensures (number_some r) in
    (rw (c.number.ensures, c.no_core.ensures) e.0, e.1)
