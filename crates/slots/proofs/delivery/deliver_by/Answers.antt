-- `slots::delivery::deliver_by` meets its contract: a refusal of what is lent, or the delivery. Assumes nothing.
use Rattle.std.proofs.Common.{sym, ◌∙◌}
use Rattle.base.specs.Refusal.{number_of}
use Rattle.base.specs.Refusal.Laws.{number_some}
use Rattle.slots.specs.Code.{lent_stops}
use Rattle.slots.proofs.delivery.deliver_by.Goals as goal

pub deliver_checked-requires : goal.deliver_checked-requires
deliver_checked-requires c = sym c.in-Ok.ensures

pub returns-in-Ok : goal.returns-in-Ok
returns-in-Ok c = let d = c.deliver_checked in (d.ensures.0, d.ensures.1)

pub returns-in-Err : goal.returns-in-Err
returns-in-Err c =
    let a = c.args in
    let r = c.in-Err.refusal in
    let e = lent_stops a.order a.core a.stream.now a.pool.now a.cell (number_of r) c.in-Err.ensures (number_some r) in
    (c.refused.ensures ∙ e.0, e.1)
