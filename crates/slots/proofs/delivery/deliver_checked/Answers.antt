-- `slots::delivery::deliver_checked` meets its contract: a refusal with all as lent, or the message handed over. Assumes nothing.
use Rattle.std.proofs.Common.{sym, ap, ◌∙◌}
use Rattle.base.specs.Refusal.{number_of}
use Rattle.base.specs.Refusal.Laws.{number_some}
use Rattle.table.specs.StreamLaws.{accepted_units}
use Rattle.slots.specs.Calls.{Result}
use Rattle.slots.specs.Checks.{deliver_goes}
use Rattle.slots.specs.Code.{lent_room, lent_sound, opened, cell_stops}
use Rattle.slots.proofs.delivery.deliver_checked.Goals as goal

pub check_cell-requires : goal.check_cell-requires
check_cell-requires c =
    let a = c.args in
    ((accepted_units a.stream.now (lent_sound a.order a.core a.stream.now a.pool.now c.requires).table).1, lent_room a.order a.core a.stream.now a.pool.now c.requires)

pub hand_over-requires : goal.hand_over-requires
hand_over-requires c = let a = c.args in opened a.order a.core a.stream.now a.pool.now a.cell c.requires (sym c.in-Ok.ensures)

pub returns-in-Ok : goal.returns-in-Ok
returns-in-Ok c =
    let a = c.args in
    let h = c.hand_over in
    let e = sym (deliver_goes a.order a.core a.stream.now a.pool.now a.cell c.requires c.in-Ok.ensures) in
    (h.ensures.0 ∙ ap (λ (x : Result). x.answer) e, h.ensures.1 ∙ ap (λ (x : Result). x.pool) e, h.ensures.2)

pub returns-in-Err : goal.returns-in-Err
returns-in-Err c =
    let a = c.args in
    let r = c.in-Err.refusal in
    let e = cell_stops a.order a.core a.stream.now a.pool.now a.cell c.requires (number_of r) c.in-Err.ensures (number_some r) in
    (c.refused.ensures ∙ e.0, e.1, rw c.refused.ensures c.requires)
