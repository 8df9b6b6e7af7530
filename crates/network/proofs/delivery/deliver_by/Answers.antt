-- `network::delivery::deliver_by` meets its contract: a refusal, or the message handed over. Assumes nothing.
use Rattle.std.proofs.Common.{refl, sym, ap, ◌∙◌}
use Rattle.base.specs.Refusal.{number_of}
use Rattle.base.specs.Refusal.Laws.{number_some}
use Rattle.runs.specs.Calls.{Result}
use Rattle.runs.proofs.CodeLaws.{opened, deliver_stops, deliver_goes}
use Rattle.network.proofs.delivery.deliver_by.Goals as goal

pub hand_over-requires : goal.hand_over-requires
hand_over-requires c = let a = c.args in opened a.order a.net a.stream.now a.pool.now a.cell (sym (c.in-Ok.ensures a.pool.now refl))

pub returns-in-Ok : goal.returns-in-Ok
returns-in-Ok c =
    let a = c.args in
    let h = c.hand_over in
    let e = deliver_goes a.order a.net a.stream.now a.pool.now a.cell (sym (c.in-Ok.ensures a.pool.now refl)) in
    (h.ensures.0 ∙ ap (λ (x : Result). x.answer) e, h.ensures.1 ∙ ap (λ (x : Result). x.pool) e)

pub returns-in-Err : goal.returns-in-Err
returns-in-Err c =
    let a = c.args in
    let r = c.in-Err.refusal in
    let e = deliver_stops a.order a.net a.stream.now a.pool.now a.cell (number_of r) (c.in-Err.ensures a.pool.now refl) (number_some r) in
    (c.refused.ensures ∙ e.0, e.1)
