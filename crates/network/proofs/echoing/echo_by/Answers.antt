-- `network::echoing::echo_by` meets its contract: a refusal, or the packet heard. Assumes nothing.
use Rattle.std.proofs.Common.{refl, sym, ap, ◌∙◌}
use Rattle.base.specs.Refusal.{number_of}
use Rattle.base.specs.Refusal.Laws.{number_some}
use Rattle.runs.specs.Calls.{Result}
use Rattle.runs.proofs.CodeLaws.{passing, echo_stops, echo_goes}
use Rattle.network.proofs.echoing.echo_by.Goals as goal

pub hear-requires : goal.hear-requires
hear-requires c = let a = c.args in passing a.order a.net a.stream.now a.pool.now (sym (c.in-Ok.ensures a.pool.now refl))

pub returns-in-Ok : goal.returns-in-Ok
returns-in-Ok c =
    let a = c.args in
    let h = c.hear in
    let e = echo_goes a.order a.net a.stream.now a.pool.now a.packet.now (sym (c.in-Ok.ensures a.pool.now refl)) in
    (h.ensures.0 ∙ ap (λ (x : Result). x.answer) e, h.ensures.1 ∙ ap (λ (x : Result). x.pool) e)

pub returns-in-Err : goal.returns-in-Err
returns-in-Err c =
    let a = c.args in
    let r = c.in-Err.refusal in
    let e = echo_stops a.order a.net a.stream.now a.pool.now a.packet.now (number_of r) (c.in-Err.ensures a.pool.now refl) (number_some r) in
    (c.refused.ensures ∙ e.0, e.1)
