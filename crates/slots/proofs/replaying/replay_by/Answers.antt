-- `slots::replaying::replay_by` meets its contract: 22; an empty list; a refusal of what is lent; or the deliveries. Assumes nothing.
use Rattle.std.proofs.Common.{refl, sym, ap, ◌∙◌, eqb-true}
use Rattle.std.proofs.lemmas.Bool.{eqb-false}
use Rattle.base.specs.Refusal.{number_of}
use Rattle.base.specs.Refusal.Laws.{number_some}
use Rattle.slots.specs.Calls.{Result}
use Rattle.slots.specs.Replay.Laws.{replay_odd, replay_paired, replay_none, replay_lent}
use Rattle.slots.proofs.replaying.replay_by.Goals as goal

pub returns-then-list-ne0 : goal.returns-then-list-ne0
returns-then-list-ne0 c = let a = c.args in rw (replay_odd a.order a.core a.stream.now a.pool.now a.list.now c.if-list-ne0.true) (c.refused.ensures, refl)

pub returns-then-is_empty : goal.returns-then-is_empty
returns-then-is_empty c = let a = c.args in rw (replay_none a.order a.core a.stream.now a.pool.now a.list.now (eqb-true _ _ (sym c.is_empty.ensures ∙ c.if-is_empty.true))) (refl, refl)

pub deliver_all-requires : goal.deliver_all-requires
deliver_all-requires c = sym c.in_default.ensures

pub returns : goal.returns
returns c =
    let a = c.args in
    let d = c.deliver_all in
    let e = sym (replay_paired a.order a.core a.stream.now a.pool.now a.list.now c.if-list-ne0.false) in
    (d.ensures.0 ∙ ap (λ (x : Result). x.answer) e, d.ensures.1 ∙ ap (λ (x : Result). x.pool) e)

pub returns-in-Err : goal.returns-in-Err
returns-in-Err c =
    let a = c.args in
    let r = c.in-Err.refusal in
    let e = replay_lent a.order a.core a.stream.now a.pool.now a.list.now c.if-list-ne0.false (eqb-false _ _ (sym c.is_empty.ensures ∙ c.if-is_empty.false)) (number_of r) c.in-Err.ensures (number_some r) in
    (c.refused-in-Err.ensures ∙ e.0, e.1)
