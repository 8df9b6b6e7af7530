-- `send` meets its contract: nothing is sent that doesn't fit, else all is laid.
-- Assumes nothing.
use mathlib.Core.Path.{◌≡◌, refl, sym, ◌∙◌}
use mathlib.Core.Bool.{true}
use lib.ListN.{length}
use Rattle.rules.specs.Trusted.{can_send}
use Rattle.rules.specs.Laying.{laid_none}
use Rattle.rules.specs.Laws.Trusted.{send_none, send_all}
use Rattle.unit.proofs.sending.send.Goals as goal
use Rattle.unit.proofs.sending.send.Goals.{Then-can_send}

can : (c : Then-can_send) → let a = c.args in can_send a.seat a.s (length a.out.now) ≡ true
can c = sym c.can_send.ensures ∙ c.if-can_send.true

pub returns-else-can_send : goal.returns-else-can_send
returns-else-can_send c =
    let a = c.args in
    rw (send_none a.seat a.s (length a.out.now) (sym c.can_send.ensures ∙ c.if-can_send.false)) (refl, sym (laid_none a.out.now))

pub returns-then-can_send : goal.returns-then-can_send
returns-then-can_send c =
    let a = c.args in
    rw (send_all a.seat a.s (length a.out.now) (can (goal.at.returns-then-can_send c).Then-can_send)) c.lay.ensures
