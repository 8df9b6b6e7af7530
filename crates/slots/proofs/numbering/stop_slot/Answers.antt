-- `stop_slot` meets its contract: the definition's sum, from unit 1 to another.
-- Assumes nothing.
use mathlib.Core.Logic.{⊎_elim}
use borrow.Author.Tests.{eq-eqb, ne_eqb}
use Rattle.slots.specs.Slot.{slot_number}
use Rattle.slots.proofs.numbering.stop_slot.Goals as goal

pub returns-then-sender-ne1 : goal.returns-then-sender-ne1
returns-then-sender-ne1 c = let a = c.args in ⊎_elim (λ e. rw (ne_eqb a.sender 1 e)) (λ e. rw (eq-eqb a.sender 1 e.0, eq-eqb a.receiver a.sender e.1)) c.then-sender-ne1.either

pub returns : goal.returns
unfolding slot_number
returns c = rw (eq-eqb _ _ c.if-sender-ne1.false, ne_eqb _ _ c.if-receiver-sender.false, c.triangle.ensures.0)
