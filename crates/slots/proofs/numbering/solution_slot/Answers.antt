-- `solution_slot` meets its contract: the definition's sum, from unit n to another.
-- Assumes nothing.
use mathlib.Core.Logic.{⊎_elim}
use borrow.Author.Tests.{eq-eqb, ne_eqb}
use Rattle.slots.specs.Slot.{slot_number}
use Rattle.slots.proofs.numbering.solution_slot.Goals as goal

pub returns-then-sender-n : goal.returns-then-sender-n
returns-then-sender-n c = let a = c.args in ⊎_elim (λ e. rw (ne_eqb a.sender a.n e)) (λ e. rw (eq-eqb a.sender a.n e.0, eq-eqb a.receiver a.sender e.1)) c.then-sender-n.either

pub returns : goal.returns
unfolding slot_number
returns c = rw (eq-eqb _ _ c.if-sender-n.false, ne_eqb _ _ c.if-receiver-sender.false, c.triangle.ensures.0)
