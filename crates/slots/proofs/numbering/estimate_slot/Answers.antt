-- `estimate_slot` meets its contract: the definition's sum, of the pairs counted.
-- Assumes nothing.
use borrow.Author.Tests.{lt-ltb, le-ltb}
use Rattle.slots.specs.Slot.{slot_number}
use Rattle.slots.proofs.numbering.estimate_slot.Goals as goal

pub returns-then-sender-receiver : goal.returns-then-sender-receiver
returns-then-sender-receiver c = rw (le-ltb _ _ c.if-sender-receiver.true)

pub returns : goal.returns
unfolding slot_number
returns c = rw (lt-ltb _ _ c.if-sender-receiver.false, c.triangle.ensures.0, c.triangle-2.ensures.0)
