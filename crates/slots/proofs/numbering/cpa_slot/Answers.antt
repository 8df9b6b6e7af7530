-- `cpa_slot` meets its contract: one test for each way.
-- Assumes nothing.
use native.Mathlib.Omega.{arith}
use borrow.Author.Tests.{lt-ltb, le-ltb, eq-eqb, ne_eqb}
use Rattle.slots.specs.Slot.{slot_number}
use Rattle.slots.proofs.numbering.cpa_slot.Goals as goal

pub returns-then-receiver-sender : goal.returns-then-receiver-sender
unfolding slot_number
returns-then-receiver-sender c = let a = c.args in rw (eq-eqb _ _ c.if-receiver-sender.true, lt-ltb a.sender a.receiver (omega arith)) (omega arith)

pub returns-then-sender-receiver : goal.returns-then-sender-receiver
unfolding slot_number
returns-then-sender-receiver c = let a = c.args in rw (ne_eqb _ _ c.if-receiver-sender.false, eq-eqb _ _ c.if-sender-receiver.true, le-ltb a.sender a.receiver (omega arith)) (omega arith)

pub returns : goal.returns
returns c = rw (ne_eqb _ _ c.if-receiver-sender.false, ne_eqb _ _ c.if-sender-receiver.false)
