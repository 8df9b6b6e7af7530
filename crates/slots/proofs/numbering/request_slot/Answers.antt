-- `request_slot` meets its contract: the senders before have no more later units than all have.
-- Assumes nothing.
use Rattle.std.specs.Prelude.{◌+◌, ◌-◌}
use native.Mathlib.Omega.{arith}
use borrow.Author.Tests.{lt-ltb, le-ltb}
use Rattle.slots.specs.Slot.{slot_number}
use Rattle.slots.specs.Slot.Laws.{triangle_mono}
use Rattle.slots.proofs.numbering.request_slot.Goals as goal

pub returns-then-receiver-sender : goal.returns-then-receiver-sender
returns-then-receiver-sender c = rw (le-ltb _ _ c.if-receiver-sender.true)

pub overflow_sub-before : goal.overflow_sub-before
overflow_sub-before c =
    let a = c.args in
    omega (arith, c.triangle-2.ensures.0, c.triangle.ensures.0, triangle_mono (a.n + 1 - a.sender) a.n (omega arith))

pub returns : goal.returns
unfolding slot_number
returns c = rw (lt-ltb _ _ c.if-receiver-sender.false, c.triangle.ensures.0, c.triangle-2.ensures.0)
