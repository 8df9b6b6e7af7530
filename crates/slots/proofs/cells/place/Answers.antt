-- `slots::cells::place` meets its contract: a packet that names no cell is left out.
-- Assumes nothing.
use Rattle.std.proofs.Common.{◌∙◌}
use Rattle.slots.specs.Placing.{place_none, place_one}
use Rattle.slots.proofs.cells.place.Goals as goal

pub returns-then-cell-lt-SLOTS : goal.returns-then-cell-lt-SLOTS
returns-then-cell-lt-SLOTS c =
    let a = c.args in
    let w = c.named_slot-cell in
    c.put.ensures ∙ place_one a.n a.pool.now a.packet.now w.result w.ensures c.if-cell-lt-SLOTS.true

pub returns-else-cell-lt-SLOTS : goal.returns-else-cell-lt-SLOTS
returns-else-cell-lt-SLOTS c =
    let a = c.args in
    let w = c.named_slot-cell in
    place_none a.n a.pool.now a.packet.now w.result w.ensures c.if-cell-lt-SLOTS.false
