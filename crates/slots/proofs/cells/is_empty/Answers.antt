-- `slots::cells::is_empty` meets its contract: past those used, or by its bytes.
-- Assumes nothing.
use Rattle.std.proofs.Common.{◌∙◌, arith, le-leb}
use Rattle.slots.specs.Placing.{empty_past, empty_used}
use Rattle.slots.proofs.cells.is_empty.Goals as goal

pub returns-then-used_slots-cell : goal.returns-then-used_slots-cell
returns-then-used_slots-cell c =
    let a = c.args in
    le-leb c.used_slots.result a.cell c.if-used_slots-cell.true ∙ empty_past a.n a.pool.now a.cell (omega (arith, c.used_slots.ensures))

pub returns-else-used_slots-cell : goal.returns-else-used_slots-cell
returns-else-used_slots-cell c = let a = c.args in c.cell_zero.ensures ∙ empty_used a.n a.pool.now a.cell (omega (arith, c.used_slots.ensures))
