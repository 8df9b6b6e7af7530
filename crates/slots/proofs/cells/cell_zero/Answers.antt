-- `slots::cells::cell_zero` meets its contract: the part that is lent is the cell.
-- Assumes nothing.
use Rattle.std.specs.Prelude.{◌≡◌, ◌+◌, ◌-◌, ◌*◌}
use mathlib.Core.Path.{◌∙◌}
use native.Mathlib.Omega.{arith}
use Rattle.slots.proofs.cells.cell_zero.Goals as goal

pub returns : goal.returns
returns c =
    let a = c.args in
    let m : 64 * a.cell + 64 - 64 * a.cell ≡ 64 = omega arith in
    c.all_zero.ensures ∙ rw m
