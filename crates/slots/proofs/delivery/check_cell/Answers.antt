-- `slots::delivery::check_cell` meets its contract: each way out decides the tests before it. Assumes nothing.
use mathlib.Core.Path.{sym, ◌∙◌}
use native.Mathlib.Omega.{arith}
use Rattle.slots.specs.Checks.{check_stopped, check_empty, check_none}
use Rattle.slots.proofs.delivery.check_cell.Goals as goal

pub returns-then-core-offset0 : goal.returns-then-core-offset0
returns-then-core-offset0 c = let a = c.args in check_stopped a.core a.stream.now a.pool.now a.cell c.if-core-offset0.true

pub is_empty-requires : goal.is_empty-requires
is_empty-requires c = let p = c.requires in (omega (arith, p.0, c.units_of-n.ensures), p.1)

pub returns-then-is_empty : goal.returns-then-is_empty
returns-then-is_empty c =
    let a = c.args in
    check_empty a.core a.stream.now a.pool.now a.cell c.if-core-offset0.false (rw c.units_of-n.ensures at (sym c.is_empty.ensures ∙ c.if-is_empty.true))

pub returns : goal.returns
returns c =
    let a = c.args in
    check_none a.core a.stream.now a.pool.now a.cell c.if-core-offset0.false (rw c.units_of-n.ensures at (sym c.is_empty.ensures ∙ c.if-is_empty.false))
