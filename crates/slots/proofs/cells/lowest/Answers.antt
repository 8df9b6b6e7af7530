-- `slots::cells::lowest` meets its contract. The loop's invariant: the lowest is the first of the cells from c on.
-- Assumes nothing.
use Rattle.std.proofs.Common.{◌≡◌, sym, ◌∙◌, arith}
use native.Mathlib.Nat.{sub-zero}
use Rattle.slots.specs.Placing.{first_found, first_next, first_none}
use Rattle.slots.specs.Slot.Laws.{used_fits}
use Rattle.slots.proofs.cells.lowest.Goals as goal

pub loop-c-init : goal.loop-c-init
loop-c-init c = rw (sub-zero, c.used_slots-used.ensures)

pub cell_zero-requires : goal.cell_zero-requires
cell_zero-requires c = (omega (arith, c.used_slots-used.ensures, used_fits c.args.n c.requires.0), c.requires.1)

pub returns-then-not-cell_zero : goal.returns-then-not-cell_zero
returns-then-not-cell_zero c =
    let l = c.loop-c in
    first_found c.used_slots-used.result l.c c.args.pool.now l.invariant (omega arith) (sym c.cell_zero.ensures ∙ c.if-not-cell_zero.true)

pub loop-c-preserved : goal.loop-c-preserved
loop-c-preserved c =
    let l = c.loop-c in
    first_next c.used_slots-used.result l.c c.args.pool.now l.invariant (omega arith) (sym c.cell_zero.ensures ∙ c.if-not-cell_zero.false)

pub returns : goal.returns
returns c =
    let l = c.loop-c in
    let all : l.c ≡ c.used_slots-used.result = omega arith in
    sym all ∙ first_none c.used_slots-used.result l.c c.args.pool.now l.invariant (omega arith)
