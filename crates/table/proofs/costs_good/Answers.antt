-- `costs_good` meets its contract: the costs that there are bytes for are those of the part, and what is past them is 0, or one byte.
-- Assumes nothing.
use Prim.Native.Nat.{◌+◌, ◌*◌, ◌-◌}
use mathlib.Core.Path.{sym, ◌∙◌}
use native.Mathlib.Omega.{arith}
use Rattle.base.specs.Bytes.Laws.{AllBytes}
use Rattle.table.specs.StreamLaws.{lift_of, lift_most, within, costs_lifted, costs_none, costs_whole, costs_part}
use Rattle.table.proofs.costs_good.Goals as goal

pub returns-then-bytes-from : goal.returns-then-bytes-from
returns-then-bytes-from c =
    let a = c.args in
    let s = a.bytes.now in
    sym (costs_lifted a.kind s a.from a.count (λ i. (c.type_inv.bytes i).fits) ∙ costs_none (lift_of a.kind) (lift_most a.kind) s a.from a.count c.if-bytes-from.true)

pub returns : goal.returns
returns c =
    let a = c.args in
    let s = a.bytes.now in
    let b : AllBytes s = λ i. (c.type_inv.bytes i).fits in
    let w = c.min-whole in
    let up = lift_of a.kind in
    let h = rw c.lift-lift.ensures.0 at c.highest.ensures in
    rw c.lift-lift.ensures.0 (sym h ∙ costs_part (within up) s a.from w.result (a.from + 2 * w.result - a.from) (omega arith)
    ∙ sym (costs_lifted a.kind s a.from a.count b ∙ costs_whole up (lift_most a.kind) s a.from a.count w.result b (omega (arith, w.ensures))))
