-- `highest` meets its contract. The loop's invariant: all costs pass just where the most so far, lifted and come round, and the costs left do.
-- Assumes nothing.
use Prim.Native.Nat.{◌+◌, ◌*◌, ◌-◌, ◌%◌, max}
use mathlib.Core.Path.{◌≡◌, refl, ◌∙◌}
use native.Mathlib.Omega.{arith}
use Rattle.base.specs.Bytes.{u16_at}
use Rattle.table.specs.StreamLaws.{highest_next, highest_end}
use Rattle.table.proofs.highest.Goals as goal

pub loop-i-preserved : goal.loop-i-preserved
loop-i-preserved c =
    let l = c.loop-i in
    let s = c.args.costs.now in
    let k : 2 * l.i + 2 ≡ 2 * (l.i + 1) = omega arith in
    let m : c.args.count - l.i - 1 ≡ c.args.count - (l.i + 1) = omega arith in
    let low = c.from.ensures in
    let high = c.from-in-loop-i.ensures in
    let cost : c.max-most.result ≡ max l.most ((u16_at s (2 * l.i) + c.args.lift) % 65536) = c.max-most.ensures ∙ rw (high, low) refl in
    rw (cost, ← k, ← m) (highest_next c.args.lift s (2 * l.i) (c.args.count - l.i) l.most l.invariant (omega arith))

pub returns : goal.returns
returns c =
    let a = c.args in
    let l = c.loop-i in
    highest_end a.lift a.costs.now (2 * l.i) (a.count - l.i) l.most l.invariant (omega arith)
