-- `long_sum` meets its contract. The loop's invariant: the total is the check of the bytes passed, and below 65,521.
-- Each product is at most 65,521 × 255, so nothing wraps. Assumes nothing.
use Prim.Native.Nat.{◌+◌, ◌%◌, ◌≤◌}
use mathlib.Core.Path.{sym, ap, ◌∙◌}
use native.Mathlib.Nat.{mul-le-mul}
use native.Mathlib.Omega.{arith}
use lib.Seq.{take_all}
use Rattle.checksum.specs.Sum.{sum_of}
use Rattle.checksum.specs.Sum.Laws.{sum_none, sum_more}
use Rattle.checksum.proofs.long_sum.Goals as goal

pub loop-i-init : goal.loop-i-init
loop-i-init c = (omega arith, sym (sum_none c.args.bytes.now), omega arith)

pub overflow_mul-total : goal.overflow_mul-total
overflow_mul-total c =
    let l = c.loop-i in
    let b : c.from.result ≤ 255 = omega (arith, c.from.ensures, c.type_inv.bytes l.i) in
    let w : l.i % 65521 + 1 ≤ 65521 = omega arith in
    omega (arith, mul-le-mul w b)

pub overflow_add-total : goal.overflow_add-total
overflow_add-total c =
    let l = c.loop-i in
    let b : c.from.result ≤ 255 = omega (arith, c.from.ensures, c.type_inv.bytes l.i) in
    let w : l.i % 65521 + 1 ≤ 65521 = omega arith in
    omega (arith, mul-le-mul w b)

pub loop-i-preserved : goal.loop-i-preserved
loop-i-preserved c =
    let l = c.loop-i in
    (omega arith, rw c.from.ensures (sum_more c.args.bytes.now l.i l.total (omega arith) l.invariant.1), omega arith)

pub returns : goal.returns
returns c =
    let l = c.loop-i in
    let s = c.args.bytes.now in
    l.invariant.1 ∙ ap sum_of (take_all l.i s (omega arith))
