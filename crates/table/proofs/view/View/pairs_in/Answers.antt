-- `pairs_in` meets its contract. The loop's invariant: the sum and the pairs of the first i sizes; bytes are small, so nothing wraps.
-- Assumes nothing.
use Prim.Native.Nat.{◌<◌, ◌≤◌, ◌+◌, ◌*◌}
use native.Mathlib.Nat.{mul-le-mul}
use native.Mathlib.Omega.{arith}
use borrow.Author.Rules.{rules}
use lib.ListN.{length}
use Rattle.table.specs.Stream.{sum_list, pairs_in}
use Rattle.table.specs.Seen.{seen}
use Rattle.table.specs.StreamLaws.{sum_more, pairs_more}
use Rattle.table.proofs.view.View.pairs_in.Goals as goal

pub loop-i-init : goal.loop-i-init
unfolding sum_list pairs_in
loop-i-init c = search rules

pub loop-i-preserved : goal.loop-i-preserved
loop-i-preserved c =
    let l = c.loop-i in
    let b : l.earlier ≤ 4080 = omega arith in
    let d : c.byte-size.result ≤ 255 = omega arith in
    let p : l.earlier * c.byte-size.result ≤ 4080 * 255 = mul-le-mul b d in
    let s = seen c.args.self.now in
    let e = c.byte-size.ensures.0 in
    let h : l.i < c.args.n = omega arith in
    let k : c.args.from + l.i < length s = omega (arith, c.args.self.now.viewed.counted) in
    (omega arith, omega arith, omega arith, rw (sum_more s c.args.from c.args.n l.i h k, ← e, ← l.invariant.3), rw (pairs_more s c.args.from c.args.n l.i h k, ← e, ← l.invariant.3, ← l.invariant.4))
