-- `sum_sizes` meets its contract. The loop's invariant: the sum of the first i sizes; bytes are small, so nothing wraps.
-- Assumes nothing.
use Prim.Native.Nat.{◌<◌, ◌+◌}
use native.Mathlib.Omega.{arith}
use borrow.Author.Rules.{rules}
use lib.ListN.{length}
use Rattle.table.specs.Stream.{sum_list}
use Rattle.table.specs.Seen.{seen}
use Rattle.table.specs.StreamLaws.{sum_more}
use Rattle.table.proofs.view.View.sum_sizes.Goals as goal

pub loop-i-init : goal.loop-i-init
unfolding sum_list
loop-i-init c = search rules

pub loop-i-preserved : goal.loop-i-preserved
loop-i-preserved c =
    let l = c.loop-i in
    let s = seen c.args.self.now in
    let e = c.byte-sum.ensures.0 in
    let k : c.args.from + l.i < length s = omega (arith, c.args.self.now.viewed.counted) in
    (omega arith, omega arith, rw (sum_more s c.args.from c.args.n l.i (omega arith) k, ← e, ← l.invariant.2))
