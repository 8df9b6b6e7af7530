-- `sizes_good` meets its contract. The loop's invariant: the whole answer is that of the sizes from place i on.
-- Assumes nothing.
use Prim.Native.Nat.{◌+◌}
use mathlib.Core.Path.{◌≡◌, sym, ap, ◌∙◌}
use mathlib.Core.Bool.{true, false}
use native.Mathlib.Omega.{arith}
use lib.ListN.{get_or}
use Rattle.base.specs.Shape.Laws.{in_sixteen}
use Rattle.table.specs.Seen.{seen}
use Rattle.table.specs.StreamLaws.{sizes_bad, sizes-next, sizes_end}
use Rattle.table.proofs.view.View.sizes_good.Goals as goal

pub returns-then-self-from : goal.returns-then-self-from
returns-then-self-from c =
    let l = c.loop-i in
    sizes_end (seen c.args.self.now) c.args.from c.args.n l.i l.invariant.1 (omega (arith, c.args.self.now.viewed.counted))

pub returns-then-not-is_value : goal.returns-then-not-is_value
returns-then-not-is_value c =
    let l = c.loop-i in
    let s = seen c.args.self.now in
    let e : in_sixteen (get_or s (c.args.from + l.i) 0) ≡ false = ap in_sixteen (sym c.byte.ensures.0) ∙ sym c.is_value.ensures ∙ c.if-not-is_value.true in
    sizes_bad s c.args.from c.args.n l.i l.invariant.1 (omega arith) (omega (arith, c.args.self.now.viewed.counted)) e

pub loop-i-preserved : goal.loop-i-preserved
loop-i-preserved c =
    let l = c.loop-i in
    let s = seen c.args.self.now in
    let e : in_sixteen (get_or s (c.args.from + l.i) 0) ≡ true = ap in_sixteen (sym c.byte.ensures.0) ∙ sym c.is_value.ensures ∙ c.if-not-is_value.false in
    (omega arith, sizes-next s c.args.from c.args.n l.i l.invariant.1 (omega arith) (omega (arith, c.args.self.now.viewed.counted)) e)

pub returns : goal.returns
returns c =
    let l = c.loop-i in
    sizes_end (seen c.args.self.now) c.args.from c.args.n l.i l.invariant.1 (omega arith)
