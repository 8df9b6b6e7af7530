-- `sum_sizes` meets its contract. The loop's invariant: the sum is that of the places passed, at most 255 for each.
-- Assumes nothing.
use mathlib.Core.Path.{◌≡◌}
use native.Mathlib.Numerals.{add-one}
use native.Mathlib.Omega.{arith}
use Rattle.base.specs.Sums.Laws.{sum_from-last}
use Rattle.sensitivity.specs.Steps.{size_in}
use Rattle.sensitivity.proofs.place.sum_sizes.Goals as goal

pub loop-i-preserved : goal.loop-i-preserved
loop-i-preserved c =
    let a = c.args in
    let l = c.loop-i in
    (rw (l.invariant.0, c.size-sum.ensures.0, add-one, sum_from-last (size_in a.sizes) a.lo l.i), omega arith)

pub returns : goal.returns
returns c =
    let a = c.args in
    let l = c.loop-i in
    let e : l.i ≡ a.m = omega arith in
    (rw (← e) l.invariant.0, omega arith)
