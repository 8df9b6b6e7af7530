-- `sum_sizes` meets its contract. The loop's invariant: the sizes of the first i units are added up.
-- Assumes nothing.
use mathlib.Core.Path.{◌≡◌}
use native.Mathlib.Omega.{arith}
use Rattle.costs.specs.Gather.Steps.{sum_more}
use Rattle.projections.proofs.places.sum_sizes.Goals as goal

pub loop-i-preserved : goal.loop-i-preserved
loop-i-preserved c =
    let l = c.loop-i in
    (rw (l.invariant.0, c.size_of-sum.ensures.0, sum_more), omega arith)

pub returns : goal.returns
returns c =
    let l = c.loop-i in
    let e : l.i ≡ c.args.m = omega arith in
    (rw (← e) l.invariant.0, omega arith)
