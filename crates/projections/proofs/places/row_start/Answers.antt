-- `row_start` meets its contract. The loop's invariant: `start` is how many stand before those of unit a.
-- Assumes nothing.
use Prim.Native.Nat.{◌≤◌}
use mathlib.Core.Path.{◌≡◌}
use native.Mathlib.Omega.{arith}
use native.Mathlib.Nat.{mul-le-mul}
use native.Mathlib.Numerals.{add-one}
use Rattle.projections.proofs.places.row_start.Goals as goal

pub overflow_mul-start : goal.overflow_mul-start
overflow_mul-start c =
    let m : c.sum_sizes.result ≤ 4080 = omega (arith, c.sum_sizes.ensures.1, c.from-count.ensures, c.requires.0) in
    omega (arith, mul-le-mul c.size_of.ensures.1 m)

pub overflow_add-start : goal.overflow_add-start
overflow_add-start c =
    let m : c.sum_sizes.result ≤ 4080 = omega (arith, c.sum_sizes.ensures.1, c.from-count.ensures, c.requires.0) in
    omega (arith, c.loop-a.auto.a-end, c.loop-a.invariant.1, c.requires.0, c.requires.1, mul-le-mul c.size_of.ensures.1 m)

pub loop-a-preserved : goal.loop-a-preserved
loop-a-preserved c =
    let m : c.sum_sizes.result ≤ 4080 = omega (arith, c.sum_sizes.ensures.1, c.from-count.ensures, c.requires.0) in
    let l = c.loop-a in
    (rw (l.invariant.0, c.size_of.ensures.0, c.sum_sizes.ensures.0, c.from-count.ensures, add-one), omega (arith, l.invariant.1, mul-le-mul c.size_of.ensures.1 m))

pub returns : goal.returns
returns c =
    let l = c.loop-a in
    let e : l.a ≡ c.args.i = omega arith in
    (rw (← e) l.invariant.0, omega (arith, l.invariant.1))
