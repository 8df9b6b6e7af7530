-- `pair_start` meets its contract.
-- Assumes nothing.
use Prim.Native.Nat.{◌≤◌}
use native.Mathlib.Omega.{arith}
use native.Mathlib.Nat.{mul-le-mul}
use native.Mathlib.Numerals.{add-one}
use Rattle.projections.proofs.places.pair_start.Goals as goal

pub overflow_mul-result : goal.overflow_mul-result
overflow_mul-result c =
    let m : c.sum_sizes.result ≤ 4080 = omega (arith, c.sum_sizes.ensures.1, c.requires.0) in
    omega (arith, mul-le-mul c.size_of.ensures.1 m)

pub overflow_add-result : goal.overflow_add-result
overflow_add-result c =
    let m : c.sum_sizes.result ≤ 4080 = omega (arith, c.sum_sizes.ensures.1, c.requires.0) in
    omega (arith, c.row_start.ensures.1, c.requires.0, c.requires.1, c.requires.2, mul-le-mul c.size_of.ensures.1 m)

pub returns : goal.returns
returns c =
    let m : c.sum_sizes.result ≤ 4080 = omega (arith, c.sum_sizes.ensures.1, c.requires.0) in
    (rw (c.row_start.ensures.0, c.size_of.ensures.0, c.sum_sizes.ensures.0, add-one), omega (arith, c.row_start.ensures.1, c.requires.0, c.requires.1, c.requires.2, mul-le-mul c.size_of.ensures.1 m))
