-- `pair_start` meets its contract. The loop's invariant: the rows passed have as many costs, each at most 255 times 16 times 255.
-- Assumes nothing.
use Prim.Native.Nat.{◌*◌, ◌≤◌}
use mathlib.Core.Path.{◌≡◌}
use native.Mathlib.Nat.{mul-le-mul}
use native.Mathlib.Numerals.{add-one}
use native.Mathlib.Omega.{arith}
use Rattle.sensitivity.proofs.place.pair_start.Goals as goal
use Rattle.sensitivity.proofs.place.pair_start.Goals.{After-sum_sizes, After-sum_sizes-2}

-- a row is not long
few : (c : After-sum_sizes) → c.size.result * c.sum_sizes.result ≤ 255 * 4080
few c =
    let s : c.sum_sizes.result ≤ 4080 = omega (arith, c.sum_sizes.ensures.1, c.requires.2) in
    mul-le-mul c.size.ensures.1 s

few-between : (c : After-sum_sizes-2) → c.size-2.result * c.sum_sizes-2.result ≤ 255 * 4080
few-between c =
    let s : c.sum_sizes-2.result ≤ 4080 = omega (arith, c.sum_sizes-2.ensures.1, c.requires.1, c.requires.2) in
    mul-le-mul c.size-2.ensures.1 s

pub loop-a-preserved : goal.loop-a-preserved
loop-a-preserved c =
    let l = c.loop-a in
    (rw (l.invariant.0, c.size.ensures.0, c.sum_sizes.ensures.0, add-one), omega (arith, few (goal.at.loop-a-preserved c).After-sum_sizes, l.invariant.1))

pub returns : goal.returns
returns c =
    let l = c.loop-a in
    let a = c.args in
    let e : l.a ≡ a.i = omega arith in
    let few : l.a ≤ 16 = omega arith in
    (rw (l.invariant.0, e, c.size-2.ensures.0, c.sum_sizes-2.ensures.0, add-one), omega (arith, few-between (goal.at.returns c).After-sum_sizes-2, l.invariant.1))

pub overflow_mul-rows : goal.overflow_mul-rows
overflow_mul-rows c = omega (arith, few (goal.at.overflow_mul-rows c).After-sum_sizes)

pub overflow_add-rows : goal.overflow_add-rows
overflow_add-rows c = omega (arith, few (goal.at.overflow_add-rows c).After-sum_sizes)

pub overflow_mul-result : goal.overflow_mul-result
overflow_mul-result c = omega (arith, few-between (goal.at.overflow_mul-result c).After-sum_sizes-2)

pub overflow_add-result : goal.overflow_add-result
overflow_add-result c = omega (arith, few-between (goal.at.overflow_add-result c).After-sum_sizes-2)
