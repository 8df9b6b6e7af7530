-- `too_many` meets its contract. The loop's invariant: the count is the product of the sizes passed, at most 1,048,576; sizes of 1 or more never lower it.
-- Assumes nothing.
use Prim.Native.Nat.{◌≤◌}
use mathlib.Core.Path.{◌≡◌, refl}
use native.Mathlib.Omega.{arith}
use native.Mathlib.Nat.{mul-le-mul}
use Rattle.costs.specs.Instance.{dom_of}
use Rattle.search.specs.Steps.{size_at, count_turn, count_above, count-within}
use Rattle.search.proofs.too_many.Goals as goal
use Rattle.search.proofs.too_many.Goals.{After-byte-count}

-- the size of the unit passed
size : (c : After-byte-count) → c.byte-count.result ≡ dom_of c.args.stream.now c.loop-i.i
size c =
    size_at c.args.stream.now c.args.first c.loop-i.i c.byte-count.result c.requires.sizes (omega (arith, c.requires.units)) c.byte-count.ensures.0

pub loop-i-init : goal.loop-i-init
loop-i-init c = (refl, omega arith)

pub overflow_mul-count : goal.overflow_mul-count
overflow_mul-count c =
    let l = c.loop-i in
    let b : c.byte-count.result ≤ 255 = omega arith in
    omega (arith, mul-le-mul l.invariant.1 b)

pub returns-then-count-gt-SEARCH_LIMIT : goal.returns-then-count-gt-SEARCH_LIMIT
returns-then-count-gt-SEARCH_LIMIT c =
    let l = c.loop-i in
    count_above c.args.stream.now c.requires.accepted l.i l.count c.byte-count.result l.invariant.0 (omega (arith, c.requires.units)) (size (goal.at.returns-then-count-gt-SEARCH_LIMIT c).After-byte-count) c.if-count-gt-SEARCH_LIMIT.true

pub loop-i-preserved : goal.loop-i-preserved
loop-i-preserved c =
    let l = c.loop-i in
    (count_turn c.args.stream.now c.requires.accepted l.i l.count c.byte-count.result l.invariant.0 (size (goal.at.loop-i-preserved c).After-byte-count), omega arith)

pub returns : goal.returns
returns c =
    let l = c.loop-i in
    count-within c.args.stream.now c.requires.accepted l.i l.count 0 l.invariant.0 (omega (arith, c.requires.units)) l.invariant.1
