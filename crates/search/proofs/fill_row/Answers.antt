-- `fill_row` meets its contract. The loop's invariant: `from` is where the costs of the pair (i, j) begin, and the starts of all pairs before it are put.
-- Assumes nothing.
use Prim.Native.Nat.{◌≤◌}
use mathlib.Core.Path.{◌≡◌}
use native.Mathlib.Omega.{arith}
use native.Mathlib.Nat.{mul-le-mul}
use Rattle.search.specs.Steps.{size_at, start_fits, filled_next, filling_next}
use Rattle.search.proofs.fill_row.Goals as goal

pub loop-j-init : goal.loop-j-init
loop-j-init c = (c.requires.0.start, c.requires.0.filled)

pub overflow_cast-starts : goal.overflow_cast-starts
overflow_cast-starts c =
    let l = c.loop-j in
    omega (arith, start_fits c.args.stream.now c.args.i l.j c.requires.0.sized.accepted (omega arith) (omega (arith, c.requires.0.sized.units)))

pub overflow_mul-from : goal.overflow_mul-from
overflow_mul-from c =
    let b : c.byte.result ≤ 255 = omega arith in
    let d : c.byte-d.result ≤ 255 = omega arith in
    omega (arith, mul-le-mul d b)

pub overflow_mul-from-in-loop-j : goal.overflow_mul-from-in-loop-j
overflow_mul-from-in-loop-j c =
    let b : c.byte.result ≤ 255 = omega arith in
    let d : c.byte-d.result ≤ 255 = omega arith in
    omega (arith, mul-le-mul d b)

pub overflow_add-from : goal.overflow_add-from
overflow_add-from c =
    let l = c.loop-j in
    let b : c.byte.result ≤ 255 = omega arith in
    let d : c.byte-d.result ≤ 255 = omega arith in
    omega (arith, mul-le-mul d b, start_fits c.args.stream.now c.args.i l.j c.requires.0.sized.accepted (omega arith) (omega (arith, c.requires.0.sized.units)))

pub loop-j-preserved : goal.loop-j-preserved
loop-j-preserved c =
    let l = c.loop-j in
    let b = c.byte-d in
    let size = size_at c.args.stream.now c.args.first c.args.i c.byte-d.result c.requires.0.sized.sizes (omega (arith, c.requires.0.sized.units)) c.byte-d.ensures.0 in
    filled_next c.args.stream.now l.starts c.args.first c.args.n c.args.i l.j l.from b.result c.byte.result c.requires.0.sized (omega arith) (omega arith) l.invariant.0 size c.byte.ensures.0 l.invariant.1

pub returns : goal.returns
returns c =
    let l = c.loop-j in
    let e : l.j ≡ c.args.n = omega arith in
    filling_next c.args.stream.now l.starts c.args.first c.args.n c.args.i l.from c.requires.0.sized c.requires.1 (rw (← e) l.invariant.0) (rw (← e) l.invariant.1)
