-- `shift` meets its contract. The loop's invariant: the first k costs of the run are raised or lowered.
-- Assumes nothing.
use Prim.Native.Nat.{◌≤◌}
use mathlib.Core.Path.{◌≡◌, refl}
use native.Mathlib.Omega.{arith}
use native.Mathlib.Nat.{mul-le-mul}
use Rattle.projections.specs.Steps.{shifted, each_turn, shift_turn}
use Rattle.projections.proofs.runs.shift.Goals as goal

pub loop-k-init : goal.loop-k-init
loop-k-init c = refl

pub overflow_mul-at : goal.overflow_mul-at
overflow_mul-at c =
    let k : c.loop-k.k ≤ 255 = omega (arith, c.requires.0.few) in
    omega (arith, c.requires.0.low, mul-le-mul c.requires.0.near k)

pub overflow_add-at : goal.overflow_add-at
overflow_add-at c =
    let k : c.loop-k.k ≤ 255 = omega (arith, c.requires.0.few) in
    omega (arith, c.requires.0.low, mul-le-mul c.requires.0.near k)

pub offset_bounds-costs-at : goal.offset_bounds-costs-at
offset_bounds-costs-at c =
    let k : c.loop-k.k ≤ 255 = omega (arith, c.requires.0.few) in
    omega (arith, c.requires.0.low, mul-le-mul c.requires.0.near k)

pub bounds-costs-at : goal.bounds-costs-at
bounds-costs-at c =
    omega (arith, c.requires.0.there c.loop-k.k (omega arith))

pub shifted-requires : goal.shifted-requires
shifted-requires c =
    shift_turn c.args.run c.args.by c.args.up c.loop-k.k c.args.costs.now c.loop-k.costs c.requires.1 (omega arith) c.loop-k.invariant

pub offset_bounds-costs-at-in-loop-k : goal.offset_bounds-costs-at-in-loop-k
offset_bounds-costs-at-in-loop-k c =
    let k : c.loop-k.k ≤ 255 = omega (arith, c.requires.0.few) in
    omega (arith, c.requires.0.low, mul-le-mul c.requires.0.near k)

pub bounds-costs-at-in-loop-k : goal.bounds-costs-at-in-loop-k
bounds-costs-at-in-loop-k c =
    omega (arith, c.requires.0.there c.loop-k.k (omega arith))

pub loop-k-preserved : goal.loop-k-preserved
loop-k-preserved c =
    let a = c.args in
    let l = c.loop-k in
    each_turn (shifted a.up a.by) a.run l.k a.costs.now l.costs c.shifted.result l.invariant c.shifted.ensures

pub returns : goal.returns
returns c =
    let l = c.loop-k in
    let e : l.k ≡ c.args.run.count = omega arith in
    rw (← e) l.invariant
