-- `least_cost` meets its contract. The loop's invariant: `best` is the least of the first k, as a number.
-- Assumes nothing.
use Prim.Native.Nat.{ℕ, ◌≤◌, ◌+◌, ◌*◌}
use mathlib.Core.Path.{◌≡◌, refl, ap, ◌∙◌}
use lib.ListN.{get_or}
use native.Mathlib.Omega.{arith}
use native.Mathlib.Nat.{mul-le-mul}
use Rattle.costs.specs.Cost.{Cost, lesser}
use Rattle.projections.specs.Held.{held_cost}
use Rattle.projections.specs.Steps.{held_min, least-next}
use Rattle.projections.proofs.runs.least_cost.Goals as goal

pub loop-k-init : goal.loop-k-init
loop-k-init c = refl

pub overflow_mul-run : goal.overflow_mul-run
overflow_mul-run c =
    let k : c.loop-k.k ≤ 255 = omega (arith, c.requires.few) in
    omega (arith, c.requires.low, mul-le-mul c.requires.near k)

pub overflow_add-run : goal.overflow_add-run
overflow_add-run c =
    let k : c.loop-k.k ≤ 255 = omega (arith, c.requires.few) in
    omega (arith, c.requires.low, mul-le-mul c.requires.near k)

pub offset_bounds-costs-run : goal.offset_bounds-costs-run
offset_bounds-costs-run c =
    let k : c.loop-k.k ≤ 255 = omega (arith, c.requires.few) in
    omega (arith, c.requires.low, mul-le-mul c.requires.near k)

pub bounds-costs-run : goal.bounds-costs-run
bounds-costs-run c =
    omega (arith, c.requires.there c.loop-k.k (omega arith))

pub loop-k-preserved : goal.loop-k-preserved
loop-k-preserved c =
    let a = c.args in
    let l = c.loop-k in
    let x : ℕ = get_or a.costs.now (a.run.start + a.run.step * l.k) 0 in
    ap held_cost c.min-best.ensures ∙ held_min l.best x ∙ ap (λ (b : Cost). lesser b (held_cost x)) l.invariant ∙ least-next a.run l.k a.costs.now

pub returns : goal.returns
returns c =
    let a = c.args in
    let l = c.loop-k in
    let e : l.k ≡ a.run.count = omega arith in
    c.held_cost.ensures ∙ rw (← e) l.invariant
