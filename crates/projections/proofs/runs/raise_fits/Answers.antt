-- `raise_fits` meets its contract. The loop's invariant: the first k can be raised.
-- Assumes nothing.
use Prim.Native.Nat.{◌-◌, ◌≤◌}
use mathlib.Core.Path.{◌≡◌, refl, sym, ap, ◌∙◌}
use mathlib.Core.Bool.{true, false}
use native.Mathlib.Omega.{arith}
use Prim.Native.Nat.{suc}
use native.Mathlib.Nat.{mul-le-mul}
use lib.ListN.{get_or}
use Rattle.base.specs.Every.{every}
use Rattle.base.specs.Every.Laws.{every_more, every_not}
use Rattle.projections.specs.Moves.{raise_fits}
use Rattle.projections.specs.Steps.{run_place}
use Rattle.projections.proofs.runs.raise_fits.Goals as goal

pub loop-k-init : goal.loop-k-init
loop-k-init c = refl

pub overflow_mul-run : goal.overflow_mul-run
overflow_mul-run c =
    let k : c.loop-k.k ≤ 255 = omega (arith, c.requires.few) in
    omega (arith, c.requires.low, mul-le-mul c.requires.near k)

pub overflow_add-run : goal.overflow_add-run
overflow_add-run c =
    let k : c.loop-k.k ≤ 255 = omega (arith, c.requires.few) in
    omega (arith, c.requires.low, mul-le-mul c.requires.near k)

pub offset_bounds-costs-run : goal.offset_bounds-costs-run
offset_bounds-costs-run c =
    let k : c.loop-k.k ≤ 255 = omega (arith, c.requires.few) in
    omega (arith, c.requires.low, mul-le-mul c.requires.near k)

pub bounds-costs-run : goal.bounds-costs-run
bounds-costs-run c =
    omega (arith, c.requires.there c.loop-k.k (omega arith))

pub returns-then-not-cost_fits : goal.returns-then-not-cost_fits
returns-then-not-cost_fits c =
    let a = c.args in
    let l = c.loop-k in
    let z : suc l.k - 1 ≡ l.k = omega arith in
    let e : raise_fits a.by (get_or a.costs.now (run_place a.run (suc l.k)) 0) ≡ false = rw z (sym c.cost_fits.ensures ∙ c.if-not-cost_fits.true) in
    sym (every_not (λ i. raise_fits a.by (get_or a.costs.now (run_place a.run (suc i)) 0)) a.run.count l.k (omega arith) e)

pub loop-k-preserved : goal.loop-k-preserved
loop-k-preserved c =
    let a = c.args in
    let l = c.loop-k in
    let z : suc l.k - 1 ≡ l.k = omega arith in
    let e : raise_fits a.by (get_or a.costs.now (run_place a.run (suc l.k)) 0) ≡ true = rw z (sym c.cost_fits.ensures ∙ c.if-not-cost_fits.false) in
    every_more (λ i. raise_fits a.by (get_or a.costs.now (run_place a.run (suc i)) 0)) l.k l.invariant e

pub returns : goal.returns
returns c =
    let a = c.args in
    let l = c.loop-k in
    let e : l.k ≡ a.run.count = omega arith in
    sym (ap (λ m. every (λ i. raise_fits a.by (get_or a.costs.now (run_place a.run (suc i)) 0)) m) (sym e) ∙ l.invariant)
