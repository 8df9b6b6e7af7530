-- `project_floor` meets its contract. The loop's invariant: the own costs of the first i units are projected.
-- Assumes nothing.
use Prim.Native.Nat.{◌+◌}
use mathlib.Core.Path.{◌≡◌, refl, ap, ◌∙◌}
use native.Mathlib.Omega.{arith}
use native.Mathlib.Numerals.{add-one}
use Prim.Native.Nat.{suc}
use Rattle.projections.specs.Moves.{answer_of}
use Rattle.projections.specs.Steps.{outcome_in}
use Rattle.projections.specs.All.{project_own}
use Rattle.projections.specs.All.Steps.{each_own, floor_is, fold_turn, fold_end}
use Rattle.projections.proofs.all.project_floor.Goals as goal

pub loop-i-init : goal.loop-i-init
loop-i-init c = refl

pub loop-i-preserved : goal.loop-i-preserved
loop-i-preserved c =
    let a = c.args in
    let l = c.loop-i in
    let w = c.project_own-moved.ensures in
    let e : l.i + 1 ≡ suc l.i = add-one l.i in
    fold_turn (each_own a.n a.sizes) l.i (outcome_in a.start a.costs.now) (outcome_in l.moved l.costs) c.project_own-moved.result c.project_own-moved.new.costs l.invariant (w.0 ∙ ap (λ z. answer_of (project_own a.n a.sizes z (outcome_in l.moved l.costs))) e) (w.1 ∙ ap (λ z. (project_own a.n a.sizes z (outcome_in l.moved l.costs)).held.costs) e)

pub returns : goal.returns
returns c =
    let a = c.args in
    let l = c.loop-i in
    fold_end (each_own a.n a.sizes) l.i a.n (outcome_in a.start a.costs.now) _ l.moved l.costs l.invariant (omega (arith, c.from-count.ensures)) (floor_is a.n a.sizes (outcome_in a.start a.costs.now))
