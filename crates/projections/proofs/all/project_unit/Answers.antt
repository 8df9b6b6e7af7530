-- `project_unit` meets its contract. The loop's invariant: the first k values are projected.
-- Assumes nothing.
use Prim.Native.Nat.{◌+◌}
use mathlib.Core.Path.{◌≡◌, refl, ap, ◌∙◌}
use native.Mathlib.Omega.{arith}
use native.Mathlib.Numerals.{add-one}
use Prim.Native.Nat.{suc}
use Rattle.costs.specs.Instance.{dom_in}
use Rattle.projections.specs.Moves.{answer_of}
use Rattle.projections.specs.Steps.{outcome_in}
use Rattle.projections.specs.All.{project_value}
use Rattle.projections.specs.All.Steps.{each_value, unit_is, fold_turn, fold_end}
use Rattle.projections.proofs.all.project_unit.Goals as goal

pub loop-k-init : goal.loop-k-init
loop-k-init c = refl

pub loop-k-preserved : goal.loop-k-preserved
loop-k-preserved c =
    let a = c.args in
    let l = c.loop-k in
    let w = c.project_value-moved.ensures in
    let e : l.k + 1 ≡ suc l.k = add-one l.k in
    fold_turn (each_value a.n a.sizes a.i) l.k (outcome_in a.start a.costs.now) (outcome_in l.moved l.costs) c.project_value-moved.result c.project_value-moved.new.costs l.invariant (w.0 ∙ ap (λ z. answer_of (project_value a.n a.sizes (a.i + 1) z (outcome_in l.moved l.costs))) e ∙ ap (λ z. answer_of (project_value a.n a.sizes z (suc l.k) (outcome_in l.moved l.costs))) (add-one a.i)) (w.1 ∙ ap (λ z. (project_value a.n a.sizes (a.i + 1) z (outcome_in l.moved l.costs)).held.costs) e ∙ ap (λ z. (project_value a.n a.sizes z (suc l.k) (outcome_in l.moved l.costs)).held.costs) (add-one a.i))

pub returns : goal.returns
returns c =
    let a = c.args in
    let l = c.loop-k in
    fold_end (each_value a.n a.sizes a.i) l.k (dom_in a.n a.sizes a.i) (outcome_in a.start a.costs.now) _ l.moved l.costs l.invariant (omega (arith, c.size_of-count.ensures.0)) (unit_is a.n a.sizes a.i (outcome_in a.start a.costs.now))
