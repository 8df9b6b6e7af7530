-- `project_value` meets its contract. The loop's invariant: the first k units are projected with.
-- Assumes nothing.
use Prim.Native.Nat.{◌+◌}
use mathlib.Core.Path.{◌≡◌, refl, ap, ◌∙◌}
use native.Mathlib.Omega.{arith}
use native.Mathlib.Numerals.{add-one}
use Prim.Native.Nat.{suc}
use Rattle.projections.specs.Moves.{answer_of}
use Rattle.projections.specs.Steps.{outcome_in}
use Rattle.projections.specs.All.{project_with}
use Rattle.projections.specs.All.Steps.{with_each, value_is, fold_turn, fold_end}
use Rattle.projections.proofs.all.project_value.Goals as goal

pub loop-k-init : goal.loop-k-init
loop-k-init c = refl

pub loop-k-preserved : goal.loop-k-preserved
loop-k-preserved c =
    let a = c.args in
    let l = c.loop-k in
    let w = c.project_with-moved.ensures in
    let e : l.k + 1 ≡ suc l.k = add-one l.k in
    fold_turn (with_each a.n a.sizes a.unit a.value) l.k (outcome_in a.start a.costs.now) (outcome_in l.moved l.costs) c.project_with-moved.result c.project_with-moved.new.costs l.invariant (w.0 ∙ ap (λ z. answer_of (project_with a.n a.sizes a.unit a.value z (outcome_in l.moved l.costs))) e) (w.1 ∙ ap (λ z. (project_with a.n a.sizes a.unit a.value z (outcome_in l.moved l.costs)).held.costs) e)

pub returns : goal.returns
returns c =
    let a = c.args in
    let l = c.loop-k in
    fold_end (with_each a.n a.sizes a.unit a.value) l.k a.n (outcome_in a.start a.costs.now) _ l.moved l.costs l.invariant (omega (arith, c.from-count.ensures)) (value_is a.n a.sizes a.unit a.value (outcome_in a.start a.costs.now))
