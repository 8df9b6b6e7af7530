-- `make_by` meets its contract: the first refusal that applies with a unit all zero, or what a new unit decides.
-- Assumes nothing.
use Prim.Native.Nat.{pred, ◌≤◌}
use mathlib.Core.Path.{◌≡◌, refl, sym, ◌∙◌}
use native.Mathlib.Omega.{arith}
use lib.ListN.{length}
use Rattle.base.specs.Refusal.Laws.{number_some}
use Rattle.base.specs.Shape.Laws.{shape_n}
use Rattle.costs.specs.Instance.{lent_view}
use Rattle.rules.specs.State.{no_unit}
use Rattle.rules.specs.Calls.{start}
use Rattle.rules.specs.Laws.Calls.{Makes, makes}
use Rattle.unit.proofs.Calls.{told_by, told-refused, make_stops, make_starts, make_room, make_few, start_decides}
use borrow.Author.Rules.{rules}
use Rattle.unit.proofs.make_by.Goals as goal
use Rattle.unit.proofs.make_by.Goals.{Start}

pub returns-in-Err : goal.returns-in-Err
returns-in-Err c =
    let a = c.args in
    told-refused a.n (pred a.own) no_unit a.out.now _ _ _
    (make_stops a.order a.own a.n a.sizes a.costs.now (length a.out.now) _ c.in-Err.ensures (λ z. number_some c.in-Err.refusal z))
    (rw (← c.number.ensures) (c.refused.ensures a.n (pred a.own) ∙ rw c.no_unit.ensures))

long : (c : Start) → let a = c.args in Makes a.own a.n a.sizes a.costs.now (length a.out.now) → a.n ≤ length a.sizes
long c m =
    let a = c.args in
    let sixteen : length a.sizes ≡ 16 = search rules in
    omega (arith, sixteen, (shape_n a.n a.sizes m.shape).1)

pub carry_out-requires : goal.carry_out-requires
carry_out-requires c =
    let a = c.args in
    let m = makes a.own a.n a.sizes a.costs.now (length a.out.now) (sym c.in_default.ensures) in
    let l = long (goal.at.carry_out-requires c).Start m in
    λ z. (
      make_room a.order a.own a.n a.sizes a.costs.now a.out.now m,
      make_few a.order a.own a.n a.sizes a.costs.now a.out.now m l no_unit _ (start_decides a.order a.own a.n a.sizes a.costs.now (length a.out.now) m l no_unit _ c.start.ensures),
    )

pub returns : goal.returns
returns c =
    let a = c.args in
    let m = makes a.own a.n a.sizes a.costs.now (length a.out.now) (sym c.in_default.ensures) in
    let l = long (goal.at.returns c).Start m in
    told_by a.n (pred a.own) no_unit a.out.now _ _ _ _ (make_starts a.order a.own a.n a.sizes a.costs.now (length a.out.now) _ c.in_default.ensures refl)
    (c.carry_out.ensures no_unit (start (lent_view a.order a.own a.n a.sizes a.costs.now) (pred a.own)) (start_decides a.order a.own a.n a.sizes a.costs.now (length a.out.now) m l no_unit _ c.start.ensures))
