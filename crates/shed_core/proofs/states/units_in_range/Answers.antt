-- `shed_core::states::units_in_range` meets its contract. Invariant: the first k units are in range. Assumes nothing.
use Rattle.std.proofs.Common.{◌≡◌, ℕ, sym, refl, ap, ◌∙◌, arith}
use Rattle.table.specs.Stream.{units_of}
use Rattle.table.specs.StreamLaws.{accepted_units}
use Rattle.base.specs.Every.{every}
use Rattle.base.specs.Every.Laws.{every_more, every_not}
use Rattle.rules.specs.Units.{unit_at}
use Rattle.runs.specs.Code.{unit_in_range}
use Rattle.runs.proofs.CodeLaws.{range_of_paid}
use Rattle.shed_core.proofs.states.units_in_range.Goals as goal
use Rattle.shed_core.proofs.states.units_in_range.Goals.{After-unit_in_range}

pub bounds-units-from : goal.bounds-units-from
bounds-units-from c = omega (arith, c.units_of-n.ensures, (accepted_units c.args.stream.now c.requires).1, c.from.ensures)

-- what the unit's own function said
found : (c : After-unit_in_range) → let a = c.args in c.unit_in_range.result ≡ unit_in_range a.order a.stream.now a.units c.loop-k.k
found c =
    let a = c.args in
    let l = c.loop-k in
    c.unit_in_range.ensures
    ∙ rw (c.units_of-n.ensures, c.sizes_of-sizes.ensures, c.from.ensures) (range_of_paid a.order a.stream.now a.units l.k (unit_at a.units l.k) _ _ _ refl refl refl refl)

pub returns-then-not-unit_in_range : goal.returns-then-not-unit_in_range
returns-then-not-unit_in_range c =
    let a = c.args in
    let l = c.loop-k in
    sym (every_not (unit_in_range a.order a.stream.now a.units) (units_of a.stream.now) l.k (omega (arith, c.units_of-n.ensures)) (sym (found (goal.at.returns-then-not-unit_in_range c).After-unit_in_range) ∙ c.if-not-unit_in_range.true))

pub loop-k-preserved : goal.loop-k-preserved
loop-k-preserved c =
    let a = c.args in
    let l = c.loop-k in
    every_more (unit_in_range a.order a.stream.now a.units) l.k l.invariant (sym (found (goal.at.loop-k-preserved c).After-unit_in_range) ∙ c.if-not-unit_in_range.false)

pub returns : goal.returns
returns c =
    let a = c.args in
    let l = c.loop-k in
    let e : l.k ≡ units_of a.stream.now = omega (arith, c.units_of-n.ensures) in
    sym (ap (λ (m : ℕ). every (unit_in_range a.order a.stream.now a.units) m) (sym e) ∙ l.invariant)
