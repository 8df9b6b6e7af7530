-- `start` meets its contract: 5 where the unit can't step; unit 1 assigns, another is quiet.
-- Assumes nothing.
use mathlib.Core.Path.{◌≡◌, sym, ap, ◌∙◌}
use mathlib.Core.Bool.{true, false}
use Rattle.costs.specs.Instance.{view_knowing}
use Rattle.rules.specs.declared.Unit.{Unit}
use Rattle.rules.specs.State.{zeros, fresh, with_estimates}
use Rattle.rules.specs.Step.{assign}
use Rattle.rules.specs.Tests.{holding}
use Rattle.rules.specs.Trusted.{can_step}
use Rattle.rules.specs.Ready.{decided_of}
use Rattle.rules.specs.Laws.Trusted.{known_shaped, known_ready, start_5, start_on}
use Rattle.decide.proofs.Rules.{ready_held, start_first, start_later}
use Rattle.decide.proofs.start.Goals as goal
use Rattle.decide.proofs.start.Goals.{Else-not-can_step, After-hold}

steps : (c : Else-not-can_step) → let a = c.args in can_step a.seat.own a.seat.n a.seat.sizes fresh ≡ true
steps c = rw c.fresh-u.ensures at (sym c.can_step.ensures ∙ c.if-not-can_step.false)

pub returns-then-not-can_step : goal.returns-then-not-can_step
returns-then-not-can_step c =
    let a = c.args in
    let e : can_step a.seat.own a.seat.n a.seat.sizes fresh ≡ false = rw c.fresh-u.ensures at (sym c.can_step.ensures ∙ c.if-not-can_step.true) in
    c.refused.ensures ∙ rw (c.fresh-u.ensures, start_5 a.seat a.costs.now a.ahead.now e)

-- what is held of a new unit
held : (c : After-hold) → holding c.hold.result zeros ≡ fresh
held c = c.hold.ensures zeros ∙ ap (λ (u : Unit). with_estimates zeros u) c.fresh-u.ensures

pub assign-requires : goal.assign-requires
assign-requires c =
    let past = goal.at.assign-requires c in
    let a = c.args in
    let e = steps past.Else-not-can_step in
    (known_shaped a.seat fresh e, ready_held a.seat c.hold.result zeros fresh (held past.After-hold) (known_ready a.seat fresh e))

pub returns-then-seat-eq1 : goal.returns-then-seat-eq1
returns-then-seat-eq1 c =
    let past = goal.at.returns-then-seat-eq1 c in
    let a = c.args in
    let w = view_knowing a.seat a.costs.now a.ahead.now in
    c.assign.ensures fresh zeros ∙ ap (λ (u : Unit). decided_of fresh (assign w u)) (held past.After-hold)
    ∙ rw (start_on a.seat a.costs.now a.ahead.now (steps past.Else-not-can_step)) (start_first a.seat.own fresh w c.if-seat-eq1.true)

pub returns-else-seat-eq1 : goal.returns-else-seat-eq1
returns-else-seat-eq1 c =
    let past = goal.at.returns-else-seat-eq1 c in
    let a = c.args in
    let s = known_shaped a.seat fresh (steps past.Else-not-can_step) in
    c.quiet.ensures fresh ∙ rw (c.fresh-u.ensures, start_on a.seat a.costs.now a.ahead.now (steps past.Else-not-can_step)) (start_later a.seat.own fresh (view_knowing a.seat a.costs.now a.ahead.now) s.number.first c.if-seat-eq1.false)
