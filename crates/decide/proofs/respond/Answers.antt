-- `respond` meets its contract: 5 or 9 by the first test that fails, or what the message's kind does.
-- Assumes nothing.
use mathlib.Core.Path.{◌≡◌, sym, ap, ◌∙◌}
use mathlib.Core.Bool.{true}
use Rattle.rules.specs.Step.{Decision}
use Rattle.rules.specs.Trusted.{can_step, can_hear}
use Rattle.rules.specs.Ready.{decided_of}
use Rattle.rules.specs.Laws.Trusted.{known_shaped, known_ready, known_heard, respond_5, respond_9, respond_on}
use Rattle.decide.proofs.respond.Goals as goal
use Rattle.decide.proofs.respond.Goals.{Else-not-can_step, Else-not-can_hear}

-- the unit can step, and hear the message
steps : (c : Else-not-can_step) → let a = c.args in can_step a.seat.own a.seat.n a.seat.sizes a.u ≡ true
steps c = sym c.can_step.ensures ∙ c.if-not-can_step.false

hears : (c : Else-not-can_hear) → let a = c.args in can_hear a.seat.own a.m ≡ true
hears c = sym c.can_hear.ensures ∙ c.if-not-can_hear.false

pub returns-then-not-can_step : goal.returns-then-not-can_step
returns-then-not-can_step c =
    let a = c.args in
    c.refused.ensures ∙ ap (λ (o : Decision). decided_of a.u o) (sym (respond_5 a.seat a.costs.now a.ahead.now a.kind a.u a.m (sym c.can_step.ensures ∙ c.if-not-can_step.true)))

pub can_hear-requires : goal.can_hear-requires
can_hear-requires c = let a = c.args in (known_shaped a.seat a.u (steps (goal.at.can_hear-requires c).Else-not-can_step)).number

pub returns-then-not-can_hear : goal.returns-then-not-can_hear
returns-then-not-can_hear c =
    let a = c.args in
    c.refused-then-not-can_hear.ensures ∙ ap (λ (o : Decision). decided_of a.u o) (sym (respond_9 a.seat a.costs.now a.ahead.now a.kind a.u a.m (steps (goal.at.returns-then-not-can_hear c).Else-not-can_step) (sym c.can_hear.ensures ∙ c.if-not-can_hear.true)))

pub by_kind-requires : goal.by_kind-requires
by_kind-requires c =
    let past = goal.at.by_kind-requires c in
    let a = c.args in
    (known_shaped a.seat a.u (steps past.Else-not-can_step), known_ready a.seat a.u (steps past.Else-not-can_step), known_heard a.seat.own a.m (hears past.Else-not-can_hear))

pub returns : goal.returns
returns c =
    let past = goal.at.returns c in
    let a = c.args in
    c.by_kind.ensures ∙ ap (λ (o : Decision). decided_of a.u o) (sym (respond_on a.seat a.costs.now a.ahead.now a.kind a.u a.m (steps past.Else-not-can_step) (hears past.Else-not-can_hear)))
