-- `on_back` meets its contract: each way out decides the tests of `on_back`.
-- Assumes nothing.
use Rattle.std.specs.Ordering.{is_lt}
use mathlib.Core.Path.{◌≡◌, sym, ap, ◌∙◌}
use mathlib.Core.Bool.{Bool, true, false}
use Rattle.costs.specs.Instance.{view_knowing}
use Rattle.rules.specs.declared.Unit.{Unit}
use Rattle.rules.specs.State.{zeros}
use Rattle.rules.specs.Step.{Decision, take_bound, resume, is_cpa_out}
use Rattle.rules.specs.Tests.{holding, on_own}
use Rattle.rules.specs.Ready.{decided_of}
use Rattle.decide.proofs.Lent.{own-lent}
use Rattle.decide.proofs.Rules.{ready_bound, ready_held, back_stale, back_own}
use Rattle.decide.proofs.receive.on_back.Goals as goal
use Rattle.decide.proofs.receive.on_back.Goals.{Else-is_lt, After-is_cpa_out}

pub returns-then-is_lt : goal.returns-then-is_lt
returns-then-is_lt c =
    let a = c.args in
    let w = view_knowing a.seat a.costs.now a.ahead.now in
    let x : is_lt a.order ≡ true = sym c.is_lt.ensures ∙ c.if-is_lt.true in
    c.quiet.ensures a.u ∙ ap (λ (o : Decision). decided_of a.u o) (back_stale w a.order a.u a.m x)

-- not stale
fresh : (c : Else-is_lt) → is_lt c.args.order ≡ false
fresh c = sym c.is_lt.ensures ∙ c.if-is_lt.false

-- whether the cpa is the one out
out : (c : After-is_cpa_out)
    → let a = c.args in
    c.is_cpa_out.result ≡ is_cpa_out (view_knowing a.seat a.costs.now a.ahead.now) a.u a.m
out c =
    let a = c.args in
    let w = view_knowing a.seat a.costs.now a.ahead.now in
    c.is_cpa_out.ensures w a.u.estimates (own-lent a.seat a.costs.now a.ahead.now c.requires.0.number.first) ∙ ap (λ (u : Unit). is_cpa_out w u a.m) (c.hold-t.ensures a.u.estimates)

pub returns-then-not-is_cpa_out : goal.returns-then-not-is_cpa_out
returns-then-not-is_cpa_out c =
    let past = goal.at.returns-then-not-is_cpa_out c in
    let a = c.args in
    let w = view_knowing a.seat a.costs.now a.ahead.now in
    let y : is_cpa_out w a.u a.m ≡ false = sym (out past.After-is_cpa_out) ∙ c.if-not-is_cpa_out.true in
    c.refused.ensures ∙ ap (λ (b : Bool). decided_of a.u (on_own w b a.u a.m)) (sym y) ∙ ap (λ (o : Decision). decided_of a.u o) (back_own w a.order a.u a.m (fresh past.Else-is_lt))

pub resume-requires : goal.resume-requires
resume-requires c =
    let a = c.args in
    let t = c.hold-t in (
      c.requires.0,
      ready_bound a.seat a.m (holding t.result zeros) (holding c.take_bound.result zeros) (c.take_bound.ensures zeros)
          (ready_held a.seat t.result a.u.estimates a.u (t.ensures a.u.estimates) c.requires.1),
    )

pub returns : goal.returns
returns c =
    let past = goal.at.returns c in
    let a = c.args in
    let w = view_knowing a.seat a.costs.now a.ahead.now in
    let e = a.u.estimates in
    let y : is_cpa_out w a.u a.m ≡ true = sym (out past.After-is_cpa_out) ∙ c.if-not-is_cpa_out.false in
    c.resume.ensures a.u e
    ∙ ap (λ (t : Unit). decided_of a.u (resume w t)) (c.take_bound.ensures e ∙ ap (λ (t : Unit). take_bound a.m t) (c.hold-t.ensures e))
    ∙ ap (λ (b : Bool). decided_of a.u (on_own w b a.u a.m)) (sym y) ∙ ap (λ (o : Decision). decided_of a.u o) (back_own w a.order a.u a.m (fresh past.Else-is_lt))
