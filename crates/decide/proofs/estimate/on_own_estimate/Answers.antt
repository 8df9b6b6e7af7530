-- `on_own_estimate` meets its contract: each way out decides the tests of `on_timely`.
-- Assumes nothing.
use Prim.Native.Nat.{suc, ◌+◌, ◌≤◌, ◌<◌}
use native.Mathlib.Omega.{arith}
use mathlib.Core.Path.{◌≡◌, refl, sym, ap, ◌∙◌}
use mathlib.Core.Bool.{◌&&◌}
use Rattle.costs.specs.Instance.{view_knowing}
use Rattle.rules.specs.declared.Unit.{Unit}
use Rattle.rules.specs.State.{same_on}
use Rattle.rules.specs.Step.{Decision, quiet, is_out, assign}
use Rattle.rules.specs.Tests.{sum_later, stored}
use Rattle.rules.specs.Ready.{decided_of}
use Rattle.decide.proofs.Lent.{own-lent, n-lent}
use Rattle.decide.proofs.Rules.{ready_held, estimate_foreign, estimate_reached, estimate_short}
use Rattle.decide.proofs.estimate.on_own_estimate.Goals as goal
use Rattle.decide.proofs.estimate.on_own_estimate.Goals.{After-is_stamp_out, After-sum_later}

-- whether the stamp is that of the cpa out
out : (c : After-is_stamp_out)
    → let a = c.args in
    let w = view_knowing a.seat a.costs.now a.ahead.now in
    c.is_stamp_out.result ≡ (is_out w a.u && same_on (suc w.place) a.m.stamp a.u.stamp)
out c =
    let a = c.args in
    c.is_stamp_out.ensures (view_knowing a.seat a.costs.now a.ahead.now) (own-lent a.seat a.costs.now a.ahead.now c.requires.0.number.first)

pub returns-then-not-is_stamp_out : goal.returns-then-not-is_stamp_out
returns-then-not-is_stamp_out c =
    let a = c.args in
    let w = view_knowing a.seat a.costs.now a.ahead.now in
    c.refused.ensures ∙ ap (λ (x : Decision). decided_of a.u x) (estimate_foreign w a.u a.m (sym (out (goal.at.returns-then-not-is_stamp_out c).After-is_stamp_out) ∙ c.if-not-is_stamp_out.true))

pub assign-requires : goal.assign-requires
assign-requires c =
    let a = c.args in
    (c.requires.0, ready_held a.seat c.hold.result a.u.estimates a.u (c.hold.ensures a.u.estimates) c.requires.1)

-- the estimates added up
sum_is : (c : After-sum_later)
    → let a = c.args in
    c.from.result + c.sum_later.result ≡ a.u.cost + sum_later (view_knowing a.seat a.costs.now a.ahead.now) (stored a.m a.u).estimates
sum_is c =
    let a = c.args in
    let sum = rw c.with_estimate.ensures at (c.sum_later.ensures.1 (view_knowing a.seat a.costs.now a.ahead.now) (own-lent a.seat a.costs.now a.ahead.now c.requires.0.number.first) (n-lent a.seat a.costs.now a.ahead.now)) in
    omega (arith, sum, c.from.ensures)

pub returns-then-from-reached : goal.returns-then-from-reached
returns-then-from-reached c =
    let past = goal.at.returns-then-from-reached c in
    let a = c.args in
    let w = view_knowing a.seat a.costs.now a.ahead.now in
    let t = stored a.m a.u in
    let l : t.bound ≤ t.cost + sum_later w t.estimates = omega (arith, sum_is past.After-sum_later, c.from-2.ensures, c.if-from-reached.true) in
    c.assign.ensures a.u t.estimates ∙ ap (λ (u : Unit). decided_of a.u (assign w u)) (c.hold.ensures t.estimates)
    ∙ ap (λ (o : Decision). decided_of a.u o) (estimate_reached w a.u t a.m (sym (out past.After-is_stamp_out) ∙ c.if-not-is_stamp_out.false) refl l)

pub returns : goal.returns
returns c =
    let past = goal.at.returns c in
    let a = c.args in
    let w = view_knowing a.seat a.costs.now a.ahead.now in
    let t = stored a.m a.u in
    let l : t.cost + sum_later w t.estimates < t.bound = omega (arith, sum_is past.After-sum_later, c.from-2.ensures, c.if-from-reached.false) in
    c.quiet.ensures a.u ∙ ap (λ (u : Unit). decided_of a.u (quiet u)) c.store.ensures
    ∙ ap (λ (o : Decision). decided_of a.u o) (estimate_short w a.u t a.m (sym (out past.After-is_stamp_out) ∙ c.if-not-is_stamp_out.false) refl l)
