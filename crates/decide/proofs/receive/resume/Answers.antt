-- `resume` meets its contract: the test is that of `resume`, the own value's costs being among those of all values.
-- Assumes nothing.
use Prim.Native.Nat.{suc, ◌≤◌, ◌<◌}
use native.Mathlib.Omega.{arith}
use mathlib.Core.Path.{◌≡◌, ap, sym, ◌∙◌}
use mathlib.Core.Bool.{false}
use Rattle.costs.specs.Instance.{view_knowing}
use Rattle.rules.specs.declared.Unit.{Unit}
use Rattle.rules.specs.State.{zeros, own_cost}
use Rattle.rules.specs.Step.{Decision, bare_cost, backtrack}
use Rattle.rules.specs.Tests.{holding}
use Rattle.rules.specs.Ready.{Paid, decided_of}
use Rattle.decide.proofs.Lent.{own-lent, all_paid}
use Rattle.decide.proofs.Rules.{own_paid_lent, resume_back, resume_on}
use Rattle.decide.proofs.Trying.{counted_none}
use Rattle.decide.proofs.receive.resume.Goals as goal
use Rattle.decide.proofs.receive.resume.Goals.{After-of_value-own}

-- what each value costs, and the own one
module _ (c : After-of_value-own) where
  all : let a = c.args in Paid (view_knowing a.seat a.costs.now a.ahead.now) a.t.values c.paid-paid.result
  all = all_paid c.args.seat c.args.costs.now c.args.ahead.now c.args.t.values c.paid-paid.result c.requires.0 c.paid-paid.ensures

  own : let a = c.args in c.of_value-own.result ≡ own_cost (view_knowing a.seat a.costs.now a.ahead.now) (holding a.t zeros)
  own = own_paid_lent c.args.seat c.args.costs.now c.args.ahead.now (holding c.args.t zeros) c.paid-paid.result c.of_value-own.result c.requires.0 c.requires.1 all (rw c.from.ensures at c.of_value-own.ensures)

pub backtrack-requires : goal.backtrack-requires
backtrack-requires c =
    let a = c.args in
    let off = c.take_off.ensures (view_knowing a.seat a.costs.now a.ahead.now) zeros (own-lent a.seat a.costs.now a.ahead.now c.requires.0.number.first) (own (goal.at.backtrack-requires c).After-of_value-own) in
    (c.requires.0.number, rw (ap (λ (u : Unit). u.threshold) off) (omega (arith, c.requires.1.threshold)))

pub returns-then-t-saturating_sub : goal.returns-then-t-saturating_sub
returns-then-t-saturating_sub c =
    λ was e. let a = c.args in
    let w = view_knowing a.seat a.costs.now a.ahead.now in
    let u = holding a.t e in
    let o : suc w.place ≡ a.seat.own = own-lent a.seat a.costs.now a.ahead.now c.requires.0.number.first in
    let paid = own (goal.at.returns-then-t-saturating_sub c).After-of_value-own in
    let l : u.bound ≤ bare_cost w u = rw (c.saturating_sub.ensures, paid) at c.if-t-saturating_sub.true in
    c.backtrack.ensures w was e o ∙ sym (counted_none was (backtrack w false (holding c.take_off.result e)))
    ∙ ap (λ (t : Unit). decided_of was (backtrack w false t)) (c.take_off.ensures w e o paid) ∙ ap (λ (x : Decision). decided_of was x) (sym (resume_back w u l))

pub assign_paid-requires : goal.assign_paid-requires
assign_paid-requires c = (c.requires.0, c.requires.1, all (goal.at.assign_paid-requires c).After-of_value-own)

pub returns : goal.returns
returns c =
    λ was e. let a = c.args in
    let w = view_knowing a.seat a.costs.now a.ahead.now in
    let u = holding a.t e in
    let l : bare_cost w u < u.bound = rw (c.saturating_sub.ensures, own (goal.at.returns c).After-of_value-own) at c.if-t-saturating_sub.false in
    c.assign_paid.ensures was e ∙ ap (λ (x : Decision). decided_of was x) (sym (resume_on w u l))
