-- `assign_paid` meets its contract: the values after the own one are tried, from where `begin` leaves the state.
-- Assumes nothing.
use Prim.Native.Nat.{ℕ}
use native.Mathlib.Omega.{arith}
use mathlib.Core.Path.{◌≡◌, ap, ◌∙◌}
use mathlib.Core.List.{List}
use lib.ListN.{length}
use borrow.Author.Rules.{rules}
use Rattle.costs.specs.Instance.{view_knowing}
use Rattle.rules.specs.State.{zeros, own_cost}
use Rattle.rules.specs.Step.{Decision, begun}
use Rattle.rules.specs.Tests.{holding}
use Rattle.rules.specs.Ready.{decided_of}
use Rattle.decide.proofs.Lent.{own-lent}
use Rattle.decide.proofs.Rules.{own_paid_lent, begun-low, begun_few, begun-stamp, begun_value, begun_paid, assign-lent}
use Rattle.decide.proofs.assign.assign_paid.Goals as goal
use Rattle.decide.proofs.assign.assign_paid.Goals.{After-begin-s, Start}

-- where `begin` leaves the state, whatever the estimates were
begun-is : (c : After-begin-s) (e : List ℕ) → let a = c.args in holding c.begin-s.result zeros ≡ begun (view_knowing a.seat a.costs.now a.ahead.now) (holding a.t e)
begun-is c e =
    let a = c.args in
    let w = view_knowing a.seat a.costs.now a.ahead.now in
    let paid : c.of_value.result ≡ own_cost w (holding a.t e) = own_paid_lent a.seat a.costs.now a.ahead.now (holding a.t zeros) a.paid c.of_value.result c.requires.0 c.requires.1 c.requires.2 (rw c.from.ensures at c.of_value.ensures) in
    c.begin-s.ensures w e (own-lent a.seat a.costs.now a.ahead.now c.requires.0.number.first) paid

sized : (c : Start) → (length c.args.t.stamp ≡ 16) × (length c.args.t.values ≡ 16)
sized c = (search rules, search rules)

pub try_after-requires : goal.try_after-requires
try_after-requires c =
    let past = goal.at.try_after-requires c in
    let a = c.args in
    let u = holding a.t zeros in
    let t = holding c.begin-s.result zeros in
    let e = begun-is past.After-begin-s zeros in
    let l = sized past.Start in (
      c.requires.0,
      begun_paid a.seat a.costs.now a.ahead.now u t e a.paid c.requires.2,
      rw c.from.ensures c.requires.1.value,
      record {
        threshold = begun-low a.seat a.costs.now a.ahead.now u t e c.requires.1;
        counter = begun_few a.seat a.costs.now a.ahead.now u t e c.requires.1;
        stamp = begun-stamp a.seat a.costs.now a.ahead.now u t e (omega (arith, l.0, c.requires.0.number.last));
        value = begun_value a.seat a.costs.now a.ahead.now u t e (omega (arith, l.1, c.requires.0.number.last));
      },
    )

pub returns : goal.returns
returns c =
    λ was e. let a = c.args in
    (rw c.from.ensures at (c.try_after.ensures was)) ∙ ap (λ (o : Decision). decided_of was o) (assign-lent a.seat a.costs.now a.ahead.now (holding a.t e) (holding c.begin-s.result zeros) (begun-is (goal.at.returns c).After-begin-s e))
