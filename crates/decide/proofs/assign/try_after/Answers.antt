-- `try_after` meets its contract. The loop's invariant: what all values give is what those after v give, after the records written.
-- Each turn is a law of proofs/Trying. Assumes nothing.
use borrow.Author.Rules.{rules}
use Prim.Native.Nat.{suc, ◌+◌, ◌-◌, ◌≤◌, ◌<◌}
use native.Mathlib.Omega.{arith}
use mathlib.Core.Path.{◌≡◌, refl, sym, ap, ◌∙◌}
use mathlib.Core.Bool.{true, false}
use lib.ListN.{length, get_or}
use borrow.Author.Tests.{ltb-true, ltb-false}
use Rattle.costs.specs.Cost.{as_number}
use Rattle.costs.specs.Instance.{view_knowing}
use Rattle.costs.specs.Bounds.{h}
use Rattle.costs.specs.Order.{next, left}
use Rattle.rules.specs.declared.Unit.{Unit}
use Rattle.rules.specs.State.{zeros}
use Rattle.rules.specs.Step.{try_after}
use Rattle.rules.specs.Tests.{holding}
use Rattle.rules.specs.Ready.{IsPaid, counted}
use Rattle.decide.proofs.Lent.{place-lent, n-lent, own-lent, dom-lent, paid_of}
use Rattle.decide.proofs.Later.{left_more}
use Rattle.decide.proofs.Trying.{Off, counted_none, passed_over, written_last, written_on, none_left}
use Rattle.decide.proofs.assign.try_after.Goals as goal
use Rattle.decide.proofs.assign.try_after.Goals.{Else-v-eq0, Start, After-below_bound}

pub loop-v-init : goal.loop-v-init
loop-v-init c =
    let a = c.args in
    let w = view_knowing a.seat a.costs.now a.ahead.now in
    let few : left w a.from ≤ 16 = omega (arith, dom-lent a.seat a.costs.now a.ahead.now c.requires.0.number.first c.requires.0.within, c.requires.0.size) in
    record {
      within = c.requires.2;
      written = omega arith;
      counter = omega (arith, few, c.requires.3.counter);
      threshold = omega (arith, c.requires.3.threshold);
      stamp = refl;
      values = refl;
      whole = λ was. counted_none was (try_after w (left w a.from) a.from false (holding a.s zeros));
    }

-- the value tried is the one after the last
tried : (c : Else-v-eq0)
    → let a = c.args in
    c.next-v.result ≡ next (view_knowing a.seat a.costs.now a.ahead.now) c.loop-v.v
tried c = let a = c.args in c.next-v.ensures.0 a.costs.now a.ahead.now c.keys-keys.ensures

-- one fewer is left after it
fewer : (c : Else-v-eq0)
    → let a = c.args in
    let w = view_knowing a.seat a.costs.now a.ahead.now in
    left w c.loop-v.v ≡ suc (left w c.next-v.result)
fewer c =
    let a = c.args in
    left_more (view_knowing a.seat a.costs.now a.ahead.now) c.loop-v.v c.next-v.result (tried c) (omega (arith, c.if-v-eq0.false))

-- what it costs
paid-is : (c : Else-v-eq0)
    → let a = c.args in
    IsPaid (view_knowing a.seat a.costs.now a.ahead.now) c.loop-v.t.values c.next-v.result (get_or a.paid (c.next-v.result - 1) 0)
paid-is c =
    let a = c.args in
    let w = view_knowing a.seat a.costs.now a.ahead.now in
    let l = c.loop-v in
    rw l.invariant.values
    (paid_of w a.s.values a.paid c.next-v.result (omega (arith, c.if-v-eq0.false)) (omega (arith, c.next-v.ensures.1, dom-lent a.seat a.costs.now a.ahead.now c.requires.0.number.first c.requires.0.within)) c.requires.1)

sized : (c : Start) → length c.args.s.values ≡ 16
sized c = search rules

-- the own value is off, as it was before the loop
off : (c : Else-v-eq0)
    → let a = c.args in
    Off (view_knowing a.seat a.costs.now a.ahead.now).place (holding c.loop-v.t zeros)
off c =
    let a = c.args in
    let l = c.loop-v in
    rw (place-lent a.seat a.costs.now a.ahead.now, l.invariant.stamp, l.invariant.values)
    (record { stamp = c.requires.3.stamp; value = c.requires.3.value; room = omega (arith, sized (goal.at.Else-v-eq0 c).Start, c.requires.0.number.last) })

-- the sum of the cost in hand and what the value costs
sum_is : (c : After-below_bound)
    → c.sum-cost.result ≡ c.loop-v.t.cost + get_or c.args.paid (c.next-v.result - 1) 0
sum_is c = rw c.from.ensures at c.sum-cost.ensures.0

-- it is below a bound of 32 bits
under : (c : After-below_bound) → c.below_bound.result ≡ true → c.sum-cost.result < 4294967296
under c e =
    let a = c.args in
    let l : c.sum-cost.result + as_number (h (view_knowing a.seat a.costs.now a.ahead.now) c.next-v.result) < c.loop-v.t.bound = ltb-true _ _ (sym c.below_bound.ensures.0 ∙ e) in
    omega (arith, l, c.below_bound.ensures.1)

pub returns-then-seat : goal.returns-then-seat
returns-then-seat c =
    let past = goal.at.returns-then-seat c in
    λ was.
    let l = c.loop-v in
    let y = c.next-v.result in
    let a = c.args in
    let w = view_knowing a.seat a.costs.now a.ahead.now in
    let o : suc w.place ≡ a.seat.own = own-lent a.seat a.costs.now a.ahead.now c.requires.0.number.first in
    let cost = c.sum-cost.result in
    c.forward.ensures w o
    ∙ sym (l.invariant.whole was
    ∙ written_on w l.v y l.records was l.improved (holding l.t zeros) (tried past.Else-v-eq0) (omega (arith, c.if-v-eq0.false)) c.below_bound.ensures.1 _ _ (paid-is past.Else-v-eq0) refl
    cost (sum_is past.After-below_bound) (ltb-true _ _ (sym c.below_bound.ensures.0 ∙ c.if-below_bound.true))
    (λ q. c.if-seat.true (sym o ∙ q ∙ n-lent a.seat a.costs.now a.ahead.now)))

pub loop-v-preserved-then-below_bound : goal.loop-v-preserved-then-below_bound
loop-v-preserved-then-below_bound c =
    let past = goal.at.loop-v-preserved-then-below_bound c in
    let l = c.loop-v in
    let y = c.next-v.result in
    let a = c.args in
    let w = view_knowing a.seat a.costs.now a.ahead.now in
    let o : suc w.place ≡ a.seat.own = own-lent a.seat a.costs.now a.ahead.now c.requires.0.number.first in
    let better = c.improve-t.ensures.1 w zeros o in
    let cost = c.sum-cost.result in
    let less = fewer past.Else-v-eq0 in
    record {
      within = c.next-v.ensures.1;
      written = omega (arith, less, l.invariant.written);
      counter = omega (arith, less, ap (λ (u : Unit). u.counter) better, l.invariant.counter);
      threshold = omega (arith, c.improve-t.ensures.0, l.invariant.counter);
      stamp = ap (λ (u : Unit). u.stamp) better ∙ l.invariant.stamp;
      values = ap (λ (u : Unit). u.values) better ∙ l.invariant.values;
      whole = λ was. l.invariant.whole was
          ∙ written_last w l.v y l.records was l.improved (holding l.t zeros) (tried past.Else-v-eq0) (omega (arith, c.if-v-eq0.false)) c.below_bound.ensures.1 _ _ (paid-is past.Else-v-eq0) refl
          cost (sum_is past.After-below_bound) (ltb-true _ _ (sym c.below_bound.ensures.0 ∙ c.if-below_bound.true))
          (o ∙ c.if-seat.false ∙ sym (n-lent a.seat a.costs.now a.ahead.now)) (off past.Else-v-eq0)
          ∙ ap (λ (u : Unit). counted (l.records + 1) was (try_after w (left w y) y true u)) (sym better);
    }

pub loop-v-preserved : goal.loop-v-preserved
loop-v-preserved c =
    let earlier = goal.at.loop-v-preserved c in
    let l = c.loop-v in
    let y = c.next-v.result in
    let a = c.args in
    let w = view_knowing a.seat a.costs.now a.ahead.now in
    let less = fewer earlier.Else-v-eq0 in
    let past : l.t.bound ≤ c.sum-cost.result + as_number (h w y) = ltb-false _ _ (sym c.below_bound.ensures.0 ∙ c.if-below_bound.false) in
    record {
      within = c.next-v.ensures.1;
      written = omega (arith, less, l.invariant.written);
      counter = omega (arith, less, l.invariant.counter);
      threshold = l.invariant.threshold;
      stamp = l.invariant.stamp;
      values = l.invariant.values;
      whole = λ was. l.invariant.whole was
          ∙ passed_over w l.v y l.records was l.improved (holding l.t zeros) (tried earlier.Else-v-eq0) (omega (arith, c.if-v-eq0.false)) c.below_bound.ensures.1 _ _ (paid-is earlier.Else-v-eq0) refl
          (omega (arith, past, sum_is earlier.After-below_bound));
    }

pub returns-then-v-eq0 : goal.returns-then-v-eq0
returns-then-v-eq0 c =
    λ was.
    let l = c.loop-v in
    let a = c.args in
    let w = view_knowing a.seat a.costs.now a.ahead.now in
    let o : suc w.place ≡ a.seat.own = own-lent a.seat a.costs.now a.ahead.now c.requires.0.number.first in
    let none : next w l.v ≡ 0 = sym (c.next-v.ensures.0 a.costs.now a.ahead.now c.keys-keys.ensures) ∙ c.if-v-eq0.true in
    c.backtrack.ensures w was zeros o ∙ sym (l.invariant.whole was ∙ none_left w l.v l.records was l.improved (holding l.t zeros) none)

pub overflow_cast-cost : goal.overflow_cast-cost
overflow_cast-cost c = let l = under (goal.at.overflow_cast-cost c).After-below_bound c.if-below_bound.true in search rules

pub overflow_cast-cost-then-below_bound : goal.overflow_cast-cost-then-below_bound
overflow_cast-cost-then-below_bound c = let l = under (goal.at.overflow_cast-cost-then-below_bound c).After-below_bound c.if-below_bound.true in search rules

pub loop-v-smaller-then-below_bound : goal.loop-v-smaller-then-below_bound
loop-v-smaller-then-below_bound c = omega (arith, fewer (goal.at.loop-v-smaller-then-below_bound c).Else-v-eq0)

pub loop-v-smaller : goal.loop-v-smaller
loop-v-smaller c = omega (arith, fewer (goal.at.loop-v-smaller c).Else-v-eq0)
