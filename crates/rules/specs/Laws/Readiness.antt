-- What a step has checked is what the deciding functions ask: a unit's number, a state in range, a message that reads well.
-- From the facts of the checks, kind by kind for the message. Assumes nothing.
use Rattle.std.specs.Prelude.{ℕ, zero, suc, pred, ◌-◌, ◌≤◌, ◌<◌, ◌≡◌, refl, ◌≢◌, Bool, true, false, cond, List, ltb, eqb, get_or, length}
use Rattle.std.proofs.Common.{arith, ap, lt-ltb, eqb-true}
use Rattle.std.proofs.lemmas.Bool.{eqb-false}
use Rattle.base.specs.Shape.{shape_good}
use Rattle.base.specs.Shape.Laws.{shape_n, shape_size}
use Rattle.costs.specs.declared.Seat.{Seat}
use Rattle.costs.specs.Instance.{lent_view, view_from}
use Rattle.message.specs.declared.Message.{Message}
use Rattle.message.specs.declared.Kind.{Kind}
use Rattle.message.specs.declared.Kind.TheVariants.{Cpa, Request, Estimate, Solution, Stop}
use Rattle.message.specs.Message.{carried_of, is_unit, address_good, well_formed}
use Rattle.message.specs.Laws.{cpa_count, filled_at, filled_past, Addressed, addressed, formed}
use Rattle.rules.specs.declared.Unit.{Unit}
use Rattle.rules.specs.State.{fresh, own_value, in_range}
use Rattle.rules.specs.Ready.{Own, Shaped, Ready, Heard}
use Rattle.rules.specs.Laws.Views.{unit_range}
use Rattle.rules.specs.Laws.Filled.{filled-most, zeros_at}
use Rattle.rules.specs.Laws.Range.{CpaOut, InRange, range_facts}

pub own_of : (own n : ℕ) (sizes : List ℕ) → shape_good n sizes ≡ true → is_unit n own ≡ true → Own own
own_of own n sizes s e = let u = unit_range n own e in record { first = u.0; last = omega (arith, u.1, (shape_n n sizes s).1) }

pub shaped_of : (seat : Seat) → shape_good seat.n seat.sizes ≡ true → seat.n ≤ length seat.sizes → is_unit seat.n seat.own ≡ true → Shaped seat
shaped_of seat s long e =
    let u = unit_range seat.n seat.own e in
    record {
      number = own_of seat.own seat.n seat.sizes s e;
      within = u.1;
      units = (shape_n seat.n seat.sizes s).1;
      size = (shape_size seat.n seat.sizes s long (seat.own - 1) (omega (arith, u.0, u.1))).1;
    }

-- ---- the state

pub pred_sub : (k : ℕ) → pred k ≡ k - 1
pred_sub zero = refl
pred_sub (suc k) = omega arith

value_at : (seat : Seat) (costs : List ℕ) (u : Unit) → own_value (view_from seat costs) u ≡ get_or u.values (seat.own - 1) 0
unfolding lent_view
value_at seat costs u = ap (λ (k : ℕ). get_or u.values k 0) (pred_sub seat.own)

-- the counter is the own stamp, which is at most the own domain size
pub ready_of : (seat : Seat) (costs : List ℕ) (u : Unit) → shape_good seat.n seat.sizes ≡ true → seat.n ≤ length seat.sizes → is_unit seat.n seat.own ≡ true
    → in_range seat.sizes (view_from seat costs) u ≡ true → Ready seat u
unfolding lent_view
ready_of seat costs u s long i e =
    let o = own_of seat.own seat.n seat.sizes s i in
    let f = range_facts seat.sizes (view_from seat costs) u e in
    let v = value_at seat costs u in
    record { threshold = f.threshold (seat.own - 1) (omega (arith, o.first, o.last)); value = valued o f (eqb (get_or u.values (seat.own - 1) 0) 0) refl; counter = λ z. counted o (f.out (rw v z)) }
  where
    valued : Own seat.own → InRange seat.sizes (view_from seat costs) u → (t : Bool) → eqb (get_or u.values (seat.own - 1) 0) 0 ≡ t
        → get_or u.values (seat.own - 1) 0 ≤ get_or seat.sizes (seat.own - 1) 0
    valued o f true z = omega (arith, eqb-true (get_or u.values (seat.own - 1) 0) 0 z)
    valued o f false z =
        let ne : get_or u.values (seat.own - 1) 0 ≢ 0 = eqb-false (get_or u.values (seat.own - 1) 0) 0 z in
        let out = f.out (omega (arith, value_at seat costs u)) in
        rw (pred_sub seat.own) at (filled_at (suc (pred seat.own)) seat.sizes u.values out.values (pred seat.own) (omega arith) (omega (arith, o.first, o.last))).1

    counted : Own seat.own → CpaOut seat.sizes (view_from seat costs) u → u.counter ≤ 16
    counted o c =
        let r = unit_range seat.n seat.own i in
        omega (arith, c.counter, filled-most seat.n (suc (pred seat.own)) seat.sizes u.stamp (omega (arith, r.0, r.1)) (λ j l. (shape_size seat.n seat.sizes s long j l).1) c.stamp (pred seat.own) (omega (arith, o.first, o.last)))

-- 01: "It starts with bound none, all else zero."
pub ready_fresh : (seat : Seat) → Own seat.own → Ready seat fresh
ready_fresh seat o =
    let z = zeros_at (seat.own - 1) (omega (arith, o.first, o.last)) in record { threshold = omega arith; value = omega arith; counter = λ l. absurd (omega arith) }

-- ---- the message

module _ (own n : ℕ) (sizes : List ℕ) (m : Message) (to : m.receiver ≡ own) (a : Addressed n m) where
  -- a cpa has at most its receiver's places filled; going down, one fewer
  cpa-most : cpa_count m.sender m.receiver ≤ own
  cpa-most = go (ltb m.sender m.receiver) where
    go : (t : Bool) → cond t (m.receiver - 1) m.receiver ≤ own
    go true = omega arith
    go false = omega arith

  cpa_down : m.sender < own → cpa_count m.sender m.receiver ≡ own - 1
  cpa_down l = simp (lt-ltb m.sender m.receiver (omega arith)) (ap (λ (k : ℕ). k - 1) to)

  stamps_most : (k : Kind) → (carried_of k m).stamps ≤ n
  stamps_most Cpa = omega (arith, cpa-most, a.to_most)
  stamps_most Request = a.from_most
  stamps_most Estimate = a.to_most
  stamps_most Solution = omega arith
  stamps_most Stop = omega arith

  -- from a lower unit, no value of this one
  values_before : (k : Kind) → m.sender < own → (carried_of k m).values ≤ own - 1
  values_before Cpa l = omega (arith, cpa_down l)
  values_before Request l = omega arith
  values_before Estimate l = omega arith
  values_before Solution l = omega arith
  values_before Stop l = omega arith

pub heard_of : (own n : ℕ) (sizes : List ℕ) (k : Kind) (m : Message) → shape_good n sizes ≡ true → n ≤ length sizes → address_good n m ≡ true → m.receiver ≡ own
    → well_formed n sizes k m ≡ true → Heard own m
heard_of own n sizes k m s long e to w =
    let a = addressed n m e in
    let f = formed n sizes k m w in
    let b = (shape_n n sizes s).1 in
    record {
      sender = record { first = a.from; last = omega arith };
      stamp = omega (arith, filled-most n (carried_of k m).stamps sizes m.stamp (stamps_most own n sizes m to a k) (λ j l. (shape_size n sizes s long j l).1) f.stamps (own - 1) (omega arith));
      bare = λ l. filled_past (carried_of k m).values sizes m.values f.values (own - 1) (values_before own n sizes m to a k l) (omega arith);
    }
