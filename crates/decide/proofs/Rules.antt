-- What each rule of a unit gives, once its tests are decided.
-- By the clauses of the definitions. Assumes nothing.
use Prim.Native.Nat.{ℕ, zero, suc, pred, ◌+◌, ◌-◌, ◌≤◌, ◌<◌}
use native.Mathlib.Omega.{arith}
use native.Mathlib.Numerals.{add-one}
use mathlib.Core.Path.{◌≡◌, refl, sym, ap, ◌∙◌}
use mathlib.Core.Logic.{◌≢◌}
use mathlib.Core.Bool.{Bool, true, false, cond, ◌&&◌, false≢true}
use mathlib.Core.List.{List}
use lib.Dec.{ltb, eqb}
use lib.ListN.{length, get_or}
use lib.Seq.{get_or-set_same}
use borrow.Author.Tests.{lt-ltb, le-ltb, le-leb, lt-leb, ne_eqb, eqb-true, eqb-false}
use Rattle.base.specs.Sums.{sum_from}
use Rattle.costs.specs.declared.Seat.{Seat}
use Rattle.costs.specs.Cost.{as_number}
use Rattle.costs.specs.Instance.{View, view_knowing}
use Rattle.costs.specs.Bounds.{cost_with}
use Rattle.costs.specs.Order.{left}
use Rattle.message.specs.declared.Message.{Message}
use Rattle.message.specs.declared.Kind.{Kind}
use Rattle.rules.specs.declared.Unit.{Unit}
use Rattle.rules.specs.declared.Held.{Held}
use Rattle.std.specs.declared.cmp.Ordering.{Ordering}
use Rattle.std.specs.declared.cmp.Ordering.TheVariants.{Less, Equal, Greater}
use Rattle.std.specs.Ordering.{is_lt}
use Rattle.rules.specs.State.{zeros, fresh, with_threshold, with_cpa, own_value, own_cost, compare_on, same_on}
use Rattle.rules.specs.Step.{refused, quiet, take_bound, bare_cost, take_off, backtrack, try_after, begun, assign, resume, received, on_down, is_out, is_cpa_out, on_back, on_cpa, on_fresh, on_request, on_own_estimate, on_timely, on_estimate, by_kind, respond}
use Rattle.rules.specs.Tests.{holding, stored, sum_later, on_own, take_lower, reached_by_estimates, unless_stopped}
use Rattle.rules.specs.Calls.{start}
use Rattle.rules.specs.Ready.{Shaped, Ready, Heard, Paid, decided_of}
use Rattle.rules.specs.Laws.Readiness.{pred_sub}
use Rattle.rules.specs.Laws.Assign.{cost_set}
use Rattle.decide.proofs.Lent.{place-lent, dom-lent, value_lent, no_value_no_cost, paid_of}

-- ---- the state stays ready

ready_lower : (seat : Seat) (b : Bool) (B : ℕ) (l : List ℕ) (u : Unit) → Ready seat u → Ready seat (take_lower b B l u)
ready_lower seat true B l u r = record { threshold = r.threshold; value = r.value; counter = r.counter }
ready_lower seat false B l u r = r

pub ready_bound : (seat : Seat) (m : Message) (u t : Unit) → t ≡ take_bound m u → Ready seat u → Ready seat t
ready_bound seat m u t e r = rw e (ready_lower seat (ltb m.bound u.bound) m.bound m.best u r)

-- the cpa of a message from a lower unit has no own value
ready_down : (seat : Seat) (m : Message) (u : Unit) → Heard seat.own m → m.sender < seat.own → Ready seat u → Ready seat (with_cpa m.stamp m.values m.cost u)
ready_down seat m u d l r = record { threshold = r.threshold; value = omega (arith, d.bare l); counter = λ z. absurd (none z) } where
  none : 0 < get_or m.values (seat.own - 1) 0 → ⊥
  none z = omega (arith, d.bare l)

pub ready_follow : (seat : Seat) (m : Message) (u : Unit) → Heard seat.own m → Ready seat u → Ready seat (with_threshold m.stamp u)
ready_follow seat m u d r = record { threshold = d.stamp; value = r.value; counter = r.counter }

pub ready_received : (seat : Seat) (m : Message) (u : Unit) → Heard seat.own m → m.sender < seat.own → Ready seat u → Ready seat (received m u)
ready_received seat m u d l r = ready_lower seat (ltb m.bound u.bound) m.bound m.best (with_cpa m.stamp m.values m.cost u) (ready_down seat m u d l r)

-- what is held of a unit asks for no estimates
pub ready_held : (seat : Seat) (t : Held) (e : List ℕ) (u : Unit) → holding t e ≡ u → Ready seat u → Ready seat (holding t zeros)
ready_held seat t e u same r =
    let q : Ready seat (holding t e) = rw same r in
    record { threshold = q.threshold; value = q.value; counter = q.counter }

-- ---- assign

-- the counter where assigning begins may go up by one for each value
begun_counter : (v c : ℕ) → (0 < v → c ≤ 16) → cond (eqb v 0) 0 c ≤ 16
begun_counter zero c f = omega arith
begun_counter (suc v) c f = simp (ne_eqb (suc v) 0 (λ z. omega arith)) (f (omega arith))

module _ (seat : Seat) (costs ahead : List ℕ) where
  abbrev view : View
  view = view_knowing seat costs ahead

  -- the own value's costs are among those of all values
  pub own_paid_lent : (u : Unit) (paid : List ℕ) (x : ℕ) → Shaped seat → Ready seat u → Paid view u.values paid
      → (get_or u.values (seat.own - 1) 0 ≡ 0 → x ≡ 0) × (1 ≤ get_or u.values (seat.own - 1) 0 → x ≡ get_or paid (get_or u.values (seat.own - 1) 0 - 1) 0) → x ≡ own_cost view u
  own_paid_lent u paid x s r known is = go (eqb (get_or u.values (seat.own - 1) 0) 0) refl
    where
      go : (t : Bool) → eqb (get_or u.values (seat.own - 1) 0) 0 ≡ t → x ≡ own_cost view u
      go true e = let none = eqb-true (get_or u.values (seat.own - 1) 0) 0 e in is.0 none ∙ no_value_no_cost seat costs ahead u none
      go false e =
          let ne : get_or u.values (seat.own - 1) 0 ≢ 0 = eqb-false (get_or u.values (seat.own - 1) 0) 0 e in
          let some : 1 ≤ get_or u.values (seat.own - 1) 0 = omega (arith, ne) in
          is.1 some
          ∙ paid_of view u.values paid (get_or u.values (seat.own - 1) 0) some (omega (arith, r.value, dom-lent seat costs ahead s.number.first s.within)) known
          ∙ ap (λ (v : ℕ). as_number (cost_with view u.values view.place v)) (sym (value_lent seat costs ahead u))

  module _ (u t : Unit) (e : t ≡ begun view u) where
    -- the threshold is as it was
    pub begun-low : Ready seat u → get_or t.threshold (seat.own - 1) 0 ≤ 17
    begun-low r = rw e r.threshold

    pub begun_few : Ready seat u → t.counter ≤ 16
    begun_few r =
        let f : t.counter ≡ cond (eqb (own_value view u) 0) 0 u.counter = ap (λ (s : Unit). s.counter) e in
        rw (f, value_lent seat costs ahead u) (begun_counter (get_or u.values (seat.own - 1) 0) u.counter r.counter)

    -- the own value is off
    pub begun-stamp : seat.own - 1 < length u.stamp → get_or t.stamp (seat.own - 1) 0 ≡ 0
    begun-stamp l = rw (e, place-lent seat costs ahead) (get_or-set_same u.stamp (seat.own - 1) 0 0 l)

    pub begun_value : seat.own - 1 < length u.values → get_or t.values (seat.own - 1) 0 ≡ 0
    begun_value l = rw (e, place-lent seat costs ahead) (get_or-set_same u.values (seat.own - 1) 0 0 l)

    -- so each value costs what it did
    pub begun_paid : (paid : List ℕ) → Paid view u.values paid → Paid view t.values paid
    begun_paid paid known k l = rw e (known k l ∙ ap as_number (sym (cost_set view u.values 0 (suc k))))

    pub assign-lent : try_after view (left view (get_or u.values (seat.own - 1) 0)) (get_or u.values (seat.own - 1) 0) false t ≡ assign view u
    unfolding assign
    assign-lent = rw (e, ← value_lent seat costs ahead u)

-- ---- resume

pub resume_back : (w : View) (u : Unit) → u.bound ≤ bare_cost w u → resume w u ≡ backtrack w false (take_off w u)
unfolding resume
resume_back w u l = simp (le-leb _ _ l)

pub resume_on : (w : View) (u : Unit) → bare_cost w u < u.bound → resume w u ≡ assign w u
unfolding resume
resume_on w u l = simp (lt-leb _ _ l)

-- ---- cpas

-- the stamp of the cpa out, then its values and cost
pub cpa_out : (w : View) (u : Unit) (m : Message) (own : ℕ) (stamps values : Bool) → suc w.place ≡ own
    → stamps ≡ (is_out w u && same_on (suc w.place) m.stamp u.stamp) → values ≡ same_on own m.values u.values
    → (stamps && values && eqb m.cost u.cost) ≡ is_cpa_out w u m
cpa_out w u m own stamps values o e f = rw (e, f, ← o)

pub back_stale : (w : View) (o : Ordering) (u : Unit) (m : Message) → is_lt o ≡ true → quiet u ≡ on_back w o u m
back_stale w Less u m e = refl
back_stale w Equal u m e = absurd (false≢true e)
back_stale w Greater u m e = absurd (false≢true e)

pub back_own : (w : View) (o : Ordering) (u : Unit) (m : Message) → is_lt o ≡ false → on_own w (is_cpa_out w u m) u m ≡ on_back w o u m
back_own w Less u m e = absurd (false≢true (sym e))
back_own w Equal u m e = refl
back_own w Greater u m e = refl

module _ (w : View) (own : ℕ) (u : Unit) (m : Message) (o : Ordering) (number : suc w.place ≡ own) (compared : o ≡ compare_on own m.stamp u.threshold) where
  there : o ≡ compare_on (suc w.place) m.stamp u.threshold
  there = compared ∙ ap (λ (k : ℕ). compare_on k m.stamp u.threshold) (sym number)

  pub cpa_down : m.sender < own → on_down w o u m ≡ on_cpa w u m
  unfolding on_cpa
  cpa_down l = rw (lt-ltb m.sender (suc w.place) (omega arith)) (ap (λ (x : Ordering). on_down w x u m) there)

  pub cpa_back : own ≤ m.sender → on_back w o u m ≡ on_cpa w u m
  unfolding on_cpa
  cpa_back l = rw (le-ltb m.sender (suc w.place) (omega arith)) (ap (λ (x : Ordering). on_back w x u m) there)

  pub estimate_timely : on_timely w o u m ≡ on_estimate w u m
  unfolding on_estimate
  estimate_timely = ap (λ (x : Ordering). on_timely w x u m) there

-- ---- requests

pub request_fresh : (w : View) (u : Unit) (m : Message) (o : Ordering) (k : ℕ) → w.place ≡ k → o ≡ compare_on k m.stamp u.threshold → on_fresh w o u m ≡ on_request w u m
unfolding on_request
request_fresh w u m o k p e = ap (λ (x : Ordering). on_fresh w x u m) (e ∙ ap (λ (i : ℕ). compare_on i m.stamp u.threshold) (sym p))

-- ---- estimates

-- the sum from place j on is the estimate there and the rest
pub sum_more : (f : ℕ → ℕ) (j n : ℕ) → j < n → sum_from f j (n - j) ≡ f j + sum_from f (j + 1) (n - (j + 1))
sum_more f j n l = let e : n - j ≡ suc (n - (j + 1)) = omega arith in rw (e, add-one)

pub sum_done : (f : ℕ → ℕ) (j n : ℕ) → n ≤ j → sum_from f j (n - j) ≡ 0
sum_done f j n l = let e : n - j ≡ 0 = omega arith in rw e

-- a stamp that is not the cpa out's
pub estimate_foreign : (w : View) (u : Unit) (m : Message) → (is_out w u && same_on (suc w.place) m.stamp u.stamp) ≡ false → refused 11 ≡ on_timely w Equal u m
estimate_foreign w u m e = sym (ap (λ (b : Bool). on_own_estimate w b (stored m u)) e)

module _ (w : View) (u t : Unit) (m : Message) (same : (is_out w u && same_on (suc w.place) m.stamp u.stamp) ≡ true) (kept : t ≡ stored m u) where
  own-estimate : on_timely w Equal u m ≡ on_own_estimate w true t
  own-estimate = ap (λ (b : Bool). on_own_estimate w b (stored m u)) same ∙ ap (λ (s : Unit). on_own_estimate w true s) (sym kept)

  pub estimate_reached : t.bound ≤ t.cost + sum_later w t.estimates → assign w t ≡ on_timely w Equal u m
  estimate_reached l = sym (own-estimate ∙ ap (λ (b : Bool). reached_by_estimates w b t) (le-leb _ _ l))

  pub estimate_short : t.cost + sum_later w t.estimates < t.bound → quiet t ≡ on_timely w Equal u m
  estimate_short l = sym (own-estimate ∙ ap (λ (b : Bool). reached_by_estimates w b t) (lt-leb _ _ l))

-- ---- a message that was read

pub respond-stopped : (w : View) (k : Kind) (u : Unit) (m : Message) → u.stopped ≡ true → refused 12 ≡ respond w k u m
unfolding respond
respond-stopped w k u m e = ap (λ (b : Bool). unless_stopped b w k u m) (sym e)

pub respond_kind : (w : View) (k x : Kind) (u : Unit) (m : Message) → u.stopped ≡ false → k ≡ x → by_kind w x u m ≡ respond w k u m
unfolding respond
respond_kind w k x u m e f = ap (λ (y : Kind). by_kind w y u m) (sym f) ∙ ap (λ (b : Bool). unless_stopped b w k u m) (sym e)

-- ---- a new unit

pub start_first : (own : ℕ) (was : Unit) (w : View) → own ≡ 1 → decided_of was (assign w fresh) ≡ decided_of was (start w (pred own))
start_first own was w e = rw e

pub start_later : (own : ℕ) (was : Unit) (w : View) → 1 ≤ own → (own ≡ 1 → ⊥) → decided_of was (quiet fresh) ≡ decided_of was (start w (pred own))
start_later own was w h f = let e : pred own ≡ suc (own - 2) = pred_sub own ∙ omega arith in rw e
