-- A unit decides what the way of a message says.
-- Kind by kind, by the tests of the way. Assumes nothing.
use Rattle.std.specs.Prelude.{ℕ, suc, pred, ◌+◌, ◌-◌, ◌≤◌, ◌≡◌, Bool, cond, ◌&&◌, List, ltb, Ok, Err}
use Rattle.std.proofs.Common.{arith, ◌∙◌, ltb-true}
use Rattle.std.proofs.Math.Path.{refl, sym, ap}
use Rattle.std.proofs.Math.Bool.{true, false}
use Rattle.std.proofs.Math.Dec.{leb}
use Rattle.std.proofs.lemmas.Bool.{lt-leb}
use Rattle.base.specs.Shape.Laws.{and_left, and_right}
use Rattle.costs.specs.declared.Seat.{Seat}
use Rattle.costs.specs.Instance.{View, lent_view, knowing, view_knowing}
use Rattle.message.specs.declared.Kind.{Kind}
use Rattle.message.specs.declared.Kind.TheVariants.{Cpa, Request, Estimate, Solution, Stop}
use Rattle.message.specs.declared.Message.{Message}
use Rattle.message.specs.Message.{is_unit}
use Rattle.rules.specs.declared.Unit.{Unit as State}
use Rattle.std.specs.declared.cmp.Ordering.{Ordering}
use Rattle.std.specs.declared.cmp.Ordering.TheVariants.{Less, Equal, Greater}
use Rattle.rules.specs.declared.Way.{Way}
use Rattle.rules.specs.declared.Way.TheVariants.{Quiet, Reply, Follow, Store, Lower, Whole}
use Rattle.rules.specs.State.{compare_on, same_on}
use Rattle.rules.specs.Step.{Decision, refused, quiet, reply, is_out, on_fresh, on_request, on_own_estimate, on_timely, on_estimate, on_solution, by_kind, respond}
use Rattle.rules.specs.Tests.{stored, sum_later, reached_by_estimates, take_lower, unless_stopped}
use Rattle.rules.specs.Calls.{outcome_of}
use Rattle.rules.specs.Trusted.{can_step, can_hear, respond_to}
use Rattle.rules.specs.Way.{request_way, stays_below, estimate_way, way_by, way_of, by_way, reply_to}
use Rattle.rules.specs.Laws.Views.{unit_range}
use Rattle.rules.specs.Laws.Readiness.{pred_sub}
use Rattle.rules.specs.Laws.Trusted.{respond_5, respond_9, respond_on}

module _ (w : View) (u : State) (m : Message) where
  fresh_by : (o : Ordering) → on_fresh w o u m ≡ by_way (request_way o) w u m (on_fresh w o u m)
  fresh_by Less = refl
  fresh_by Equal = refl
  fresh_by Greater = refl

  lower_by : (t : Bool) → quiet (take_lower t m.bound m.best u) ≡ by_way (cond t Lower Quiet) w u m (quiet (take_lower t m.bound m.best u))
  lower_by true = refl
  lower_by false = refl

  -- the test as the unit has it
  abbrev below : Bool
  below = is_out w u && same_on (suc w.place) m.stamp u.stamp && ltb (u.cost + sum_later w (stored m u).estimates) u.bound

  stored-quiet : below ≡ true → on_timely w Equal u m ≡ quiet (stored m u)
  stored-quiet e =
      let s = and_left (is_out w u && same_on (suc w.place) m.stamp u.stamp) _ e in
      let l = ltb-true (u.cost + sum_later w (stored m u).estimates) u.bound (and_right (is_out w u && same_on (suc w.place) m.stamp u.stamp) _ e) in
      ap (λ (b : Bool). on_own_estimate w b (stored m u)) s ∙ ap (λ (b : Bool). reached_by_estimates w b (stored m u)) (lt-leb u.bound (u.cost + sum_later w (stored m u).estimates) l)

  timely_by : (o : Ordering) (t : Bool) → below ≡ t → on_timely w o u m ≡ by_way (estimate_way o t) w u m (on_timely w o u m)
  timely_by Less t e = refl
  timely_by Equal true e = stored-quiet e
  timely_by Equal false e = refl
  timely_by Greater t e = refl

  module _ (own n : ℕ) (number : suc w.place ≡ own) (units : w.n ≡ n) where
    place : own - 1 ≡ w.place
    place = omega arith

    below_is : stays_below own n u m ≡ below
    below_is = rw (place, ← number, ← units)

    kind_by : (k : Kind) → by_kind w k u m ≡ by_way (way_by own n k u m) w u m (by_kind w k u m)
    unfolding on_request on_estimate on_solution
    kind_by Cpa = refl
    kind_by Request = rw place (fresh_by (compare_on w.place m.stamp u.threshold))
    kind_by Estimate =
        timely_by (compare_on (suc w.place) m.stamp u.threshold) (stays_below own n u m) (sym below_is)
        ∙ ap (λ (i : ℕ). by_way (estimate_way (compare_on i m.stamp u.threshold) (stays_below own n u m)) w u m (by_kind w Estimate u m)) number
    kind_by Solution = lower_by (ltb m.bound u.bound)
    kind_by Stop = refl

module _ (seat : Seat) (costs ahead : List ℕ) (k : Kind) (u : State) (m : Message) where
  abbrev seen : View
  seen = view_knowing seat costs ahead

  pub way_decides : by_kind seen k u m ≡ by_way (way_of seat (Ok (k, m)) u) seen u m (by_kind seen k u m)
  unfolding way_of knowing lent_view
  way_decides = go (is_unit seat.n seat.own && leb seat.n 16 && is_unit 16 m.sender) refl
    where
      go : (t : Bool) → (is_unit seat.n seat.own && leb seat.n 16 && is_unit 16 m.sender) ≡ t
          → by_kind seen k u m ≡ by_way (cond t (way_by seat.own seat.n k u m) Whole) seen u m (by_kind seen k u m)
      go true e =
          let o = unit_range seat.n seat.own (and_left _ _ (and_left _ _ e)) in
          kind_by seen u m seat.own seat.n (omega (arith, o.0, pred_sub seat.own)) refl k
      go false e = refl

  -- what is not refused is decided by the message's kind
  pub unrefused_by_kind : (n j : ℕ) → (outcome_of n j u (respond_to seat costs ahead k u m)).refusal ≡ 0 → respond_to seat costs ahead k u m ≡ by_kind seen k u m
  unfolding respond
  unrefused_by_kind n j z = go (can_step seat.own seat.n seat.sizes u) (can_hear seat.own m) u.stopped refl refl refl
    where
      refusal : (r : ℕ) → respond_to seat costs ahead k u m ≡ refused r → r ≡ 0
      refusal r e = sym (ap (λ (o : Decision). (outcome_of n j u o).refusal) e) ∙ z

      go : (s h t : Bool) → can_step seat.own seat.n seat.sizes u ≡ s → can_hear seat.own m ≡ h → u.stopped ≡ t → respond_to seat costs ahead k u m ≡ by_kind seen k u m
      go false h t e f g = absurd (omega (arith, refusal 5 (respond_5 seat costs ahead k u m e)))
      go true false t e f g = absurd (omega (arith, refusal 9 (respond_9 seat costs ahead k u m e f)))
      go true true true e f g = absurd (omega (arith, refusal 12 (respond_on seat costs ahead k u m e f ∙ ap (λ (b : Bool). unless_stopped b seen k u m) g)))
      go true true false e f g = respond_on seat costs ahead k u m e f ∙ ap (λ (b : Bool). unless_stopped b seen k u m) g

-- no way is told of what was not read
pub way_unread : (seat : Seat) (r : ℕ) (u : State) → way_of seat (Err r) u ≡ Whole
unfolding way_of
way_unread seat r u = refl

-- an estimate that is stored is of one of 16 units
pub store-sender : (seat : Seat) (k : Kind) (u : State) (m : Message) → way_of seat (Ok (k, m)) u ≡ Store → is_unit 16 m.sender ≡ true
unfolding way_of
store-sender seat k u m e = go (is_unit seat.n seat.own && leb seat.n 16 && is_unit 16 m.sender) refl e
  where
    go : (t : Bool) → (is_unit seat.n seat.own && leb seat.n 16 && is_unit 16 m.sender) ≡ t → cond t (way_by seat.own seat.n k u m) Whole ≡ Store → is_unit 16 m.sender ≡ true
    go true f e = and_right (is_unit seat.n seat.own && leb seat.n 16) _ f
    go false f e = let c : ◌≡◌ {A = ℕ} 0 1 = ap code e in absurd (omega arith)
      where
        code : Way → ℕ
        code Quiet = 2
        code Reply = 2
        code Follow = 2
        code Store = 1
        code Lower = 2
        code Whole = 0

-- the estimate that it sends
pub reply_is : (seat : Seat) (costs ahead : List ℕ) (m : Message) → 1 ≤ seat.own → reply_to seat costs ahead m ≡ (reply (view_knowing seat costs ahead) m).message
unfolding knowing lent_view
reply_is seat costs ahead m first = let e : suc (pred seat.own) ≡ seat.own = omega (arith, pred_sub seat.own) in rw e
