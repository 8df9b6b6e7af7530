-- A message that reads well, taken by a unit in range, leaves it in range, and what it sends can be written (`respond-kept`);
-- and so does making (`start-kept`). Message by message: each leaves, before the unit assigns or backtracks, a threshold whose own
-- place is the CPA's, so at most 16 (`Ready`). In order: states beside one another; CPAs; requests; estimates; solutions and stops; any message; making.
-- Assumes nothing.
use Rattle.std.specs.Prelude.{ℕ, zero, suc, ◌+◌, ◌-◌, ◌≤◌, ◌<◌, ◌≡◌, ◌&&◌, List, [], leb, length, get_or, set, Some, None}
use Rattle.std.proofs.Math.Path.{refl}
use Rattle.std.proofs.Common.{sym, ap, ⊎_elim, length-set, ltb-true, lt-ltb, leb-false}
use Rattle.std.proofs.Math.Bool.{Bool, true, false}
use native.Mathlib.Omega.{arith}
use Rattle.std.proofs.Math.Dec.{ltb}
use Rattle.base.specs.Limits.{NONE, estimate_limit, prefix_limit}
use Rattle.base.specs.Shape.Laws.{and_left, and_right}
use Rattle.base.specs.Members.Laws.{every_nil}
use Rattle.costs.specs.Cost.{Cost, as_number}
use Rattle.costs.specs.Cost.Laws.{AtMost, most_mono}
use Rattle.costs.specs.Instance.{View}
use Rattle.costs.specs.Bounds.{estimate}
use Rattle.costs.proofs.Lent.Bounds.{estimate-most}
use Rattle.message.specs.declared.Message.{Message}
use Rattle.message.specs.declared.Kind.{Kind}
use Rattle.message.specs.declared.Kind.TheVariants.{Cpa, Request, Estimate, Solution, Stop}
use Rattle.message.specs.Message.{filled_to, none_or_bound, carried_of, cost_fits}
use Rattle.message.specs.Laws.{cpa_count, cost_by, none_by, cost-most, cost_or_none, blank-filled, no_bound_by, address_by, Addressed, addressed, Formed, formed_by, formed, filled_at, filled_past}
use Rattle.message.specs.Sized.{Sized}
use Rattle.rules.specs.declared.Unit.{Unit as State}
use Rattle.std.specs.declared.cmp.Ordering.{Ordering}
use Rattle.std.specs.declared.cmp.Ordering.TheVariants.{Less, Equal, Greater}
use Rattle.std.specs.Ordering.{is_ge}
use Rattle.rules.specs.State.{zeros, fresh, with_threshold, with_cpa, own_value, compare_on, same_on, in_range}
use Rattle.rules.specs.Step.{take_bound, assign, on_down, is_out, is_cpa_out, on_back, on_cpa, reply, on_fresh, on_request, on_own_estimate, on_timely, on_estimate, on_solution, on_stop, respond}
use Rattle.rules.specs.Tests.{sum_later, stored, silent, on_own, take_lower, on_either, reached_by_estimates, unless_stopped}
use Rattle.rules.specs.Send.{packet, packets}
use Rattle.rules.specs.Calls.{start}
use Rattle.rules.specs.Laws.Views.{GoodView, units_most, place_16, size_most}
use Rattle.rules.specs.Laws.Stamps.{SamePlaces, same_places, equal_places, places_compare, both_ways, bigger_than, bigger_more, fewer_not_smaller}
use Rattle.rules.specs.Laws.Filled.{filled_off, filled-most, zeros_at, set_most, good_or_none, bound_32}
use Rattle.rules.specs.Laws.Forbidden.{none_reaches}
use Rattle.rules.specs.Laws.Range.{SizedUnit, InRange, range_facts, range_tests}
use Rattle.rules.specs.Laws.Packets.{Sendable, reply_sendable}
use Rattle.rules.specs.Laws.Assign.{Whenever, GoodDecision, Ready, assign-kept, resume-kept}

-- ---- an estimate, as a message carries it

estimate-fits : (m : Message) (c : Cost) → AtMost estimate_limit c → cost_fits (carried_of Estimate m) (as_number c) ≡ true
estimate-fits m (Some x) h = cost_by (carried_of Estimate m) x h
estimate-fits m None h = none_by (carried_of Estimate m) refl

estimate_32 : (c : Cost) → AtMost estimate_limit c → as_number c < 4294967296
estimate_32 (Some x) h = omega arith
estimate_32 None h = omega arith

-- ---- states with the same CPA out

-- u with another threshold, bound, estimates and stop
abbrev same_cpa : State → List ℕ → ℕ → List ℕ → List ℕ → Bool → State
same_cpa u t B l e b = record {
  threshold = t;
  bound = B;
  best = l;
  estimates = e;
  stamp = u.stamp;
  values = u.values;
  cost = u.cost;
  counter = u.counter;
  stopped = b;
}

module _ (n : ℕ) (sizes : List ℕ) (w : View) (g : GoodView n sizes w) where
  k16 : w.place < 16
  k16 = place_16 n sizes w g

  module _ (u : State) (r : InRange sizes w u) (a : SizedUnit u) where
    same_cpa_range : (t : List ℕ) (B : ℕ) (l e : List ℕ) (b : Bool) → ((j : ℕ) → j < 16 → get_or t j 0 ≤ 17) → none_or_bound n sizes B l ≡ true
        → ((j : ℕ) → j < 16 → get_or e j 0 ≤ estimate_limit) → (1 ≤ own_value w u → is_ge (compare_on (suc w.place) t u.stamp) ≡ true) → InRange sizes w (same_cpa u t B l e b)
    same_cpa_range t B l e b ht hb he hs =
        record {
          threshold = ht;
          estimates = he;
          bound = rw g.units hb;
          none = λ z. let c = r.none z in record { stamp = c.stamp; values = c.values; cost = c.cost };
          out = λ o.
              let c = r.out o in
              record { stamp = c.stamp; values = c.values; cost = c.cost; counter = c.counter; tried = c.tried; threshold = hs o; paid = c.paid; bare = c.bare };
        }

    same_cpa_arrays : (t : List ℕ) (B : ℕ) (l e : List ℕ) (b : Bool) → length t ≡ 16 → length l ≡ 16 → length e ≡ 16 → SizedUnit (same_cpa u t B l e b)
    same_cpa_arrays t B l e b ht hl he = record { threshold = ht; best = hl; estimates = he; stamp = a.stamp; values = a.values }

    own_bound : none_or_bound n sizes u.bound u.best ≡ true
    own_bound = rw g.units at r.bound

    -- a lower bound taken, or not
    lower_range : (B : ℕ) (l : List ℕ) → none_or_bound n sizes B l ≡ true → (t : Bool) → InRange sizes w (take_lower t B l u)
    lower_range B l h true = same_cpa_range u.threshold B l u.estimates u.stopped r.threshold h r.estimates (λ o. (r.out o).threshold)
    lower_range B l h false = r

    lower_arrays : (B : ℕ) (l : List ℕ) → length l ≡ 16 → (t : Bool) → SizedUnit (take_lower t B l u)
    lower_arrays B l h true = same_cpa_arrays u.threshold B l u.estimates u.stopped a.threshold h a.estimates
    lower_arrays B l h false = a

    -- a state that only listens
    quiet-kept : GoodDecision n sizes w 16 u silent []
    unfolding packets
    quiet-kept = record { state = range_tests sizes w u r; arrays = a; sent = every_nil (Sendable n sizes); few = omega arith; records = omega arith }

    -- the CPA out, in hand
    out_ready : 1 ≤ own_value w u → get_or u.threshold w.place 0 ≤ 16 → Ready n sizes w u
    out_ready o l =
        let c = r.out o in
        record {
          arrays = a;
          threshold = r.threshold;
          own = l;
          estimates = r.estimates;
          bound = own_bound;
          stamp = filled_off sizes u.stamp w.place a.stamp k16 (suc w.place) (omega arith) (omega arith) c.stamp;
          values = filled_off sizes u.values w.place a.values k16 (suc w.place) (omega arith) (omega arith) c.values;
          bare = c.bare;
          value = (filled_at (suc w.place) sizes u.values c.values w.place (omega arith) k16).1;
          tried = λ _. c.tried;
        }

    own-stamp-most : 1 ≤ own_value w u → get_or u.stamp w.place 0 ≤ 16
    own-stamp-most o = filled-most n (suc w.place) sizes u.stamp g.place (size_most n sizes w g) (r.out o).stamp w.place k16

  ready_lower : (u : State) → Ready n sizes w u → (B : ℕ) (l : List ℕ) → length l ≡ 16 → none_or_bound n sizes B l ≡ true → (t : Bool) → Ready n sizes w (take_lower t B l u)
  ready_lower u r B l len h false = r
  ready_lower u r B l len h true =
      record {
        arrays = record { threshold = r.arrays.threshold; best = len; estimates = r.arrays.estimates; stamp = r.arrays.stamp; values = r.arrays.values };
        threshold = r.threshold;
        own = r.own;
        estimates = r.estimates;
        bound = h;
        stamp = r.stamp;
        values = r.values;
        bare = r.bare;
        value = r.value;
        tried = r.tried;
      }

  -- ---- CPAs

  module _ (u : State) (r : InRange sizes w u) (a : SizedUnit u) (m : Message) (q : Sized m) (to : m.receiver ≡ suc w.place) where
    module _ (f : Formed n sizes Cpa m) where
      -- going down, all before this unit are filled
      down_count : ltb m.sender (suc w.place) ≡ true → cpa_count m.sender m.receiver ≡ w.place
      down_count e = rw (to, e) (omega arith)

      down_ready : ltb m.sender (suc w.place) ≡ true → (t : List ℕ) → length t ≡ 16 → ((j : ℕ) → j < 16 → get_or t j 0 ≤ 17) → get_or t w.place 0 ≤ 16
          → Ready n sizes w (with_cpa m.stamp m.values m.cost (with_threshold t u))
      down_ready e t len most own =
          let s : filled_to w.place sizes m.stamp ≡ true = rw (down_count e) at f.stamps in
          let v : filled_to w.place sizes m.values ≡ true = rw (down_count e) at f.values in
          let c : m.cost ≤ prefix_limit w.place = rw (down_count e) at (cost-most (carried_of Cpa m) refl m.cost f.cost) in
          let z : get_or m.values w.place 0 ≡ 0 = filled_past w.place sizes m.values v w.place (omega arith) k16 in
          record {
            arrays = record { threshold = len; best = a.best; estimates = a.estimates; stamp = q.stamp; values = q.values };
            threshold = most;
            own = own;
            estimates = r.estimates;
            bound = own_bound u r a;
            stamp = filled_off sizes m.stamp w.place q.stamp k16 w.place (omega arith) (omega arith) s;
            values = filled_off sizes m.values w.place q.values k16 w.place (omega arith) (omega arith) v;
            bare = omega arith;
            value = omega arith;
            tried = λ l. absurd (omega arith);
          }

      down_kept : ltb m.sender (suc w.place) ≡ true → (o : Ordering) → compare_on (suc w.place) m.stamp u.threshold ≡ o → Whenever (GoodDecision n sizes w 16) (on_down w o u m)
      down_kept e Less p = quiet-kept u r a
      down_kept e Equal p =
          let s : filled_to w.place sizes m.stamp ≡ true = rw (down_count e) at f.stamps in
          let own : get_or u.threshold w.place 0 ≤ 16 = omega (arith, equal_places (suc w.place) m.stamp u.threshold p w.place (omega arith), filled_past w.place sizes m.stamp s w.place (omega arith) k16) in
          let x : State = with_cpa m.stamp m.values m.cost u in
          resume-kept n sizes w g (take_bound m x) (ready_lower x (down_ready e u.threshold a.threshold r.threshold own) m.bound m.best q.best f.bound (ltb m.bound x.bound))
      down_kept e Greater p =
          let s : filled_to w.place sizes m.stamp ≡ true = rw (down_count e) at f.stamps in
          let most : (j : ℕ) → j < 16 → get_or m.stamp j 0 ≤ 16 = filled-most n w.place sizes m.stamp (omega (arith, g.place)) (size_most n sizes w g) s in
          let x : State = with_cpa m.stamp m.values m.cost (with_threshold m.stamp u) in
          resume-kept n sizes w g (take_bound m x) (ready_lower x (down_ready e m.stamp q.stamp (λ j l. omega (arith, most j l)) (most w.place k16)) m.bound m.best q.best f.bound (ltb m.bound x.bound))

      -- going back, it isn't smaller than the threshold, nor is the threshold smaller than it: the own places are equal
      own_threshold : 1 ≤ own_value w u → SamePlaces (suc w.place) m.stamp u.stamp → is_ge (compare_on (suc w.place) m.stamp u.threshold) ≡ true → get_or u.threshold w.place 0 ≤ 16
      own_threshold o same not-stale =
          let back : is_ge (compare_on (suc w.place) u.stamp u.threshold) ≡ true = rw (places_compare (suc w.place) m.stamp u.stamp u.threshold same) at not-stale in
          omega (arith, both_ways (suc w.place) u.threshold u.stamp (r.out o).threshold back w.place (omega arith), own-stamp-most u r a o)

      own-kept : is_ge (compare_on (suc w.place) m.stamp u.threshold) ≡ true → (t : Bool) → is_cpa_out w u m ≡ t → Whenever (GoodDecision n sizes w 16) (on_own w t u m)
      own-kept not-stale false p = tt
      own-kept not-stale true p =
          let e : _ = and_left _ _ p in
          let d : _ = and_left _ _ e in
          let o : 1 ≤ own_value w u = ltb-true 0 (own_value w u) (and_left _ _ d) in
          let same : SamePlaces (suc w.place) m.stamp u.stamp = same_places (suc w.place) m.stamp u.stamp (and_right (is_out w u) _ d) in
          resume-kept n sizes w g (take_bound m u) (ready_lower u (out_ready u r a o (own_threshold o same not-stale)) m.bound m.best q.best f.bound (ltb m.bound u.bound))

      back_kept : (o : Ordering) → compare_on (suc w.place) m.stamp u.threshold ≡ o → Whenever (GoodDecision n sizes w 16) (on_back w o u m)
      back_kept Less p = quiet-kept u r a
      back_kept Equal p = own-kept (ap is_ge p) (is_cpa_out w u m) refl
      back_kept Greater p = own-kept (ap is_ge p) (is_cpa_out w u m) refl

      cpa-kept : Whenever (GoodDecision n sizes w 16) (on_cpa w u m)
      unfolding on_cpa
      cpa-kept = go (ltb m.sender (suc w.place)) refl
        where
          go : (t : Bool) → ltb m.sender (suc w.place) ≡ t → Whenever (GoodDecision n sizes w 16) (on_either w t u m)
          go true e = down_kept e (compare_on (suc w.place) m.stamp u.threshold) refl
          go false e = back_kept (compare_on (suc w.place) m.stamp u.threshold) refl

    -- ---- requests

    module _ (f : Formed n sizes Request m) (from : Addressed n m) where
      earlier : m.sender < suc w.place
      earlier = ltb-true m.sender (suc w.place) (rw to at f.direction)

      reply_good : Sendable n sizes (packet Estimate (reply w m).message)
      reply_good =
          let limit : AtMost estimate_limit (estimate w m.values m.sender) =
          most_mono _ estimate_limit (estimate w m.values m.sender) (omega (arith, earlier, g.units, g.place, units_most n sizes w g)) (estimate-most w g.unary_small g.small g.looks m.values m.sender) in
          record {
            address = address_by n (reply w m).message (omega arith) g.place from.from from.from_most;
            form =
                formed_by n sizes Estimate (reply w m).message
                record { direction = lt-ltb m.sender (suc w.place) earlier; stamps = f.stamps; values = blank-filled sizes; cost = estimate-fits (reply w m).message (estimate w m.values m.sender) limit; bound = no_bound_by sizes 0 zeros refl (blank-filled sizes) };
            arrays = record { stamp = q.stamp; values = refl; best = refl; cost = estimate_32 (estimate w m.values m.sender) limit; bound = omega arith };
          }

      reply-kept : (x : State) → InRange sizes w x → SizedUnit x → GoodDecision n sizes w 16 x (reply w m) []
      unfolding packets
      reply-kept x rx ax =
          record {
            state = range_tests sizes w x rx;
            arrays = ax;
            sent = reply_sendable n sizes w.place (reply w m).message false reply_good;
            few = omega arith;
            records = omega arith;
          }

      fresh_request_kept : (o : Ordering) → compare_on w.place m.stamp u.threshold ≡ o → Whenever (GoodDecision n sizes w 16) (on_fresh w o u m)
      fresh_request_kept Less p = quiet-kept u r a
      fresh_request_kept Equal p = reply-kept u r a
      fresh_request_kept Greater p =
          let most : (j : ℕ) → j < 16 → get_or m.stamp j 0 ≤ 16 = filled-most n m.sender sizes m.stamp from.from_most (size_most n sizes w g) f.stamps in
          reply-kept (with_threshold m.stamp u)
          (same_cpa_range u r a m.stamp u.bound u.best u.estimates u.stopped (λ j l. omega (arith, most j l)) (own_bound u r a) r.estimates
          (λ o. ap is_ge (bigger_more w.place m.stamp u.stamp (bigger_than w.place m.stamp u.threshold u.stamp p (fewer_not_smaller w.place u.threshold u.stamp (r.out o).threshold)))))
          (same_cpa_arrays u r a m.stamp u.bound u.best u.estimates u.stopped q.stamp a.best a.estimates)

      request_kept : Whenever (GoodDecision n sizes w 16) (on_request w u m)
      unfolding on_request
      request_kept = fresh_request_kept (compare_on w.place m.stamp u.threshold) refl

    -- ---- estimates

    module _ (f : Formed n sizes Estimate m) (from : Addressed n m) where
      -- an estimate of NONE reaches every bound
      small_below : u.cost + sum_later w (stored m u).estimates < u.bound → m.cost ≤ estimate_limit
      small_below l =
          let later : suc w.place < m.sender = ltb-true (suc w.place) m.sender (rw to at f.direction) in
          let most : u.bound ≤ NONE = omega (arith, bound_32 n sizes u.bound u.best (own_bound u r a)) in
          ⊎_elim (λ (h : m.cost ≤ estimate_limit). h)
          (λ h. absurd (omega (arith, none_reaches w u m a.estimates (omega (arith, from, units_most n sizes w g)) later (omega (arith, from, g.units)) h.1 most)))
          (cost_or_none (carried_of Estimate m) m.cost f.cost)

      stored_range : m.cost ≤ estimate_limit → InRange sizes w (stored m u)
      stored_range h =
          same_cpa_range u r a u.threshold u.bound u.best (set u.estimates (m.sender - 1) m.cost) u.stopped r.threshold (own_bound u r a)
          (set_most estimate_limit u.estimates (m.sender - 1) m.cost a.estimates (omega (arith, from, units_most n sizes w g)) h r.estimates) (λ o. (r.out o).threshold)

      stored_arrays : SizedUnit (stored m u)
      stored_arrays = same_cpa_arrays u r a u.threshold u.bound u.best (set u.estimates (m.sender - 1) m.cost) u.stopped a.threshold a.best (rw length-set a.estimates)

      -- assigning clears the estimates, the one just stored too
      reached_kept : 1 ≤ own_value w u → get_or u.threshold w.place 0 ≤ 16 → (t : Bool) → leb u.bound (u.cost + sum_later w (stored m u).estimates) ≡ t
          → Whenever (GoodDecision n sizes w 16) (reached_by_estimates w t (stored m u))
      unfolding assign
      reached_kept o l true e = assign-kept n sizes w g u (out_ready u r a o l)
      reached_kept o l false e = quiet-kept (stored m u) (stored_range (small_below (leb-false u.bound (u.cost + sum_later w (stored m u).estimates) e))) stored_arrays

      own-estimate-kept : compare_on (suc w.place) m.stamp u.threshold ≡ Equal → (t : Bool) → (is_out w u && same_on (suc w.place) m.stamp u.stamp) ≡ t
          → Whenever (GoodDecision n sizes w 16) (on_own_estimate w t (stored m u))
      own-estimate-kept e false p = tt
      own-estimate-kept e true p =
          let o : 1 ≤ own_value w u = ltb-true 0 (own_value w u) (and_left _ _ p) in
          let same : get_or m.stamp w.place 0 ≡ get_or u.stamp w.place 0 = same_places (suc w.place) m.stamp u.stamp (and_right (is_out w u) _ p) w.place (omega arith) in
          let also : get_or m.stamp w.place 0 ≡ get_or u.threshold w.place 0 = equal_places (suc w.place) m.stamp u.threshold e w.place (omega arith) in
          reached_kept o (omega (arith, own-stamp-most u r a o)) (leb u.bound (u.cost + sum_later w (stored m u).estimates)) refl

      timely_kept : (o : Ordering) → compare_on (suc w.place) m.stamp u.threshold ≡ o → Whenever (GoodDecision n sizes w 16) (on_timely w o u m)
      timely_kept Less p = quiet-kept u r a
      timely_kept Equal p = own-estimate-kept p (is_out w u && same_on (suc w.place) m.stamp u.stamp) refl
      timely_kept Greater p = tt

      estimate-kept : Whenever (GoodDecision n sizes w 16) (on_estimate w u m)
      unfolding on_estimate
      estimate-kept = timely_kept (compare_on (suc w.place) m.stamp u.threshold) refl

    -- ---- solutions and stops

    solution_kept : none_or_bound n sizes m.bound m.best ≡ true → Whenever (GoodDecision n sizes w 16) (on_solution w u m)
    unfolding on_solution
    solution_kept h =
        let t : Bool = ltb m.bound u.bound in
        quiet-kept (take_bound m u) (lower_range u r a m.bound m.best h t) (lower_arrays u r a m.bound m.best q.best t)

    stop_kept : none_or_bound n sizes m.bound m.best ≡ true → Whenever (GoodDecision n sizes w 16) (on_stop w u m)
    unfolding on_stop
    stop_kept h =
        let t : Bool = ltb m.bound u.bound in
        let x : State = take_bound m u in
        let rx : InRange sizes w x = lower_range u r a m.bound m.best h t in
        let ax : SizedUnit x = lower_arrays u r a m.bound m.best q.best t in
        quiet-kept (same_cpa x x.threshold x.bound x.best x.estimates true)
        (same_cpa_range x rx ax x.threshold x.bound x.best x.estimates true rx.threshold (own_bound x rx ax) rx.estimates (λ o. (rx.out o).threshold))
        (same_cpa_arrays x rx ax x.threshold x.bound x.best x.estimates true ax.threshold ax.best ax.estimates)

  -- ---- any message

  pub respond-kept : (kind : Kind) (u : State) (m : Message) → in_range sizes w u ≡ true → SizedUnit u → Sendable n sizes (packet kind m) → m.receiver ≡ suc w.place
      → Whenever (GoodDecision n sizes w 16) (respond w kind u m)
  unfolding respond
  respond-kept kind u m e a p to = go u.stopped kind p
    where
      r : InRange sizes w u
      r = range_facts sizes w u e

      go : (s : Bool) (t : Kind) → Sendable n sizes (packet t m) → Whenever (GoodDecision n sizes w 16) (unless_stopped s w t u m)
      go true t p = tt
      go false Cpa p = cpa-kept u r a m p.arrays to (formed n sizes Cpa m p.form)
      go false Request p = request_kept u r a m p.arrays to (formed n sizes Request m p.form) (addressed n m p.address)
      go false Estimate p = estimate-kept u r a m p.arrays to (formed n sizes Estimate m p.form) (addressed n m p.address)
      go false Solution p = solution_kept u r a m p.arrays to (good_or_none n sizes m.bound m.best (formed n sizes Solution m p.form).bound)
      go false Stop p = stop_kept u r a m p.arrays to (formed n sizes Stop m p.form).bound

  -- ---- making

  pub fresh_arrays : SizedUnit fresh
  fresh_arrays = record { threshold = refl; best = refl; estimates = refl; stamp = refl; values = refl }

  fresh_bound : none_or_bound n sizes fresh.bound fresh.best ≡ true
  unfolding none_or_bound
  fresh_bound = blank-filled sizes

  fresh_range : InRange sizes w fresh
  fresh_range =
      record {
        threshold = λ j l. omega (arith, zeros_at j l);
        estimates = λ j l. omega (arith, zeros_at j l);
        bound = rw g.units fresh_bound;
        none = λ z. record { stamp = blank-filled sizes; values = blank-filled sizes; cost = refl };
        out = λ l. absurd (omega (arith, zeros_at w.place k16));
      }

  pub fresh_in_range : in_range sizes w fresh ≡ true
  fresh_in_range = range_tests sizes w fresh fresh_range

  -- unit 1 assigns: none is before it
  fresh_ready : w.place ≡ 0 → Ready n sizes w fresh
  fresh_ready z =
      record {
        arrays = fresh_arrays;
        threshold = fresh_range.threshold;
        own = omega (arith, zeros_at w.place k16);
        estimates = fresh_range.estimates;
        bound = fresh_bound;
        stamp = rw z (blank-filled sizes);
        values = rw z (blank-filled sizes);
        bare = omega arith;
        value = omega (arith, zeros_at w.place k16);
        tried = λ l. omega arith;
      }

  pub start-kept : (k : ℕ) → k ≡ w.place → Whenever (GoodDecision n sizes w 16) (start w k)
  start-kept zero e = assign-kept n sizes w g fresh (fresh_ready (sym e))
  start-kept (suc k) e = quiet-kept fresh fresh_range fresh_arrays
