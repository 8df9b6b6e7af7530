-- Assigning and backtracking keep a state in range and send what can be written, from a CPA in hand whose own value is off.
-- The threshold's own place is at most 16 before, so at most 17 after backtracking; the counter is at most the value tried. By recursion over
-- the values left. In order: what is kept; what a value written costs; backtrack; a value written; the values left; assign and resume. Assumes nothing.
use Prim.Native.Nat.{ℕ, zero, suc, ◌+◌, ◌*◌, ◌≤◌, ◌<◌}
use Rattle.std.specs.Prelude.{◌≡◌, Bool, cond, List, [], ◌∷◌, leb, eqb, length, set, Some}
use Rattle.std.proofs.Math.Path.{refl, ap}
use Rattle.std.proofs.Common.{sym, ◌∙◌, subst, arith, get_or-set_same, get_or-set_other, eqb-true}
use Rattle.std.proofs.Math.Bool.{true, false}
use Rattle.std.proofs.lemmas.Bool.{false≢true, eqb-false}
use Rattle.std.proofs.Math.ListN.{get_or, length-set}
use Rattle.std.specs.Ordering.{is_ge}
use Rattle.base.specs.Limits.{estimate_limit, pair_limit, unary_limit, prefix_limit}
use Rattle.base.specs.Members.{Every}
use Rattle.costs.specs.Cost.{Cost, ◌⊕◌, sum_to, below, as_number}
use Rattle.costs.specs.Cost.Laws.{AtMost, below_numbers, number_behind}
use Rattle.costs.specs.Instance.{View}
use Rattle.costs.specs.Order.{place_tried, next, left}
use Rattle.costs.specs.Order.Laws.{place-most, next_place, next-least, next-most}
use Rattle.costs.specs.Bounds.{cost_with, h}
use Rattle.costs.specs.Laws.{limit_next, limit_total}
use Rattle.costs.specs.Lent.Bounds.{cost-most}
use Rattle.message.specs.Message.{filled_to, bound_good, none_or_bound}
use Rattle.message.specs.Laws.{blank-filled, bound_by}
use Rattle.rules.specs.declared.Unit.{Unit as State}
use Rattle.rules.specs.declared.Sending.{Sending}
use Rattle.rules.specs.declared.Plan.TheVariants.{Forward}
use Rattle.rules.specs.State.{with_best, own_value, own_cost, in_range}
use Rattle.rules.specs.Step.{Decision, refused, accepted, Written, recorded, bare_cost, take_off, carried, backed_up, backtrack, write, record_of, after_write, try_after, begun, assign, resume}
use Rattle.rules.specs.Tests.{is_last, cost_at, try_value, reached_bound}
use Rattle.rules.specs.Send.{packets}
use Rattle.rules.specs.Laws.Views.{GoodView, units_most, place_16, size_most}
use Rattle.rules.specs.Laws.Stamps.{places_equal}
use Rattle.rules.specs.Laws.Filled.{filled-own, filled_off, filled-most, zeros_at, set_most, good_or_none, bound_32}
use Rattle.rules.specs.Laws.Range.{SizedUnit, InRange, range_tests}
use Rattle.rules.specs.Laws.Packets.{Sendable, Carries, Improved, forward_sendable, back_sendable, forward_few, back_few}

-- ---- what is kept

-- of what a unit decides, if it isn't a refusal
abbrev pub Whenever : (State → Sending → List Written → Type 0) → Decision → Type 0
Whenever P (refused r) = Unit {0}
Whenever P (accepted u s ws) = P u s ws

-- the state stays in range, all that is sent can be written and is at most 16 packets, at most `most` records are written
pub record GoodDecision (n : ℕ) (sizes : List ℕ) (w : View) (most : ℕ) (u : State) (s : Sending) (ws : List Written) : Type 0 where
  pub state : in_range sizes w u ≡ true
  pub arrays : SizedUnit u
  pub sent : Every (Sendable n sizes) (packets n w.place s)
  pub few : length (packets n w.place s) ≤ 16
  pub records : length ws ≤ most

module _ (n : ℕ) (sizes : List ℕ) (w : View) where
  pub kept_more : (m m' : ℕ) → m ≤ m' → (o : Decision) → Whenever (GoodDecision n sizes w m) o → Whenever (GoodDecision n sizes w m') o
  kept_more m m' l (refused r) h = tt
  kept_more m m' l (accepted u s ws) h = record { state = h.state; arrays = h.arrays; sent = h.sent; few = h.few; records = omega (arith, h.records) }

  kept_after : (m : ℕ) (r : Written) (o : Decision) → Whenever (GoodDecision n sizes w m) o → Whenever (GoodDecision n sizes w (suc m)) (recorded r o)
  kept_after m r (refused x) h = tt
  kept_after m r (accepted u s ws) h = record { state = h.state; arrays = h.arrays; sent = h.sent; few = h.few; records = omega (arith, h.records) }

-- a CPA in hand, the own value off
pub record InHand (n : ℕ) (sizes : List ℕ) (w : View) (u : State) : Type 0 where
  pub arrays : SizedUnit u
  pub threshold : (j : ℕ) → j < 16 → get_or u.threshold j 0 ≤ 17
  pub own : get_or u.threshold w.place 0 ≤ 16
  pub estimates : (j : ℕ) → j < 16 → get_or u.estimates j 0 ≤ estimate_limit
  pub bound : none_or_bound n sizes u.bound u.best ≡ true
  pub stamp : filled_to w.place sizes u.stamp ≡ true
  pub values : filled_to w.place sizes u.values ≡ true
  pub cost : u.cost ≤ prefix_limit w.place

-- ---- what a value written costs

module _ (w : View) where
  -- the cost of a value with the units before doesn't ask for the own place
  sum_set : (l : List ℕ) (a x k m : ℕ) → m ≤ k → sum_to (λ j. w.pair j (get_or (set l k a) j 0) x) m ≡ sum_to (λ j. w.pair j (get_or l j 0) x) m
  sum_set l a x k zero h = refl
  sum_set l a x k (suc m) h = rw (sum_set l a x k m (omega arith), get_or-set_other l k m a 0 (λ z. omega arith))

  pub cost_set : (l : List ℕ) (a x : ℕ) → cost_with w (set l w.place a) w.place x ≡ cost_with w l w.place x
  unfolding cost_with
  cost_set l a x = ap (λ (c : Cost). Some (w.unary x) ⊕ c) (sum_set l a x w.place w.place (omega arith))

  pub paid_written : (u : State) (x c : ℕ) → w.place < length u.values → own_cost w (write w x c u) ≡ as_number (cost_with w u.values w.place x)
  paid_written u x c l = rw (get_or-set_same u.values w.place x 0 l) (ap as_number (cost_set u.values x x))

module _ (n : ℕ) (sizes : List ℕ) (w : View) (g : GoodView n sizes w) where
  k16 : w.place < 16
  k16 = place_16 n sizes w g

  -- ---- what the messages carry

  carries : (u : State) (c : ℕ) → c ≤ 16 → SizedUnit u → filled_to c sizes u.stamp ≡ true → filled_to c sizes u.values ≡ true → u.cost ≤ prefix_limit c
      → none_or_bound n sizes u.bound u.best ≡ true → Carries n sizes w.place c (carried w u)
  carries u c l a s v p b =
      record {
        sender = refl;
        stamp = s;
        values = v;
        cost = p;
        bound = b;
        arrays = record { stamp = a.stamp; values = a.values; best = a.best; cost = omega (arith, limit_total c l); bound = bound_32 n sizes u.bound u.best b };
      }

  -- ---- backtrack

  pub backtrack-kept : (u : State) → InHand n sizes w u → (b : Bool) → Improved n sizes w.place u.bound u.best b → Whenever (GoodDecision n sizes w 0) (backtrack w b u)
  unfolding backtrack packets
  backtrack-kept u i b imp =
      record {
        state =
            range_tests sizes w (backed_up w u)
            record {
              threshold = set_most 17 u.threshold w.place (suc (get_or u.threshold w.place 0)) i.arrays.threshold k16 (omega (arith, i.own)) i.threshold;
              estimates = λ j l. omega (arith, zeros_at j l);
              bound = rw g.units i.bound;
              none = λ z. record { stamp = blank-filled sizes; values = blank-filled sizes; cost = refl };
              out = λ l. absurd (omega (arith, zeros_at w.place k16));
            };
        arrays = record { threshold = rw length-set i.arrays.threshold; best = i.arrays.best; estimates = refl; stamp = refl; values = refl };
        sent = back_sendable n sizes w.place w.place (carried w u) g.place (carries u w.place (omega (arith, k16)) i.arrays i.stamp i.values i.cost i.bound) refl b imp;
        few = omega (arith, units_most n sizes w g, back_few n w.place (carried w u) g.place b (λ e. (imp e).0));
        records = omega arith;
      }

  -- ---- a value written

  -- value x, one of the unit's, whose place is past the counter
  module _ (u : State) (x : ℕ) (i : InHand n sizes w u) (least : 1 ≤ x) (most : x ≤ get_or sizes w.place 0) (tried : u.counter < place_tried w x)
      (number : cost_with w u.values w.place x ≡ Some (as_number (cost_with w u.values w.place x))) where
    abbrev next-cost : ℕ
    next-cost = as_number (cost_at w x u)

    next_is : next-cost ≡ u.cost + as_number (cost_with w u.values w.place x)
    next_is = ap (λ (c : Cost). as_number (Some u.cost ⊕ c)) number

    abbrev written : State
    written = write w x next-cost u

    place_in : place_tried w x ≤ get_or sizes w.place 0
    place_in = rw g.dom at (place-most w x (omega (arith, g.dom)))

    stamp-filled : filled_to (suc w.place) sizes written.stamp ≡ true
    stamp-filled = filled-own sizes u.stamp w.place i.arrays.stamp k16 (suc u.counter) (omega arith) (omega (arith, place_in)) i.stamp

    values-filled : filled_to (suc w.place) sizes written.values ≡ true
    values-filled = filled-own sizes u.values w.place i.arrays.values k16 x least most i.values

    own_is : own_value w written ≡ x
    own_is = get_or-set_same u.values w.place x 0 (omega (arith, i.arrays.values, k16))

    own-stamp : get_or written.stamp w.place 0 ≡ suc u.counter
    own-stamp = get_or-set_same u.stamp w.place (suc u.counter) 0 (omega (arith, i.arrays.stamp, k16))

    paid_is : own_cost w written ≡ as_number (cost_with w u.values w.place x)
    paid_is = paid_written w u x next-cost (omega (arith, i.arrays.values, k16))

    bare_is : bare_cost w written ≡ u.cost
    bare_is = omega (arith, paid_is, next_is)

    cost_limit : next-cost ≤ prefix_limit (suc w.place)
    cost_limit =
        let paid : as_number (cost_with w u.values w.place x) ≤ unary_limit + pair_limit * w.place =
        subst (λ c. AtMost (unary_limit + pair_limit * w.place) c) number (cost-most w g.unary_small g.small u.values w.place x) in
        omega (arith, i.cost, paid, next_is, limit_next w.place)

    stamp-most : (j : ℕ) → j < 16 → get_or written.stamp j 0 ≤ 16
    stamp-most = filled-most n (suc w.place) sizes written.stamp g.place (size_most n sizes w g) stamp-filled

    written_arrays : SizedUnit written
    written_arrays =
        record {
          threshold = rw length-set i.arrays.stamp;
          best = i.arrays.best;
          estimates = i.arrays.estimates;
          stamp = rw length-set i.arrays.stamp;
          values = rw length-set i.arrays.values;
        }

    written_range : InRange sizes w written
    written_range =
        record {
          threshold = λ j l. omega (arith, stamp-most j l);
          estimates = i.estimates;
          bound = rw g.units i.bound;
          none = λ z. absurd (omega (arith, own_is, least));
          out = λ l.
              record {
                stamp = stamp-filled;
                values = values-filled;
                cost = cost_limit;
                counter = sym own-stamp;
                tried = rw own_is tried;
                threshold = ap is_ge (places_equal (suc w.place) written.stamp written.stamp (λ j b. refl));
                paid = omega (arith, paid_is, next_is);
                bare = omega (arith, bare_is, i.cost);
              };
        }

    forward_kept : suc w.place < n → GoodDecision n sizes w 1 written (record { plan = Forward; improved = false; message = carried w written }) (record_of w written ∷ [])
    unfolding packets
    forward_kept l =
        record {
          state = range_tests sizes w written written_range;
          arrays = written_arrays;
          sent = forward_sendable n sizes w.place (suc w.place) (carried w written) g.place (carries written (suc w.place) (omega (arith, k16)) written_arrays stamp-filled values-filled cost_limit i.bound) refl l false;
          few = omega (arith, units_most n sizes w g, forward_few n w.place (carried w written) g.place false);
          records = omega arith;
        }

    -- unit n takes it as its best, and takes it off again
    abbrev taken : State
    taken = take_off w (with_best written.cost written.values written)

    best_good : suc w.place ≡ n → bound_good n sizes taken.bound taken.best ≡ true
    best_good l = bound_by n sizes next-cost written.values (omega (arith, cost_limit, limit_total (suc w.place) (omega (arith, k16)))) (rw (← l) values-filled)

    taken_in_hand : suc w.place ≡ n → InHand n sizes w taken
    taken_in_hand l =
        record {
          arrays =
              record {
                threshold = written_arrays.threshold;
                best = written_arrays.values;
                estimates = i.arrays.estimates;
                stamp = rw length-set written_arrays.stamp;
                values = rw length-set written_arrays.values;
              };
          threshold = λ j b. omega (arith, stamp-most j b);
          own = stamp-most w.place k16;
          estimates = i.estimates;
          bound = good_or_none n sizes taken.bound taken.best (best_good l);
          stamp = filled_off sizes written.stamp w.place written_arrays.stamp k16 (suc w.place) (omega arith) (omega arith) stamp-filled;
          values = filled_off sizes written.values w.place written_arrays.values k16 (suc w.place) (omega arith) (omega arith) values-filled;
          cost = omega (arith, bare_is, i.cost);
        }

  -- ---- the values left

  last_or_not : (b : Bool) → is_last w ≡ b → (b ≡ true → suc w.place ≡ n) × (b ≡ false → suc w.place < n)
  last_or_not true e = (λ q. eqb-true (suc w.place) w.n e ∙ g.units, λ q. absurd (false≢true (sym q)))
  last_or_not false e = (λ q. absurd (false≢true q), λ q. below (eqb-false (suc w.place) w.n e))
    where
      below : (suc w.place ≡ w.n → ⊥) → suc w.place < n
      below d = omega (arith, g.place, g.units)

  -- one value tried, where those after it keep what is to be kept
  module _ (m : ℕ) (again : Bool → State → Decision) (x : ℕ) (least : 1 ≤ x) (most : x ≤ get_or sizes w.place 0)
      (next : (b : Bool) (u : State) → InHand n sizes w u → u.counter ≤ place_tried w x → Improved n sizes w.place u.bound u.best b → Whenever (GoodDecision n sizes w m) (again b u)) where
    after_write-kept : (u : State) (i : InHand n sizes w u) (tried : u.counter < place_tried w x)
        (number : cost_with w u.values w.place x ≡ Some (as_number (cost_with w u.values w.place x))) (b : Bool) → is_last w ≡ b
        → Whenever (GoodDecision n sizes w (suc m)) (after_write w b (write w x (as_number (cost_at w x u)) u) again)
    after_write-kept u i tried number true e =
        let l : suc w.place ≡ n = (last_or_not true e).0 refl in
        kept_after n sizes w m (record_of w (written u x i least most tried number)) (again true (taken u x i least most tried number))
        (next true (taken u x i least most tried number) (taken_in_hand u x i least most tried number l) (omega arith) (λ z. (l, best_good u x i least most tried number l)))
    after_write-kept u i tried number false e =
        kept_more n sizes w 1 (suc m) (omega arith) (accepted _ _ _) (forward_kept u x i least most tried number ((last_or_not false e).1 refl))

    try_kept : (u : State) → InHand n sizes w u → u.counter < place_tried w x → (b : Bool) → Improved n sizes w.place u.bound u.best b
        → (t : Bool) → below (cost_at w x u ⊕ h w x) u.bound ≡ t
        → Whenever (GoodDecision n sizes w (suc m)) (try_value w t x (as_number (cost_at w x u)) b u again)
    try_kept u i tried b imp true e =
        after_write-kept u i tried (number_behind u.cost (cost_with w u.values w.place x) (below_numbers (cost_at w x u) (h w x) u.bound e)) (is_last w) refl
    try_kept u i tried b imp false e = kept_more n sizes w m (suc m) (omega arith) (again b u) (next b u i (omega arith) imp)

  pub values-kept : (m v : ℕ) → m + place_tried w v ≡ get_or sizes w.place 0 → (b : Bool) (u : State) → InHand n sizes w u → u.counter ≤ place_tried w v → Improved n sizes w.place u.bound u.best b
      → Whenever (GoodDecision n sizes w m) (try_after w m v b u)
  unfolding try_after
  values-kept zero v e b u i tried imp = backtrack-kept u i b imp
  values-kept (suc m) v e b u i tried imp =
      let more : place_tried w v < w.dom w.place = omega (arith, g.dom) in
      let up : place_tried w (next w v) ≡ suc (place_tried w v) = next_place w v more in
      try_kept m (λ (b : Bool) (t : State). try_after w m (next w v) b t) (next w v) (next-least w v more) (rw g.dom at (next-most w v))
      (λ b u i tried imp. values-kept m (next w v) (omega (arith, up)) b u i tried imp) u i (omega (arith, up)) b imp
      (below (cost_at w (next w v) u ⊕ h w (next w v)) u.bound) refl

-- ---- assign and resume

-- a CPA in hand, with its own value or without
pub record Ready (n : ℕ) (sizes : List ℕ) (w : View) (u : State) : Type 0 where
  pub arrays : SizedUnit u
  pub threshold : (j : ℕ) → j < 16 → get_or u.threshold j 0 ≤ 17
  pub own : get_or u.threshold w.place 0 ≤ 16
  pub estimates : (j : ℕ) → j < 16 → get_or u.estimates j 0 ≤ estimate_limit
  pub bound : none_or_bound n sizes u.bound u.best ≡ true
  pub stamp : filled_to w.place sizes (set u.stamp w.place 0) ≡ true
  pub values : filled_to w.place sizes (set u.values w.place 0) ≡ true
  pub bare : bare_cost w u ≤ prefix_limit w.place
  pub value : own_value w u ≤ get_or sizes w.place 0
  pub tried : 1 ≤ own_value w u → u.counter ≤ place_tried w (own_value w u)

module _ (n : ℕ) (sizes : List ℕ) (w : View) (g : GoodView n sizes w) (u : State) (r : Ready n sizes w u) where
  begun_in_hand : InHand n sizes w (begun w u)
  begun_in_hand =
      record {
        arrays = record { threshold = r.arrays.threshold; best = r.arrays.best; estimates = refl; stamp = rw length-set r.arrays.stamp; values = rw length-set r.arrays.values };
        threshold = r.threshold;
        own = r.own;
        estimates = λ j l. omega (arith, zeros_at j l);
        bound = r.bound;
        stamp = r.stamp;
        values = r.values;
        cost = r.bare;
      }

  off_in_hand : InHand n sizes w (take_off w u)
  off_in_hand =
      record {
        arrays = record { threshold = r.arrays.threshold; best = r.arrays.best; estimates = r.arrays.estimates; stamp = rw length-set r.arrays.stamp; values = rw length-set r.arrays.values };
        threshold = r.threshold;
        own = r.own;
        estimates = r.estimates;
        bound = r.bound;
        stamp = r.stamp;
        values = r.values;
        cost = r.bare;
      }

  -- 01: "if the paper has no own value the counter becomes 0"
  begun-tried : (begun w u).counter ≤ place_tried w (own_value w u)
  begun-tried = go (eqb (own_value w u) 0) refl
    where
      go : (t : Bool) → eqb (own_value w u) 0 ≡ t → cond t 0 u.counter ≤ place_tried w (own_value w u)
      go true e = omega arith
      go false e = r.tried (nonzero (own_value w u) (eqb-false (own_value w u) 0 e))
        where
          nonzero : (x : ℕ) → (x ≡ 0 → ⊥) → 1 ≤ x
          nonzero x d = omega arith

  pub assign-kept : Whenever (GoodDecision n sizes w 16) (assign w u)
  unfolding assign
  assign-kept =
      let d : left w (own_value w u) + place_tried w (own_value w u) ≡ get_or sizes w.place 0 = omega (arith, g.dom, place-most w (own_value w u) (omega (arith, g.dom, r.value))) in
      kept_more n sizes w (left w (own_value w u)) 16 (omega (arith, g.dom, size_most n sizes w g w.place g.place))
      (try_after w (left w (own_value w u)) (own_value w u) false (begun w u))
      (values-kept n sizes w g (left w (own_value w u)) (own_value w u) d false (begun w u) begun_in_hand begun-tried (λ e. absurd (false≢true e)))

  pub resume-kept : Whenever (GoodDecision n sizes w 16) (resume w u)
  unfolding resume
  resume-kept = go (leb u.bound (bare_cost w u))
    where
      go : (t : Bool) → Whenever (GoodDecision n sizes w 16) (reached_bound w t u)
      go true = kept_more n sizes w 0 16 (omega arith) (backtrack w false (take_off w u)) (backtrack-kept n sizes w g (take_off w u) off_in_hand false (λ e. absurd (false≢true e)))
      go false = assign-kept
