-- Each message: the unit decides what the machine's step gives (`step_agrees`), for a message and a state that correspond to the
-- machine's, where the machine's invariants hold. The two compare stamps alike (Stamps.antt), so they take the same branch.
-- In order: what holds of the unit; CPAs going down and back; requests; estimates; solutions and stops; any message.
-- Assumes nothing.
use Prim.Native.Nat.{ℕ, zero, suc, ◌+◌, ◌*◌, ◌-◌, ◌/◌, ◌^◌, ◌≤◌, ◌<◌}
use Rattle.std.specs.Prelude.{◌≡◌, Bool, true, false, cond, ◌&&◌, List, [], ◌∷◌, ltb, leb, eqb, length, get_or, set, Some}
use Rattle.std.proofs.Math.Path.{refl, subst}
use Rattle.std.proofs.Common.{sym, ap, ◌∙◌, arith, length-set, get_or-set_same, get_or-set_other, ltb-true, ltb-false, eqb-true, lt-ltb, le-ltb}
use Rattle.std.proofs.Math.Nat.{sub-zero}
use Rattle.std.proofs.lemmas.Bool.{eqb-false}
use Rattle.base.specs.Sums.{sum_from}
use Rattle.costs.specs.declared.ValueOrder.{ValueOrder}
use Rattle.costs.specs.Cost.{as_number}
use Rattle.costs.specs.Cost.Laws.{number_eq, taken_off}
use Rattle.costs.specs.Instance.{Instance, view_by}
use Rattle.costs.specs.Bounds.{cost_with, estimate}
use Rattle.costs.specs.Problem.{Laws}
use Rattle.costs.specs.Order.{value_at}
use Rattle.costs.specs.Order.Laws.{value_of_none, value_least}
use Rattle.costs.specs.Laws.{against, cost_of, estimate_of}
use Rattle.costs.specs.Laws.Tried.{values_at, problem_by}
use Rattle.costs.specs.Laws.Prefix.{pre, cost_with_prefix, cost-next, estimate_prefix}
use Rattle.message.specs.declared.Message.{Message}
use Rattle.message.specs.declared.Kind.TheVariants.{Estimate}
use Rattle.message.specs.Message.{Packet}
use Rattle.rules.specs.declared.Unit.{Unit as UnitState}
use Rattle.std.specs.declared.cmp.Ordering.{Ordering}
use Rattle.std.specs.declared.cmp.Ordering.TheVariants.{Less, Equal, Greater}
use Rattle.rules.specs.State.{with_threshold, with_cpa, with_estimates, with_stopped, own_value, compare_on, same_on}
use Rattle.rules.specs.Step as U
use Rattle.rules.specs.Step.{accepted, take_bound, reply}
use Rattle.rules.specs.Tests.{stored, sum_later, take_lower, on_either, reached_by_estimates, unless_stopped, on_own}
use Rattle.rules.specs.Send.{packets}
use Rattle.protocol.specs.Problem.{NONE, valid_le_none}
use Rattle.protocol.specs.Machine as M
use Rattle.protocol.specs.Machine.{Msg, Agent}
use Rattle.protocol.specs.Tests.{eqb_same, and_true, same_refl}
use Rattle.protocol.specs.Walk.{recount_out}
use Rattle.protocol.specs.Safety.Facts.{History, OnLog, ValidMsg, Before, Good}
use Rattle.protocol.proofs.Safety.Step.{the_cpa_out}
use Rattle.protocol.specs.Simulation.Stamps.{rank, Digits, filled_more, rank-pad, Compared, order_of_ranks, same_ranks, same_prefixes}
use Rattle.protocol.specs.Simulation.Relations.{StampIs, ValuesAre, prefix_length, BestIs, Reads, AtRest, InHand, Agrees}
use Rattle.protocol.proofs.Simulation.Assign.{less_test, most_test}
use Rattle.protocol.proofs.Simulation.Resume.{ReadyToAssign, assign_agrees, lower_log, resume-lower}
use Rattle.protocol.specs.Simulation.Step.{FreeWhenUnassigned}

against_unassigned : (I : Instance) → FreeWhenUnassigned I → (j : ℕ) (b : List ℕ) → against I j 0 b ≡ Some 0
against_unassigned I free j [] = ap (λ x. Some x) (free.0 j)
against_unassigned I free j (u ∷ b) = rw (free.1 (length b) u j, against_unassigned I free j b)

-- What the theory knows of its unit: it is good, and the message is valid.
module _ (order : ValueOrder) (I : Instance) (free : FreeWhenUnassigned I) (laws : Laws (problem_by order I)) (n16 : I.n ≤ 16) (k : ℕ) (k<n : k < I.n) (Past : History) (X : ℕ)
    (bf : Before (problem_by order I) k Past X) (s : UnitState) (u : Agent) (r : AtRest order I k s u) (g : Good (problem_by order I) k Past X u)
    (own : (x : ℕ) (b : List ℕ) → Past (suc k) x b → OnLog u.log x b) where
  k16 : k < 16
  k16 = omega (arith, k<n, n16)

  -- its bound is none or less
  most : u.bound ≤ NONE
  most = valid_le_none (problem_by order I) u.best g.valid

  -- ---- the unit

  unchanged : Agrees order I k u.log (U.quiet s) (M.done u [])
  unfolding packets
  unchanged = (r, tt, refl)

  -- the values of the CPA out
  out_values : 1 ≤ u.own → pre (suc k) s.values ≡ values_at order I (M.values u)
  out_values o =
      let e : length u.prefix ≡ k = prefix_length order I k s.values u.prefix (r.cpa.prefix o) in
      (λ i. r.cpa.own i ∷ r.cpa.prefix o i) ∙ (λ i. value_at (view_by order I (sym e i)) u.own ∷ values_at order I u.prefix)

  -- the CPA out, taken in hand
  out_in_hand : 1 ≤ u.own → InHand order I k s u
  out_in_hand o =
      record {
        common = r.common;
        hand = record {
          own = r.cpa.own;
          stamp-filled = r.cpa.stamp-filled;
          stamp_digits = r.cpa.stamp_digits;
          prefix_stamp = r.cpa.prefix_stamp o;
          values-filled = r.cpa.values-filled;
          prefix = r.cpa.prefix o;
          cost_is =
              let a : cost_of I (own_value (view_by order I k) s ∷ pre k s.values) ≡ Some s.cost = ap (cost_of I) (out_values o) ∙ sym (r.cpa.cost_is o) in
              let b : cost_of I (pre k s.values) ≡ cost_of I (values_at order I u.prefix) = ap (cost_of I) (r.cpa.prefix o) in
              taken_off s.cost (cost_of I (pre k s.values)) (cost_with (view_by order I k) s.values k (own_value (view_by order I k) s)) (sym a ∙ sym (cost-next order I k s.values (own_value (view_by order I k) s))) ∙ b;
        };
      }

  out_ready : 1 ≤ u.own → u.threshold ≡ M.stamp u → ReadyToAssign order I k k16 u
  out_ready o e =
      let p = g.cpa o in
      let c = recount_out u.own u.counter o in
      (omega (arith, e, c), omega (arith, c, p.counter, p.own, laws.size_le_16 k), most, p.own)

  -- a message's stamp against the threshold
  against_threshold : (l : List ℕ) (x : ℕ) → Digits l → rank (suc k) l ≡ x → Compared (compare_on (suc k) l s.threshold) x u.threshold
  against_threshold l x d e =
      subst (λ z. Compared (compare_on (suc k) l s.threshold) z u.threshold) e
      (subst (λ z. Compared (compare_on (suc k) l s.threshold) (rank (suc k) l) z) r.common.threshold_is (order_of_ranks (suc k) l s.threshold d r.common.digits))

  -- ---- a CPA going down

  received_in_hand : (m : Message) (t : List ℕ) (x : ℕ) (b : List ℕ) → length t ≡ 16 → Digits t → rank (suc k) t ≡ x * 32 → StampIs k m.stamp x → ValuesAre order I k m.values b
      → Some m.cost ≡ cost_of I (values_at order I b) → InHand order I k (with_cpa m.stamp m.values m.cost (with_threshold t s)) (M.received x b u)
  received_in_hand m t x b len d e st vs ec =
      record {
        common = record { size = len; digits = d; threshold_is = e; bound_is = r.common.bound_is; best_is = r.common.best_is; counter_is = r.common.counter_is; stopped_is = r.common.stopped_is };
        hand = record {
          own = none ∙ sym (value_of_none (view_by order I k));
          stamp-filled = filled_more m.stamp k (suc k) (omega arith) st.filled;
          stamp_digits = st.digits;
          prefix_stamp = st.is;
          values-filled = filled_more m.values k (suc k) (omega arith) vs.filled;
          prefix = vs.are;
          cost_is =
              rw (none, cost_with_prefix order I k m.values k 0 (omega arith), against_unassigned I free k (pre k m.values), sub-zero) ec;
        };
      }
    where
      none : get_or m.values k 0 ≡ 0
      none = vs.filled.rest k (omega arith)

  down_agrees : (p : Packet) (x : ℕ) (b : List ℕ) (B : ℕ) (l : List ℕ) → Reads order I p (M.down k x b B l)
      → Agrees order I k u.log (U.by_kind (view_by order I k) p.kind s p.message) (M.step (problem_by order I) u (M.down k x b B l))
  unfolding U.on_cpa
  down_agrees p x b B l h =
      subst (λ o. Agrees order I k u.log o (M.step (problem_by order I) u (M.down k x b B l))) (sym goes_down)
      (go (compare_on (suc k) m.stamp s.threshold) (ltb (x * 32) u.threshold) (against_threshold m.stamp (x * 32) h.3.digits places) refl)
    where
      m : Message
      m = p.message

      places : rank (suc k) p.message.stamp ≡ x * 32
      places = omega (arith, h.3.is, h.3.filled.rest k (omega arith))

      goes_down : U.by_kind (view_by order I k) p.kind s p.message ≡ U.on_down (view_by order I k) (compare_on (suc k) p.message.stamp s.threshold) s p.message
      goes_down = (λ i. U.by_kind (view_by order I k) (h.0 i) s p.message) ∙ (λ i. on_either (view_by order I k) (lt-ltb p.message.sender (suc k) h.2 i) s p.message)

      ready : ReadyToAssign order I k k16 (M.received x b u)
      ready = (omega arith, omega (arith, laws.size_le_16 k), most, omega arith)

      go : (o : Ordering) (t : Bool) → Compared o (x * 32) u.threshold → ltb (x * 32) u.threshold ≡ t
          → Agrees order I k u.log (U.on_down (view_by order I k) o s p.message) (M.on_down (problem_by order I) k t u x b B l)
      go Less true c e = unchanged
      go Less false c e = absurd (omega (arith, c, ltb-false (x * 32) u.threshold e))
      go Equal true c e = absurd (omega (arith, c, ltb-true (x * 32) u.threshold e))
      go Greater true c e = absurd (omega (arith, c, ltb-true (x * 32) u.threshold e))
      go Equal false c e =
          resume-lower order I k k16 (with_cpa p.message.stamp p.message.values p.message.cost s) (M.received x b u) p.message B l h.6 h.7
          (received_in_hand p.message s.threshold x b r.common.size r.common.digits (r.common.threshold_is ∙ sym c) h.3 h.4 h.5) ready
      go Greater false c e =
          resume-lower order I k k16 (with_cpa p.message.stamp p.message.values p.message.cost (with_threshold p.message.stamp s)) (M.received x b u) p.message B l h.6 h.7
          (received_in_hand p.message p.message.stamp x b h.3.filled.size h.3.digits places h.3 h.4 h.5) ready

  -- ---- a CPA going back: the machine's invariants say that it is the CPA out

  out_places : 1 ≤ u.own → rank (suc k) s.stamp ≡ M.stamp u
  out_places o = omega (arith, r.cpa.prefix_stamp o, r.cpa.own-stamp o)

  is_out_lem : 1 ≤ u.own → U.is_out (view_by order I k) s ≡ true
  is_out_lem o = lt-ltb 0 (own_value (view_by order I k) s) (omega (arith, r.cpa.own, value_least (view_by order I k) u.own o (g.cpa o).own))

  back_agrees : (p : Packet) (x : ℕ) (b : List ℕ) (B : ℕ) (l : List ℕ) → Reads order I p (M.back k x b B l) → ValidMsg (problem_by order I) Past (M.back k x b B l)
      → Agrees order I k u.log (U.by_kind (view_by order I k) p.kind s p.message) (M.step (problem_by order I) u (M.back k x b B l))
  unfolding U.on_cpa
  back_agrees p x b B l h ok =
      subst (λ o. Agrees order I k u.log o (M.step (problem_by order I) u (M.back k x b B l))) (sym goes_back)
      (go (compare_on (suc k) p.message.stamp s.threshold) (ltb x u.threshold) (against_threshold p.message.stamp x h.3.digits h.3.is) refl)
    where
      goes_back : U.by_kind (view_by order I k) p.kind s p.message ≡ U.on_back (view_by order I k) (compare_on (suc k) p.message.stamp s.threshold) s p.message
      goes_back = (λ i. U.by_kind (view_by order I k) (h.0 i) s p.message) ∙ (λ i. on_either (view_by order I k) (le-ltb p.message.sender (suc k) (omega (arith, h.2)) i) s p.message)

      of_cpa_out : u.threshold ≤ x
          → Agrees order I k u.log (on_own (view_by order I k) (U.is_cpa_out (view_by order I k) s p.message) s p.message) (M.on_back_same (problem_by order I) k (M.is_cpa_out u x b) u B l)
      of_cpa_out le =
          subst (λ t. Agrees order I k u.log (on_own (view_by order I k) t s p.message) (M.on_back_same (problem_by order I) k (M.is_cpa_out u x b) u B l)) (sym units)
          (subst (λ t. Agrees order I k u.log (on_own (view_by order I k) true s p.message) (M.on_back_same (problem_by order I) k t u B l)) (sym machines)
          (resume-lower order I k k16 s u p.message B l h.6 h.7 (out_in_hand sm.0) (out_ready sm.0 (sm.3 ∙ sm.1))))
        where
          sm : (1 ≤ u.own) × (x ≡ M.stamp u) × (b ≡ M.values u) × (u.threshold ≡ x)
          sm = the_cpa_out (problem_by order I) laws k k<n Past X bf u x b g (own x b ok.1) le

          units : U.is_cpa_out (view_by order I k) s p.message ≡ true
          units =
              and_true
              (and_true
              (and_true (is_out_lem sm.0)
              (same_ranks (suc k) p.message.stamp s.stamp h.3.digits r.cpa.stamp_digits (h.3.is ∙ sm.1 ∙ sym (out_places sm.0))))
              (same_prefixes (suc k) p.message.values s.values (h.4.are ∙ ap (values_at order I) sm.2 ∙ sym (out_values sm.0))))
              (subst (λ z. eqb p.message.cost z ≡ true) (number_eq p.message.cost s.cost (h.5 ∙ ap (λ z. cost_of I (values_at order I z)) sm.2 ∙ sym (r.cpa.cost_is sm.0))) (eqb_same p.message.cost))

          machines : M.is_cpa_out u x b ≡ true
          machines =
              and_true (lt-ltb 0 u.own sm.0)
              (and_true (subst (λ z. eqb x z ≡ true) sm.1 (eqb_same x)) (subst (λ z. M.same_list b z ≡ true) sm.2 (same_refl b)))

      go : (o : Ordering) (t : Bool) → Compared o x u.threshold → ltb x u.threshold ≡ t → Agrees order I k u.log (U.on_back (view_by order I k) o s p.message) (M.on_back (problem_by order I) k t u x b B l)
      go Less true c e = unchanged
      go Less false c e = absurd (omega (arith, c, ltb-false x u.threshold e))
      go Equal true c e = absurd (omega (arith, c, ltb-true x u.threshold e))
      go Greater true c e = absurd (omega (arith, c, ltb-true x u.threshold e))
      go Equal false c e = of_cpa_out (ltb-false x u.threshold e)
      go Greater false c e = of_cpa_out (ltb-false x u.threshold e)

  -- ---- a request

  reply_reads : (p : Packet) (j x : ℕ) (b : List ℕ) → Reads order I p (M.request k j x b) → j < k
      → Reads order I (record { kind = Estimate; message = (reply (view_by order I k) p.message).message }) (M.estimate j k x (as_number (estimate_of I k (values_at order I b))))
  reply_reads p j x b h lt = (
    refl,
    h.2,
    refl,
    h.3,
    ap as_number (ap (λ i. estimate (view_by order I k) p.message.values i) h.2 ∙ estimate_prefix order I k p.message.values (suc j) lt ∙ ap (estimate_of I k) h.4.are),
  )

  request_agrees : (p : Packet) (j x : ℕ) (b : List ℕ) → Reads order I p (M.request k j x b) → j < k
      → Agrees order I k u.log (U.by_kind (view_by order I k) p.kind s p.message) (M.step (problem_by order I) u (M.request k j x b))
  unfolding U.on_request packets
  request_agrees p j x b h lt =
      subst (λ o. Agrees order I k u.log o (M.step (problem_by order I) u (M.request k j x b))) (λ i. U.by_kind (view_by order I k) (sym h.0 i) s p.message)
      (go (compare_on k p.message.stamp s.threshold) (ltb t (u.threshold / 32)) (ltb (u.threshold / 32) t)
      (subst (λ z. Compared (compare_on k p.message.stamp s.threshold) z (u.threshold / 32)) places
      (subst (λ z. Compared (compare_on k p.message.stamp s.threshold) (rank k p.message.stamp) z) before
      (order_of_ranks k p.message.stamp s.threshold h.3.digits r.common.digits)))
      refl refl)
    where
      t : ℕ
      t = M.pad (k - suc j) x

      places : rank k p.message.stamp ≡ M.pad (k - suc j) x
      places =
          let e : suc j + (k - suc j) ≡ k = omega arith in
          subst (λ z. rank z p.message.stamp ≡ rank (suc j) p.message.stamp * 32 ^ (k - suc j)) e (rank-pad (k - suc j) (suc j) p.message.stamp h.3.filled)
          ∙ ap (λ z. z * 32 ^ (k - suc j)) h.3.is

      before : rank k s.threshold ≡ u.threshold / 32
      before = omega (arith, r.common.threshold_is, r.common.digits k)

      raised : AtRest order I k (with_threshold p.message.stamp s) (M.raise true t u)
      raised =
          record {
            common = record {
              size = h.3.filled.size;
              digits = h.3.digits;
              threshold_is = omega (arith, places, h.3.filled.rest k lt);
              bound_is = r.common.bound_is;
              best_is = r.common.best_is;
              counter_is = r.common.counter_is;
              stopped_is = r.common.stopped_is;
            };
            estimates_size = r.estimates_size;
            estimates = r.estimates;
            cpa = r.cpa;
          }

      go : (o : Ordering) (a c : Bool) → Compared o t (u.threshold / 32) → ltb t (u.threshold / 32) ≡ a → ltb (u.threshold / 32) t ≡ c
          → Agrees order I k u.log (U.on_fresh (view_by order I k) o s p.message) (M.on_request (problem_by order I) k a u t j x b)
      go Less true q c e f = unchanged
      go Less false q c e f = absurd (omega (arith, c, ltb-false t (u.threshold / 32) e))
      go Equal true q c e f = absurd (omega (arith, c, ltb-true t (u.threshold / 32) e))
      go Greater true q c e f = absurd (omega (arith, c, ltb-true t (u.threshold / 32) e))
      go Equal false true c e f = absurd (omega (arith, c, ltb-true (u.threshold / 32) t f))
      go Equal false false c e f =
          subst (λ z. Agrees order I k u.log (accepted s (reply (view_by order I k) p.message) []) (M.done (M.raise z t u) (M.estimate j k x (as_number (estimate_of I k (values_at order I b))) ∷ []))) (sym f)
          (r, (reply_reads p j x b h lt, tt), refl)
      go Greater false false c e f = absurd (omega (arith, c, ltb-false (u.threshold / 32) t f))
      go Greater false true c e f =
          subst (λ z. Agrees order I k u.log (accepted (with_threshold p.message.stamp s) (reply (view_by order I k) p.message) []) (M.done (M.raise z t u) (M.estimate j k x (as_number (estimate_of I k (values_at order I b))) ∷ []))) (sym f)
          (raised, (reply_reads p j x b h lt, tt), refl)

  -- ---- an estimate

  stored_at_rest : (j e : ℕ) → j < 16 → AtRest order I k (with_estimates (set s.estimates j e) s) (M.store j e u)
  stored_at_rest j e lt =
      record {
        common = r.common;
        estimates_size = length-set s.estimates j e ∙ r.estimates_size;
        estimates = λ i li. at_place i li (eqb i j) refl;
        cpa = r.cpa;
      }
    where
      at_place : (i : ℕ) → i < 16 → (t : Bool) → eqb i j ≡ t → get_or (set s.estimates j e) i 0 ≡ cond t e (u.estimates i)
      at_place i li true q = subst (λ x. get_or (set s.estimates j e) x 0 ≡ e) (sym (eqb-true i j q)) (get_or-set_same s.estimates j e 0 (omega (arith, r.estimates_size)))
      at_place i li false q = get_or-set_other s.estimates j i e 0 (eqb-false i j q) ∙ r.estimates i li

  sum_of_places : (l : List ℕ) (f : ℕ → ℕ) → ((i : ℕ) → i < 16 → get_or l i 0 ≡ f i) → (lo m : ℕ) → lo + m ≤ 16 → sum_from (λ (i : ℕ). get_or l i 0) lo m ≡ sum_from f lo m
  sum_of_places l f h lo zero le = refl
  sum_of_places l f h lo (suc m) le = omega (arith, h lo (omega arith), sum_of_places l f h (suc lo) m (omega arith))

  estimate_agrees : (p : Packet) (j x e : ℕ) → Reads order I p (M.estimate k j x e) → ValidMsg (problem_by order I) Past (M.estimate k j x e)
      → Agrees order I k u.log (U.by_kind (view_by order I k) p.kind s p.message) (M.step (problem_by order I) u (M.estimate k j x e))
  unfolding U.on_estimate packets
  estimate_agrees p j x e h ok =
      subst (λ o. Agrees order I k u.log o (M.step (problem_by order I) u (M.estimate k j x e))) (λ i. U.by_kind (view_by order I k) (sym h.0 i) s p.message)
      (go (compare_on (suc k) p.message.stamp s.threshold) (ltb x u.threshold) (against_threshold p.message.stamp x h.3.digits h.3.is) refl)
    where
      s' : UnitState
      s' = with_estimates (set s.estimates j e) s

      kept : AtRest order I k (with_estimates (set s.estimates j e) s) (M.store j e u)
      kept = stored_at_rest j e (omega (arith, ok.3, n16))

      stored_is : stored p.message s ≡ with_estimates (set s.estimates j e) s
      stored_is =
          let q : p.message.sender - 1 ≡ j = omega (arith, h.2) in
          λ i. with_estimates (set s.estimates (q i) (h.4 i)) s

      reached : (1 ≤ u.own) → u.threshold ≡ M.stamp u → (t : Bool) → Agrees order I k u.log (reached_by_estimates (view_by order I k) t s') (M.assign_if (problem_by order I) k t (M.store j e u))
      reached o et true =
          let a = out_in_hand o in
          assign_agrees order I k k16 s' (M.store j e u)
          (record {
            common = kept.common;
            hand = a.hand;
          }) (out_ready o et)
      reached o et false = (kept, tt, refl)

      of_cpa_out : u.threshold ≤ x
          → Agrees order I k u.log (U.on_own_estimate (view_by order I k) (U.is_out (view_by order I k) s && same_on (suc k) p.message.stamp s.stamp) (stored p.message s))
          (M.on_estimate_same (problem_by order I) k (M.is_for_cpa_out u x) (M.store j e u))
      of_cpa_out le =
          subst (λ t. Agrees order I k u.log (U.on_own_estimate (view_by order I k) t (stored p.message s)) (M.on_estimate_same (problem_by order I) k (M.is_for_cpa_out u x) (M.store j e u))) (sym units)
          (subst (λ t. Agrees order I k u.log (U.on_own_estimate (view_by order I k) true (stored p.message s)) (M.on_estimate_same (problem_by order I) k t (M.store j e u))) (sym machines)
          (subst (λ z. Agrees order I k u.log (U.on_own_estimate (view_by order I k) true z) (M.on_estimate_same (problem_by order I) k true (M.store j e u))) (sym stored_is)
          (subst (λ t. Agrees order I k u.log (reached_by_estimates (view_by order I k) t s') (M.on_estimate_same (problem_by order I) k true (M.store j e u))) (sym test)
          (reached sm.0 (sm.3 ∙ sm.1) (leb u.bound (as_number (cost_of I (values_at order I (M.values u))) + sum_from (M.store j e u).estimates (suc k) (I.n - suc k)))))))
        where
          sm : (1 ≤ u.own) × (x ≡ M.stamp u) × (ok.2.0 ≡ M.values u) × (u.threshold ≡ x)
          sm = the_cpa_out (problem_by order I) laws k k<n Past X bf u x ok.2.0 g (own x ok.2.0 ok.2.1) le

          units : U.is_out (view_by order I k) s && same_on (suc k) p.message.stamp s.stamp ≡ true
          units = and_true (is_out_lem sm.0) (same_ranks (suc k) p.message.stamp s.stamp h.3.digits r.cpa.stamp_digits (h.3.is ∙ sm.1 ∙ sym (out_places sm.0)))

          machines : M.is_for_cpa_out u x ≡ true
          machines = and_true (lt-ltb 0 u.own sm.0) (and_true (subst (λ z. eqb x z ≡ true) (sym sm.3) (eqb_same x)) (subst (λ z. eqb x z ≡ true) sm.1 (eqb_same x)))

          test : leb s.bound (s.cost + sum_later (view_by order I k) (set s.estimates j e)) ≡ leb u.bound (as_number (cost_of I (values_at order I (M.values u))) + sum_from (M.store j e u).estimates (suc k) (I.n - suc k))
          test =
              most_test r.common.bound_is
              (omega (arith, ap as_number (r.cpa.cost_is sm.0), sum_of_places (set s.estimates j e) (M.store j e u).estimates kept.estimates (suc k) (I.n - suc k) (omega (arith, n16, k<n))))

      go : (o : Ordering) (t : Bool) → Compared o x u.threshold → ltb x u.threshold ≡ t → Agrees order I k u.log (U.on_timely (view_by order I k) o s p.message) (M.on_estimate (problem_by order I) k t u x j e)
      go Less true c q = unchanged
      go Less false c q = absurd (omega (arith, c, ltb-false x u.threshold q))
      go Equal true c q = absurd (omega (arith, c, ltb-true x u.threshold q))
      go Greater true c q = absurd (omega (arith, c, ltb-true x u.threshold q))
      go Equal false c q = of_cpa_out (ltb-false x u.threshold q)
      go Greater false c q =
          let sm = the_cpa_out (problem_by order I) laws k k<n Past X bf u x ok.2.0 g (own x ok.2.0 ok.2.1) (ltb-false x u.threshold q) in
          absurd (omega (arith, c, sm.3))

  -- ---- solutions and stops

  lower_at_rest : (m : Message) (B : ℕ) (l : List ℕ) → m.bound ≡ B → BestIs order I m.best l → AtRest order I k (take_bound m s) (M.take_bound B l u)
  lower_at_rest m B l e q = subst (λ z. AtRest order I k (take_lower z m.bound m.best s) (M.take_bound B l u)) (sym (less_test e r.common.bound_is)) (go (ltb B u.bound))
    where
      go : (t : Bool) → AtRest order I k (take_lower t m.bound m.best s) (M.lower t B l u)
      go true =
          record {
            common = record {
              size = r.common.size;
              digits = r.common.digits;
              threshold_is = r.common.threshold_is;
              bound_is = e;
              best_is = q;
              counter_is = r.common.counter_is;
              stopped_is = r.common.stopped_is;
            };
            estimates_size = r.estimates_size;
            estimates = r.estimates;
            cpa = r.cpa;
          }
      go false = r

  halted_at_rest : (a : UnitState) (b : Agent) → AtRest order I k a b → AtRest order I k (with_stopped true a) (M.halt b)
  halted_at_rest a b z =
      record {
        common = record {
          size = z.common.size;
          digits = z.common.digits;
          threshold_is = z.common.threshold_is;
          bound_is = z.common.bound_is;
          best_is = z.common.best_is;
          counter_is = z.common.counter_is;
          stopped_is = refl;
        };
        estimates_size = z.estimates_size;
        estimates = z.estimates;
        cpa = z.cpa;
      }

  solution_agrees : (p : Packet) (B : ℕ) (l : List ℕ) → Reads order I p (M.solution k B l)
      → Agrees order I k u.log (U.by_kind (view_by order I k) p.kind s p.message) (M.step (problem_by order I) u (M.solution k B l))
  unfolding U.on_solution packets
  solution_agrees p B l h =
      subst (λ o. Agrees order I k u.log o (M.step (problem_by order I) u (M.solution k B l))) (λ i. U.by_kind (view_by order I k) (sym h.0 i) s p.message)
      (lower_at_rest p.message B l h.2 h.3, tt, lower_log order I k k16 (ltb B u.bound) B l u)

  stop_agrees : (p : Packet) (B : ℕ) (l : List ℕ) → Reads order I p (M.stop k B l)
      → Agrees order I k u.log (U.by_kind (view_by order I k) p.kind s p.message) (M.step (problem_by order I) u (M.stop k B l))
  unfolding U.on_stop packets
  stop_agrees p B l h =
      subst (λ o. Agrees order I k u.log o (M.step (problem_by order I) u (M.stop k B l))) (λ i. U.by_kind (view_by order I k) (sym h.0 i) s p.message)
      (halted_at_rest (take_bound p.message s) (M.take_bound B l u) (lower_at_rest p.message B l h.2 h.3), tt, lower_log order I k k16 (ltb B u.bound) B l u)

  -- ---- any message for this unit

  abbrev By : Packet → Msg → Type 0
  By p m = Agrees order I k u.log (U.by_kind (view_by order I k) p.kind s p.message) (M.step (problem_by order I) u m)

  step_by_kind : (p : Packet) (m : Msg) → M.to m ≡ k → Reads order I p m → ValidMsg (problem_by order I) Past m → By p m
  step_by_kind p (M.down j x b B l) e h ok = subst (λ z. Reads order I p (M.down z x b B l) → By p (M.down z x b B l)) (sym e) (down_agrees p x b B l) h
  step_by_kind p (M.back j x b B l) e h ok =
      subst (λ z. Reads order I p (M.back z x b B l) → ValidMsg (problem_by order I) Past (M.back z x b B l) → By p (M.back z x b B l)) (sym e) (back_agrees p x b B l) h ok
  step_by_kind p (M.request j i x b) e h ok = subst (λ z. Reads order I p (M.request z i x b) → i < z → By p (M.request z i x b)) (sym e) (request_agrees p i x b) h ok.1
  step_by_kind p (M.estimate j i x c) e h ok =
      subst (λ z. Reads order I p (M.estimate z i x c) → ValidMsg (problem_by order I) Past (M.estimate z i x c) → By p (M.estimate z i x c)) (sym e) (estimate_agrees p i x c) h ok
  step_by_kind p (M.solution j B l) e h ok = subst (λ z. Reads order I p (M.solution z B l) → By p (M.solution z B l)) (sym e) (solution_agrees p B l) h
  step_by_kind p (M.stop j B l) e h ok = subst (λ z. Reads order I p (M.stop z B l) → By p (M.stop z B l)) (sym e) (stop_agrees p B l) h

  -- A unit that has not stopped decides what the machine's step gives.
  pub step_agrees : (p : Packet) (m : Msg) → M.to m ≡ k → Reads order I p m → ValidMsg (problem_by order I) Past m → s.stopped ≡ false
      → Agrees order I k u.log (U.respond (view_by order I k) p.kind s p.message) (M.step (problem_by order I) u m)
  unfolding U.respond
  step_agrees p m e h ok st =
      subst (λ t. Agrees order I k u.log (unless_stopped t (view_by order I k) p.kind s p.message) (M.step (problem_by order I) u m)) (sym st) (step_by_kind p m e h ok)
