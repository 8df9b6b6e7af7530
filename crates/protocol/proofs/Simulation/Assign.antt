-- Assigning and backtracking go as the machine's do: from states that correspond, decisions that agree (`assign_agrees`,
-- `resume_agrees`). By the values left to try; each test of the unit is equal to the machine's, so both take the same branch.
-- In order: what is sent on backtracking; a value written; the values tried; a CPA in hand; a bound taken.
-- Assumes nothing.
use Prim.Native.Nat.{ℕ, zero, suc, ◌+◌, ◌*◌, ◌-◌, ◌≤◌, ◌<◌, pred}
use Rattle.std.specs.Prelude.{◌≡◌, ◌≢◌, Bool, true, false, ◌||◌, List, ◌∷◌, reverse, ltb, leb, eqb, length, get_or, set, take, Some, None}
use Rattle.std.proofs.Math.Path.{refl}
use Rattle.std.proofs.Common.{sym, ap, ◌∙◌, subst, inr, get_or-take, eqb-true, ltb-true}
use native.Mathlib.Omega.{arith}
use Rattle.std.proofs.Math.Dec.{eqb-suc-zero}
use Rattle.std.proofs.Math.ListN.{length-set}
use Rattle.std.proofs.Math.Seq.{get_or-set_same}
use Rattle.costs.specs.declared.ValueOrder.{ValueOrder}
use Rattle.costs.specs.Cost.{Cost, ◌⊕◌, as_number}
use Rattle.costs.specs.Cost.Laws.{sum_left, taken_off, number_below, number_is, number_mono, below_number}
use Rattle.costs.specs.Instance.{Instance, view_by}
use Rattle.costs.specs.Bounds.{cost_with, h}
use Rattle.costs.specs.Order.{value_at}
use Rattle.costs.specs.Order.Laws.{next_value}
use Rattle.costs.specs.Laws.{against, cost_of, h_of, lookahead_of, cost_le_lookahead}
use Rattle.costs.specs.Laws.Tried.{values_at, problem_by}
use Rattle.costs.specs.Laws.Prefix.{pre, pre_set, pre_set_next, cost_with_prefix, cost-next, lookahead-next}
use Rattle.message.specs.declared.Kind.TheVariants.{Cpa, Request, Solution, Stop}
use Rattle.message.specs.Message.{Packet}
use Rattle.rules.specs.declared.Unit.{Unit as UnitState}
use Rattle.rules.specs.State.{zeros, with_best}
use Rattle.rules.specs.Step as U
use Rattle.rules.specs.Tests.{try_value}
use Rattle.rules.specs.Step.{take_off, carried}
use Rattle.protocol.specs.Problem.{NONE}
use Rattle.rules.specs.Send.{packets, each, sent_to, without_bound, bound_only, hand_back, solutions}
use Rattle.protocol.specs.Machine as M
use Rattle.protocol.specs.Machine.{Msg, Agent}
use Rattle.protocol.specs.Simulation.Stamps.{rank, rank_set, zero_place, digits_set, filled_next, filled_off, take_is_prefix}
use Rattle.protocol.specs.Simulation.Relations.{StampIs, ValuesAre, prefix_length, ReadAll, read_each, read_append, Common, AtRest, no_cpa, OwnOff, RecordIs, Agrees, agrees_after}

pub less_test : {a a' d d' : ℕ} → a ≡ a' → d ≡ d' → ltb a d ≡ ltb a' d'
less_test p q = λ i. ltb (p i) (q i)

pub most_test : {a a' d d' : ℕ} → a ≡ a' → d ≡ d' → leb a d ≡ leb a' d'
most_test p q = λ i. leb (p i) (q i)

-- the rank of the first places of an array
rank_take : (m k : ℕ) (l : List ℕ) → k ≤ m → rank k (take m l) ≡ rank k l
rank_take m zero l le = refl
rank_take m (suc k) l le = omega (arith, rank_take m k l (omega arith), get_or-take m l k 0 le)

module _ (order : ValueOrder) (I : Instance) where
  -- ---- backtracking

  solutions_read : (k : ℕ) (better : Bool) (s : UnitState) (u : Agent) → Common order I k s u
      → ReadAll order I (solutions I.n k better (carried (view_by order I k) s)) (M.announce (problem_by order I) k better u)
  solutions_read k true s u b =
      read_append order I (each g 0 k) (each g (suc k) (I.n - suc k)) (M.to_each g' 0 k) (M.to_each g' (suc k) (I.n - suc k))
      (read_each order I g g' 0 k (λ j lo hi. (refl, refl, b.bound_is, b.best_is)))
      (read_each order I g g' (suc k) (I.n - suc k) (λ j lo hi. (refl, refl, b.bound_is, b.best_is)))
    where
      g : ℕ → Packet
      g = sent_to Solution (bound_only (carried (view_by order I k) s))

      g' : ℕ → Msg
      g' j = M.solution j u.bound u.best
  solutions_read k false s u b = tt

  hand_back_read : (k v : ℕ) (s : UnitState) (u : Agent) → OwnOff order I k v s u
      → ReadAll order I (hand_back I.n k (carried (view_by order I k) s)) (M.give_back (problem_by order I) k u)
  hand_back_read zero v s u b =
      let e : I.n - 1 ≡ pred I.n = omega arith in
      subst (λ m. ReadAll order I (each (sent_to Stop (bound_only (carried (view_by order I 0) s))) 1 m) (M.give_back (problem_by order I) 0 u)) (sym e)
      (read_each order I (sent_to Stop (bound_only (carried (view_by order I 0) s))) (λ j. M.stop j u.bound u.best) 1 (pred I.n) (λ j lo hi. (refl, refl, b.common.bound_is, b.common.best_is)))
  hand_back_read (suc k) v s u b = ((refl, refl, omega arith, b.stamp, b.values, b.cost, b.common.bound_is, b.common.best_is), tt)

  stopped_after_lem : (k : ℕ) (s : UnitState) (u : Agent) → s.stopped ≡ u.stopped → (eqb k 0 || s.stopped) ≡ M.stopped_after k u
  stopped_after_lem zero s u e = refl
  stopped_after_lem (suc k) s u e = ap (λ t. t || s.stopped) (eqb-suc-zero k) ∙ e

  pub backtrack_agrees : (k : ℕ) → k < 16 → (v : ℕ) (better : Bool) (s : UnitState) (u : Agent) → OwnOff order I k v s u → get_or s.threshold k 0 ≤ 30
      → Agrees order I k u.log (U.backtrack (view_by order I k) better s) (M.backtrack (problem_by order I) k better u)
  unfolding U.backtrack packets
  backtrack_agrees k k16 v better s u b small = (
    record {
      common = record {
        size = length-set s.threshold k _ ∙ b.common.size;
        digits = digits_set s.threshold k (suc (get_or s.threshold k 0)) b.common.size k16 b.common.digits (omega arith);
        threshold_is =
            omega (
              arith,
              rank_set k k s.threshold (suc (get_or s.threshold k 0)) (omega arith),
              get_or-set_same s.threshold k (suc (get_or s.threshold k 0)) 0 (omega (arith, b.common.size)),
              b.common.threshold_is,
            );
        bound_is = b.common.bound_is;
        best_is = b.common.best_is;
        counter_is = b.common.counter_is;
        stopped_is = stopped_after_lem k s u b.common.stopped_is;
      };
      estimates_size = refl;
      estimates = λ j lt. zero_place j;
      cpa = no_cpa order I k;
    },
    read_append order I (hand_back I.n k (carried (view_by order I k) s)) (solutions I.n k better (carried (view_by order I k) s)) (M.give_back (problem_by order I) k u) (M.announce (problem_by order I) k better u)
        (hand_back_read k v s u b) (solutions_read k better s u b.common),
    refl,
  )

  -- ---- a value written

  module _ (k : ℕ) (k16 : k < 16) where
    -- the value that comes after place v
    abbrev coming : ℕ → ℕ
    coming v = value_at (view_by order I k) (suc v)

    -- it and the prefix, as the machine has them
    next_read : (v : ℕ) (s : UnitState) (u : Agent) → OwnOff order I k v s u → coming v ∷ values_at order I u.prefix ≡ values_at order I (suc u.own ∷ u.prefix)
    next_read v s u b =
        let e : length u.prefix ≡ k = prefix_length order I k s.values u.prefix b.values.are in
        λ i. value_at (view_by order I (sym e i)) (suc (b.tried i)) ∷ values_at order I u.prefix

    next-cost : (v : ℕ) (s : UnitState) (u : Agent) → OwnOff order I k v s u → Some s.cost ⊕ cost_with (view_by order I k) s.values k (coming v) ≡ cost_of I (values_at order I (suc u.own ∷ u.prefix))
    next-cost v s u b =
        ap (λ (z : Cost). z ⊕ cost_with (view_by order I k) s.values k (coming v)) b.cost
        ∙ subst (λ z. cost_of I z ⊕ cost_with (view_by order I k) s.values k (coming v) ≡ cost_of I (coming v ∷ z)) b.values.are (cost-next order I k s.values (coming v))
        ∙ ap (cost_of I) (next_read v s u b)

    next-lookahead : (v : ℕ) (s : UnitState) (u : Agent) → OwnOff order I k v s u
        → Some s.cost ⊕ cost_with (view_by order I k) s.values k (coming v) ⊕ h (view_by order I k) (coming v) ≡ lookahead_of I (values_at order I (suc u.own ∷ u.prefix))
    next-lookahead v s u b =
        ap (λ (z : Cost). z ⊕ cost_with (view_by order I k) s.values k (coming v) ⊕ h (view_by order I k) (coming v)) b.cost
        ∙ subst (λ z. cost_of I z ⊕ cost_with (view_by order I k) s.values k (coming v) ⊕ h (view_by order I k) (coming v) ≡ lookahead_of I (coming v ∷ z)) b.values.are (lookahead-next order I k s.values (coming v))
        ∙ ap (lookahead_of I) (next_read v s u b)

    written-values : (v : ℕ) (s : UnitState) (u : Agent) → OwnOff order I k v s u → ValuesAre order I (suc k) (set s.values k (coming v)) (suc u.own ∷ u.prefix)
    written-values v s u b =
        record {
          filled = filled_next s.values k (coming v) b.values.filled;
          are = pre_set_next k s.values (coming v) (omega (arith, b.values.filled.size)) ∙ ap (λ z. coming v ∷ z) b.values.are ∙ next_read v s u b;
        }

    written-stamp : (v : ℕ) (s : UnitState) (u : Agent) → OwnOff order I k v s u → u.counter ≤ 30
        → StampIs (suc k) (set s.stamp k (suc s.counter)) (u.prefix_stamp * 32 + suc u.counter)
    written-stamp v s u b hc =
        record {
          filled = filled_next s.stamp k (suc s.counter) b.stamp.filled;
          digits = digits_set s.stamp k (suc s.counter) b.stamp.filled.size k16 b.stamp.digits (omega (arith, b.common.counter_is));
          is =
              omega (
                arith,
                rank_set k k s.stamp (suc s.counter) (omega arith),
                get_or-set_same s.stamp k (suc s.counter) 0 (omega (arith, b.stamp.filled.size)),
                b.stamp.is,
                b.common.counter_is,
              );
        }

    write_at_rest : (v c : ℕ) (s : UnitState) (u : Agent) → OwnOff order I k v s u → s.estimates ≡ zeros → u.counter ≤ 30 → Some c ≡ cost_of I (values_at order I (suc u.own ∷ u.prefix))
        → AtRest order I k (U.write (view_by order I k) (coming v) c s) (M.write u)
    write_at_rest v c s u b z hc ec =
        record {
          common = record {
            size = st.filled.size;
            digits = st.digits;
            threshold_is = st.is;
            bound_is = b.common.bound_is;
            best_is = b.common.best_is;
            counter_is = ap suc b.common.counter_is;
            stopped_is = b.common.stopped_is;
          };
          estimates_size = ap length z;
          estimates = λ j lt. ap (λ e. get_or e j 0) z ∙ zero_place j;
          cpa = record {
            own = get_or-set_same s.values k (coming v) 0 (omega (arith, b.values.filled.size)) ∙ ap (λ p. value_at (view_by order I k) (suc p)) b.tried;
            stamp-filled = st.filled;
            stamp_digits = st.digits;
            values-filled = filled_next s.values k (coming v) b.values.filled;
            prefix_stamp = λ o. rank_set k k s.stamp (suc s.counter) (omega arith) ∙ b.stamp.is;
            own-stamp = λ o. get_or-set_same s.stamp k (suc s.counter) 0 (omega (arith, b.stamp.filled.size)) ∙ ap suc b.common.counter_is;
            prefix = λ o. pre_set k k s.values (coming v) (omega arith) ∙ b.values.are;
            cost_is = λ o. ec;
          };
        }
      where
        st : StampIs (suc k) (set s.stamp k (suc s.counter)) (u.prefix_stamp * 32 + suc u.counter)
        st = written-stamp v s u b hc

    forward_read : (v c : ℕ) (s : UnitState) (u : Agent) → OwnOff order I k v s u → u.counter ≤ 30 → Some c ≡ cost_of I (values_at order I (suc u.own ∷ u.prefix))
        → ReadAll order I (sent_to Cpa (carried (view_by order I k) (U.write (view_by order I k) (coming v) c s)) (suc k)
        ∷ each (sent_to Request (without_bound (carried (view_by order I k) (U.write (view_by order I k) (coming v) c s)))) (suc k) (I.n - suc k))
        (M.send_down (problem_by order I) k (M.write u))
    forward_read v c s u b hc ec = (
      (refl, refl, omega arith, st, vs, ec, b.common.bound_is, b.common.best_is),
      read_each order I (sent_to Request (without_bound (carried (view_by order I k) (U.write (view_by order I k) (coming v) c s)))) (λ j. M.request j k (M.stamp (M.write u)) (M.values (M.write u))) (suc k) (I.n - suc k)
          (λ j lo hi. (refl, refl, refl, st, vs)),
    )
      where
        st : StampIs (suc k) (set s.stamp k (suc s.counter)) (u.prefix_stamp * 32 + suc u.counter)
        st = written-stamp v s u b hc

        vs : ValuesAre order I (suc k) (set s.values k (coming v)) (suc u.own ∷ u.prefix)
        vs = written-values v s u b

    record_read : (v c : ℕ) (s : UnitState) (u : Agent) → OwnOff order I k v s u → u.counter ≤ 30
        → RecordIs order I k (U.record_of (view_by order I k) (U.write (view_by order I k) (coming v) c s)) (M.next_record u)
    record_read v c s u b hc = (
      refl,
      take_is_prefix (suc k) (set s.values k (coming v)) (omega (arith, length-set s.values k (coming v), b.values.filled.size)) ∙ ap reverse (written-values v s u b).are,
      rank_take (suc k) (suc k) (set s.stamp k (suc s.counter)) (omega arith) ∙ (written-stamp v s u b hc).is,
    )

    -- unit n: the new best, and the value taken off again
    solved-cost : (v c : ℕ) (s : UnitState) (u : Agent) → OwnOff order I k v s u → Some c ≡ Some s.cost ⊕ cost_with (view_by order I k) s.values k (coming v)
        → Some (c - as_number (cost_with (view_by order I k) (set s.values k (coming v)) k (get_or (set s.values k (coming v)) k 0))) ≡ cost_of I (values_at order I u.prefix)
    solved-cost v c s u b ec =
        let e : get_or (set s.values k (coming v)) k 0 ≡ coming v = get_or-set_same s.values k (coming v) 0 (omega (arith, b.values.filled.size)) in
        let a : cost_with (view_by order I k) (set s.values k (coming v)) k (coming v) ≡ cost_with (view_by order I k) s.values k (coming v) =
        cost_with_prefix order I k (set s.values k (coming v)) k (coming v) (omega arith) ∙ ap (against I k (coming v)) (pre_set k k s.values (coming v) (omega arith))
        ∙ sym (cost_with_prefix order I k s.values k (coming v) (omega arith)) in
        rw (e, a) (taken_off c (Some s.cost) (cost_with (view_by order I k) s.values k (coming v)) ec ∙ b.cost)

    solved_off : (v c : ℕ) (s : UnitState) (u : Agent) → OwnOff order I k v s u → Some c ≡ Some s.cost ⊕ cost_with (view_by order I k) s.values k (coming v) → u.counter ≤ 30 → suc k ≡ I.n
        → OwnOff order I k (suc v) (take_off (view_by order I k) (with_best c (set s.values k (coming v)) (U.write (view_by order I k) (coming v) c s))) (M.solved (problem_by order I) (M.write u))
    solved_off v c s u b ec hc last =
        record {
          common = record {
            size = st.filled.size;
            digits = st.digits;
            threshold_is = st.is;
            bound_is = ap as_number (ec ∙ next-cost v s u b);
            best_is = inr (subst (λ x. pre x (set s.values k (coming v)) ≡ values_at order I (suc u.own ∷ u.prefix)) last (written-values v s u b).are);
            counter_is = ap suc b.common.counter_is;
            stopped_is = b.common.stopped_is;
          };
          tried = ap suc b.tried;
          stamp = record {
            filled = filled_off (set s.stamp k (suc s.counter)) k k16 st.filled;
            digits = digits_set (set s.stamp k (suc s.counter)) k 0 st.filled.size k16 st.digits (omega arith);
            is = rank_set k k (set s.stamp k (suc s.counter)) 0 (omega arith) ∙ rank_set k k s.stamp (suc s.counter) (omega arith) ∙ b.stamp.is;
          };
          values = record {
            filled = filled_off (set s.values k (coming v)) k k16 (filled_next s.values k (coming v) b.values.filled);
            are = pre_set k k (set s.values k (coming v)) 0 (omega arith) ∙ pre_set k k s.values (coming v) (omega arith) ∙ b.values.are;
          };
          cost = solved-cost v c s u b ec;
        }
      where
        st : StampIs (suc k) (set s.stamp k (suc s.counter)) (u.prefix_stamp * 32 + suc u.counter)
        st = written-stamp v s u b hc

    -- ---- the values tried, m of them left

    pub try_agrees : (m v : ℕ) → v + m ≤ I.dom k → (better : Bool) (s : UnitState) (u : Agent) → OwnOff order I k v s u → s.estimates ≡ zeros
        → u.threshold ≡ u.prefix_stamp * 32 + u.counter → u.counter + m ≤ 30 → u.bound ≤ NONE
        → Agrees order I k u.log (U.try_after (view_by order I k) m (value_at (view_by order I k) v) better s) (M.try_from (problem_by order I) k m better u)
    unfolding U.try_after packets
    try_agrees zero v le better s u b z e hc most = backtrack_agrees k k16 v better s u b (omega (arith, b.common.threshold_is, b.common.digits k))
    try_agrees (suc m) v le better s u b z e hc most =
        rw (next_value (view_by order I k) v (omega arith))
        (subst (λ t. Agrees order I k u.log (try_value (view_by order I k) t (coming v) c better s (λ (x : Bool) (t : UnitState). U.try_after (view_by order I k) m (coming v) x t))
        (M.try_next (problem_by order I) k (ltb (as_number (lookahead_of I (values_at order I b'))) u.bound) better u (λ x t. M.try_from (problem_by order I) k m x t)))
        (sym (below_number (next_at ⊕ h (view_by order I k) (coming v)) s.bound (omega (arith, b.common.bound_is)) ∙ less_test (ap as_number (next-lookahead v s u b)) b.common.bound_is))
        (next (ltb (as_number (lookahead_of I (values_at order I b'))) u.bound) refl (λ x t q y f. try_agrees m (suc v) (omega arith) x t q y f)))
      where
        IH : Type 0
        IH = (x : Bool) (t : UnitState) (q : Agent) → OwnOff order I k (suc v) t q → t.estimates ≡ zeros → q.threshold ≡ q.prefix_stamp * 32 + q.counter → q.counter + m ≤ 30 → q.bound ≤ NONE
            → Agrees order I k q.log (U.try_after (view_by order I k) m (coming v) x t) (M.try_from (problem_by order I) k m x q)

        next_at : Cost
        next_at = Some s.cost ⊕ cost_with (view_by order I k) s.values k (coming v)

        c : ℕ
        c = as_number (Some s.cost ⊕ cost_with (view_by order I k) s.values k (coming v))

        b' : List ℕ
        b' = suc u.own ∷ u.prefix

        -- with a lookahead below the bound, the value's cost is a number, and at most NONE
        paid : as_number (lookahead_of I (values_at order I b')) < u.bound → Some c ≡ next_at
        paid low =
            sym (number_is next_at
            (subst (λ (x : Cost). x ≢ None) (sym (next-cost v s u b)) (sum_left (cost_of I (values_at order I b')) (h_of I (length (values_at order I u.prefix)) (value_at (view_by order I (length u.prefix)) (suc u.own))) (number_below (lookahead_of I (values_at order I b')) (omega arith)))))

        few : as_number (lookahead_of I (values_at order I b')) < u.bound → as_number (cost_of I (values_at order I b')) ≤ NONE
        few low = omega (arith, number_mono (cost_of I (values_at order I b')) (lookahead_of I (values_at order I b')) (cost_le_lookahead I (values_at order I b')) (omega arith))

        last : (t : Bool) → eqb (suc k) I.n ≡ t → as_number (lookahead_of I (values_at order I b')) < u.bound → IH
            → Agrees order I k u.log (U.after_write (view_by order I k) t (U.write (view_by order I k) (coming v) c s) (λ (x : Bool) (t : UnitState). U.try_after (view_by order I k) m (coming v) x t))
            (M.after_write (problem_by order I) k t (M.write u) (λ x t. M.try_from (problem_by order I) k m x t))
        last true q low ih =
            agrees_after order I k u.log (U.record_of (view_by order I k) (U.write (view_by order I k) (coming v) c s)) (M.next_record u)
            (U.try_after (view_by order I k) m (coming v) true (take_off (view_by order I k) (with_best c (set s.values k (coming v)) (U.write (view_by order I k) (coming v) c s))))
            (M.try_from (problem_by order I) k m true (M.solved (problem_by order I) (M.write u)))
            (record_read v c s u b (omega arith))
            (ih true (take_off (view_by order I k) (with_best c (set s.values k (coming v)) (U.write (view_by order I k) (coming v) c s))) (M.solved (problem_by order I) (M.write u))
            (solved_off v c s u b (paid low) (omega arith) (eqb-true (suc k) I.n q)) z refl (omega arith) (few low))
        last false q low ih = (
          write_at_rest v c s u b z (omega arith) (paid low ∙ next-cost v s u b),
          forward_read v c s u b (omega arith) (paid low ∙ next-cost v s u b),
          (M.next_record u, record_read v c s u b (omega arith), refl),
        )

        next : (t : Bool) → ltb (as_number (lookahead_of I (values_at order I b'))) u.bound ≡ t → IH
            → Agrees order I k u.log (try_value (view_by order I k) t (coming v) c better s (λ (x : Bool) (t : UnitState). U.try_after (view_by order I k) m (coming v) x t))
            (M.try_next (problem_by order I) k t better u (λ x t. M.try_from (problem_by order I) k m x t))
        next true low ih = last (eqb (suc k) I.n) refl (ltb-true (as_number (lookahead_of I (values_at order I b'))) u.bound low) ih
        next false low ih =
            ih better s (M.skip u)
            (record {
              common = b.common;
              tried = ap suc b.tried;
              stamp = b.stamp;
              values = b.values;
              cost = b.cost;
            }) z e (omega arith) most
