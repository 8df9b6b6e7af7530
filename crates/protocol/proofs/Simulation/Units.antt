-- Many units and the machine's: what corresponds (`Matches`), units at rest and the records of a run on the machine's logs. Making gives it
-- (`start_simulated`), and so does each step on a packet, which is never refused (`step_simulated`). Whatever pool the packets wait in.
-- In order: lists of packets, read; what corresponds; a step, and what follows from it; making and a step.
-- Assumes nothing.
use Rattle.std.specs.Prelude.{ℕ, zero, suc, ◌+◌, ◌<◌, pred, ◌≡◌, refl, false, List, [], ◌∷◌, ◌++◌, length, replicate, Some}
use Rattle.std.proofs.Common.{sym, ap, ◌∙◌, subst, inl, arith, length-append, length-set}
use Rattle.std.proofs.lemmas.List.{get_or-replicate}
use Rattle.base.specs.Sums.{sum_to}
use Rattle.base.specs.Members.{In, here, there}
use Rattle.base.specs.Members.Laws.{not-in-nil, in_left, in_right, every_nil, every_append}
use Rattle.costs.specs.declared.ValueOrder.{ValueOrder}
use Rattle.costs.specs.Instance.{Instance, view_by}
use Rattle.costs.specs.Order.Laws.{value_of_none}
use Rattle.costs.specs.Laws.{Sound}
use Rattle.costs.specs.Laws.Tried.{problem_by}
use Rattle.costs.proofs.Laws.Tried.{laws_by}
use Rattle.message.specs.Message.{Packet}
use Rattle.rules.specs.declared.Unit.{Unit as UnitState}
use Rattle.rules.specs.State.{fresh, empty_unit}
use Rattle.rules.specs.Step as U
use Rattle.rules.specs.Step.{Decision, Written}
use Rattle.rules.specs.Units.{unit_at, place_of, step_on}
use Rattle.rules.specs.Laws.Units.{set_unit}
use Rattle.protocol.specs.Problem.{Laws}
use Rattle.protocol.specs.Machine as M
use Rattle.protocol.specs.Machine.{Msg, to, Record, Agent, Result}
use Rattle.protocol.specs.Safety.Facts.{ValidMsg, Before, Sorted}
use Rattle.protocol.specs.Safety.Logs.{Recorded, peak, logs, Safe}
use Rattle.protocol.specs.Safety.Network.{StepSafe, Grows}
use Rattle.protocol.proofs.Safety.Network.{before, any_step, make-step_safe, put_at, put_other}
use Rattle.protocol.proofs.Liveness.Effect.{to<n}
use Rattle.protocol.proofs.Count.Tally.{sum_put}
use Rattle.protocol.specs.Simulation.Stamps.{rank-zeros, zero_place, zeros-filled, zeros_digits}
use Rattle.protocol.specs.Simulation.Relations.{Reads, ReadAll, AtRest, no_cpa, Agrees}
use Rattle.protocol.proofs.Simulation.Resume.{assign_agrees}
use Rattle.protocol.specs.Simulation.Step.{FreeWhenUnassigned}
use Rattle.protocol.proofs.Simulation.Step.{step_agrees}
use Rattle.protocol.specs.Simulation.Records.{distinct_append, New, grown_new, grown_distinct, OnLogs, written_apart}
use Rattle.protocol.specs.Simulation.Units.{Matches, ReadAs, Simulated}

-- ---- lists of packets, read

-- a list of messages, cut where a packet stands
pub record CutAt (order : ValueOrder) (I : Instance) (b : List Packet) (p : Packet) (a : List Packet) (ms : List Msg) : Type 0 where
  pub before : List Msg
  pub message : Msg
  pub behind : List Msg
  pub whole : ms ≡ before ++ (message ∷ behind)
  pub many : length before ≡ length b
  pub reads : Reads order I p message
  pub reads_before : ReadAll order I b before
  pub reads_behind : ReadAll order I a behind

module _ (order : ValueOrder) (I : Instance) where
  pub read_to : (p : Packet) (m : Msg) → Reads order I p m → place_of p ≡ to m
  read_to p (M.down k s b B l) h = ap pred h.1
  read_to p (M.back k s b B l) h = ap pred h.1
  read_to p (M.request k j s b) h = ap pred h.1
  read_to p (M.estimate k j s e) h = ap pred h.1
  read_to p (M.solution k B l) h = ap pred h.1
  read_to p (M.stop k B l) h = ap pred h.1

  pub read_length : (a : List Packet) (b : List Msg) → ReadAll order I a b → length a ≡ length b
  read_length [] [] h = refl
  read_length [] (y ∷ b) h = absurd h
  read_length (x ∷ a) [] h = absurd h
  read_length (x ∷ a) (y ∷ b) h = ap suc (read_length a b h.1)

  pub read_cut : (b : List Packet) (p : Packet) (a : List Packet) (ms : List Msg) → ReadAll order I (b ++ (p ∷ a)) ms → CutAt order I b p a ms
  read_cut [] p a [] h = absurd h
  read_cut [] p a (m ∷ ms) h = record { before = []; message = m; behind = ms; whole = refl; many = refl; reads = h.0; reads_before = tt; reads_behind = h.1 }
  read_cut (x ∷ b) p a [] h = absurd h
  read_cut (x ∷ b) p a (m ∷ ms) h =
      let c = read_cut b p a ms h.1 in
      record {
        before = m ∷ c.before;
        message = c.message;
        behind = c.behind;
        whole = ap (λ l. m ∷ l) c.whole;
        many = ap suc c.many;
        reads = c.reads;
        reads_before = (h.0, c.reads_before);
        reads_behind = c.reads_behind;
      }

  pub read_as : (ps : List Packet) (ms : List Msg) (m : Msg) → ReadAll order I ps ms → In m ms → ReadAs order I ps m
  read_as ps [] m h i = absurd (not-in-nil i)
  read_as [] (y ∷ ms) m h i = absurd h
  read_as (p ∷ ps) (y ∷ ms) m h (here e) = record { front = []; packet = p; rest = ps; whole = refl; reads = subst (Reads order I p) (sym e) h.0 }
  read_as (p ∷ ps) (y ∷ ms) m h (there j) =
      let q = read_as ps ms m h.1 j in
      record { front = p ∷ q.front; packet = q.packet; rest = q.rest; whole = ap (λ l. p ∷ l) q.whole; reads = q.reads }

-- ---- a step, and what follows from it

-- one unit's log grown
logs_sum : (n : ℕ) (us : ℕ → Agent) (k : ℕ) (u : Agent) (new : List Record) → k < n → u.log ≡ new ++ (us k).log
    → sum_to (λ i. length (M.put us k u i).log) n ≡ length new + sum_to (λ i. length (us i).log) n
logs_sum n us k u new lt e =
    let a : sum_to (λ i. length (M.put us k u i).log) n + length (us k).log ≡ sum_to (λ i. length (us i).log) n + length (M.put us k u k).log =
    sum_put (λ i. length (us i).log) (λ i. length (M.put us k u i).log) k n lt (λ i ne. ap (λ z. length z.log) (put_other us k u i ne)) in
    omega (arith, a, ap (λ z. length z.log) (put_at us k u), ap length e, length-append new (us k).log)

module _ (order : ValueOrder) (I : Instance) (snd : Sound I) (free : FreeWhenUnassigned I) where
  laws : Laws (problem_by order I)
  laws = laws_by order I snd

  module _ (hs : List UnitState) (W : List Written) (us : ℕ → Agent) (r : Matches order I hs W us) (k : ℕ) (lt : k < I.n) where
    simulated : (o : Decision) (res : Result) → Agrees order I k (us k).log o res → StepSafe (problem_by order I) us k res → Simulated order I hs W us k res o
    simulated (U.refused x) M.refused h l = absurd l
    simulated (U.refused x) (M.done v ms) h l = absurd h
    simulated (U.accepted u o ws) M.refused h l = absurd h
    simulated (U.accepted u o ws) (M.done v ms) h l =
        record {
          agent = v;
          sent = ms;
          steps = refl;
          reads = h.1;
          matches = record {
            size = length-set hs k u ∙ r.size;
            units =
                set_unit (λ i x. i < I.n → AtRest order I i x (M.put us k v i)) hs k u (omega (arith, lt, snd.n16, r.size)) (λ z. subst (AtRest order I k u) (sym (put_at us k v)) h.0)
                (λ i ne l. subst (AtRest order I i (unit_at hs i)) (sym (put_other us k v i ne)) (r.units i l));
            whole = omega (arith, length-append W ws, r.whole, n.many, logs_sum I.n us k v n.records lt n.log);
            on_logs =
                every_append (OnLogs order I (M.put us k v)) W ws
                (λ w i. let q = r.on_logs w i in (q.0, q.1, (q.2.0, subst (λ L. In q.2.0 L) (sym (grows q.0).1) (in_right (grows q.0).0 q.2.1), q.2.2)))
                (λ w i. let q = n.each w i in (k, lt, (q.0, subst (λ L. In q.0 L) (sym (ap (λ z. z.log) (put_at us k v) ∙ n.log)) (in_left (us k).log q.1), q.2)));
            distinct =
                distinct_append W ws r.distinct (grown_distinct order I k (Recorded (logs (M.put us k v))) (peak (logs (M.put us k v)) k) bf (us k).log ws v.log so h.2)
                (written_apart order I us k (Recorded (logs (M.put us k v))) (peak (logs (M.put us k v)) k) bf ws v.log so h.2 W r.on_logs);
          };
        }
      where
        n : New order I k (us k).log ws v.log
        n = grown_new order I k (us k).log ws v.log h.2

        grows : Grows (logs us) (logs (M.put us k v))
        grows = l.2

        bf : Before (problem_by order I) k (Recorded (logs (M.put us k v))) (peak (logs (M.put us k v)) k)
        bf = before (problem_by order I) (M.put us k v) l.0 k (omega arith)

        so : Sorted (problem_by order I) k (Recorded (logs (M.put us k v))) v.log
        so = subst (λ z. Sorted (problem_by order I) k (Recorded (logs (M.put us k v))) z.log) (put_at us k v) (l.0 k lt).sorted

  -- ---- making

  fresh_at_rest : (k : ℕ) → AtRest order I k fresh M.fresh
  fresh_at_rest k =
      record {
        common = record { size = refl; digits = zeros_digits; threshold_is = omega (arith, rank-zeros k, zero_place k); bound_is = refl; best_is = inl (refl, refl); counter_is = refl; stopped_is = refl };
        estimates_size = refl;
        estimates = λ j lt. zero_place j;
        cpa = no_cpa order I k;
      }

  all_fresh : Matches order I (replicate 16 fresh) [] (λ k. M.fresh)
  all_fresh =
      record {
        size = refl;
        units = λ k lt. subst (λ x. AtRest order I k x M.fresh) (sym (get_or-replicate 16 k fresh empty_unit (omega (arith, lt, snd.n16)))) (fresh_at_rest k);
        whole = sym (none I.n);
        on_logs = every_nil _;
        distinct = tt;
      }
    where
      none : (n : ℕ) → ◌≡◌ {A = ℕ} (sum_to (λ i. 0) n) 0
      none zero = refl
      none (suc n) = omega (arith, none n)

  -- unit 1 assigns
  pub start_simulated : Simulated order I (replicate 16 fresh) [] (λ k. M.fresh) 0 (M.assign (problem_by order I) 0 M.fresh) (U.assign (view_by order I 0) fresh)
  start_simulated =
      simulated (replicate 16 fresh) [] (λ k. M.fresh) all_fresh 0 snd.n1 (U.assign (view_by order I 0) fresh) (M.assign (problem_by order I) 0 M.fresh)
      (assign_agrees order I 0 (omega arith) fresh M.fresh
      (record {
        common = (fresh_at_rest 0).common;
        hand = record { own = sym (value_of_none (view_by order I 0)); stamp-filled = zeros-filled 1; stamp_digits = zeros_digits; prefix_stamp = refl; values-filled = zeros-filled 1; prefix = refl; cost_is = ap Some (omega arith) };
      })
      (omega arith, omega (arith, snd.dom16 0), omega arith, omega arith))
      (make-step_safe (problem_by order I) laws snd.n1)

  -- ---- a step on a packet

  pub step_simulated : (hs : List UnitState) (W : List Written) (us : ℕ → Agent) → Matches order I hs W us → Safe (problem_by order I) us → (p : Packet) (m : Msg) → Reads order I p m
      → ValidMsg (problem_by order I) (Recorded (logs us)) m → (us (to m)).stopped ≡ false → Simulated order I hs W us (place_of p) (M.step (problem_by order I) (us (to m)) m) (step_on order I hs p)
  step_simulated hs W us r safe p m rd ok off =
      subst (λ k. Simulated order I hs W us k (M.step (problem_by order I) (us (to m)) m) (U.respond (view_by order I k) p.kind (unit_at hs k) p.message)) (sym (read_to order I p m rd))
      (simulated hs W us r (to m) lt (U.respond (view_by order I (to m)) p.kind (unit_at hs (to m)) p.message) (M.step (problem_by order I) (us (to m)) m)
      (step_agrees order I free laws snd.n16 (to m) lt (Recorded (logs us)) (peak (logs us) (to m)) (before (problem_by order I) us safe (to m) (omega (arith, lt))) (unit_at hs (to m)) (us (to m)) (r.units (to m) lt)
      (safe (to m) lt) (λ x y q. q) p m refl rd ok ((r.units (to m) lt).common.stopped_is ∙ off))
      (any_step (problem_by order I) laws us safe m ok))
    where
      lt : to m < I.n
      lt = to<n (problem_by order I) laws us safe m ok
