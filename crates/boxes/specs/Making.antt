-- Making gives the invariant (`made_kept`), for every table that is accepted: box 1 assigns, as the machine's unit 1 does, and the others are new.
-- In order: each making is accepted; the first j boxes made; all of them.
-- Assumes nothing.
use Prim.Native.Nat.{ℕ, zero, suc, ◌≤◌, ◌<◌}
use Rattle.std.specs.Prelude.{◌≡◌, length, set, replicate}
use Rattle.std.proofs.Math.Path.{refl, sym, subst}
use Rattle.std.proofs.Common.{ap, ◌∙◌, arith}
use mathlib.Core.List.{List, [], map, append-nil}
use Rattle.std.proofs.Math.ListN.{length-set}
use Rattle.std.proofs.lemmas.List.{get_or-replicate}
use Rattle.base.specs.Limits.{sending_size}
use Rattle.base.specs.Shape.Laws.{range_value}
use Rattle.table.specs.Stream.{units_of, Accepted}
use Rattle.table.specs.StreamLaws.{accepted_units}
use Rattle.costs.specs.declared.ValueOrder.{ValueOrder}
use Rattle.costs.specs.Instance.{View, view_by, instance_of}
use Rattle.costs.specs.Laws.Tried.{problem_by}
use Rattle.costs.specs.Laws.Stream.{sound_of}
use Rattle.costs.specs.Gather.{sizes_in}
use Rattle.costs.specs.Gather.Sizes.{length_sizes, accepted-sizes-first, accepted-sizes_good}
use Rattle.costs.specs.Gather.Laws.{gathered-view, gathered_good}
use Rattle.costs.specs.Gathered.{gathered}
use Rattle.rules.specs.declared.Unit.{Unit as UnitState}
use Rattle.rules.specs.declared.Sending.{Sending}
use Rattle.rules.specs.State.{fresh, no_unit, empty_unit}
use Rattle.rules.specs.Step as U
use Rattle.rules.specs.Step.{Decision, Written, quiet, assign}
use Rattle.rules.specs.Send.{packets, packet_bytes}
use Rattle.rules.specs.Calls.{start}
use Rattle.rules.specs.Units.{unit_at}
use Rattle.rules.specs.Laws.Assign.{Whenever}
use Rattle.rules.specs.Laws.Calls.{make_starts}
use Rattle.rules.specs.Laws.Units.{set_unit, AllInRange, Leaves, start_in_range}
use Rattle.protocol.specs.Machine as M
use Rattle.protocol.specs.Machine.{Agent, Result}
use Rattle.protocol.specs.Air.Theorem.{KeptOnAir}
use Rattle.protocol.proofs.Air.Theorem.{make_on_air}
use Rattle.protocol.specs.Simulation.Units.{Matches, Simulated}
use Rattle.protocol.proofs.Simulation.Units.{start_simulated}
use Rattle.protocol.proofs.Simulation.Table.{stream-free, laws, views}
use Rattle.boxes.specs.Boxes.{make_box, number_of, Boxes, boxes_after, made_to, all_made}
use Rattle.boxes.specs.Invariant.{Invariant}

module _ (order : ValueOrder) (s : List ℕ) (ok : Accepted s) where
  -- ---- each making is accepted

  pub make_is : (k : ℕ) → k < units_of s → make_box order s k ≡ start (view_by order (instance_of s) k) k
  make_is k lt =
      make_starts order (suc k) (units_of s) (sizes_in s) (gathered s (suc k)) sending_size (omega (arith, length_sizes s, (accepted_units s ok).1))
      (record { shape = accepted-sizes_good s ok; unit = range_value (units_of s) (suc k) (omega arith) lt; lent = gathered_good s ok (suc k) (omega arith) lt (sizes_in s) (accepted-sizes-first s ok); fits = omega arith })
      ∙ ap (λ (w : View). start w k) (gathered-view order s ok (suc k) (omega arith) lt (sizes_in s) (accepted-sizes-first s ok))

  pub make-accepted : (k : ℕ) → k < units_of s → number_of (make_box order s k) ≡ 0
  make-accepted k lt = ap number_of (make_is k lt) ∙ by_place k
    where
      go : (d : Decision) → Simulated order (instance_of s) (replicate 16 fresh) [] (λ i. M.fresh) 0 (M.assign (problem_by order (instance_of s)) 0 M.fresh) d → number_of d ≡ 0
      go (U.refused r) x = absurd x
      go (U.accepted u o ws) x = refl

      by_place : (j : ℕ) → number_of (start (view_by order (instance_of s) j) j) ≡ 0
      by_place zero = go (assign (view_by order (instance_of s) 0) fresh) (start_simulated order (instance_of s) (sound_of s ok) (stream-free s))
      by_place (suc j) = refl

  -- ---- units that are the same as far as there are boxes

  same_matches : (hs hs' : List UnitState) (W : List Written) (us : ℕ → Agent) → length hs' ≡ 16 → ((k : ℕ) → k < (instance_of s).n → unit_at hs' k ≡ unit_at hs k)
      → Matches order (instance_of s) hs W us → Matches order (instance_of s) hs' W us
  same_matches hs hs' W us z e m = record { size = z; units = λ k lt. rw (e k lt) (m.units k lt); whole = m.whole; on_logs = m.on_logs; distinct = m.distinct }

  same_range : (hs hs' : List UnitState) → length hs' ≡ 16 → ((k : ℕ) → k < (instance_of s).n → unit_at hs' k ≡ unit_at hs k) → AllInRange order (instance_of s) (sizes_in s) hs → AllInRange order (instance_of s) (sizes_in s) hs'
  same_range hs hs' z e r = record { size = z; states = λ k lt. rw (e k lt) (r.states k lt); arrays = λ k lt. rw (e k lt) (r.arrays k lt) }

  -- ---- box 1 gave u, o and ws

  module _ (u : UnitState) (o : Sending) (ws : List Written) (gives : assign (view_by order (instance_of s) 0) fresh ≡ U.accepted u o ws) where
    -- the units that the machine's correspond to
    abbrev begun : List UnitState
    begun = set (replicate 16 fresh) 0 u

    -- the first j boxes
    record MadeTo (j : ℕ) (B : Boxes) : Type 0 where
      pub size : length B.units ≡ 16
      pub units : (k : ℕ) → k < j → unit_at B.units k ≡ unit_at begun k
      pub air : B.air ≡ map packet_bytes (packets (units_of s) 0 o)
      pub written : B.written ≡ ws
      pub accepted : B.accepted ≡ 0

    -- one more, which is new and sends nothing
    more : (j : ℕ) → suc j < units_of s → (B : Boxes) → MadeTo (suc j) B → MadeTo (suc (suc j)) (boxes_after (units_of s) B (suc j) B.air 0 (quiet fresh))
    unfolding packets
    more j lt B b =
        record {
          size = length-set B.units (suc j) fresh ∙ b.size;
          units = set_unit (λ i x. i < suc (suc j) → x ≡ unit_at begun i) B.units (suc j) fresh (omega (arith, b.size, lt, (accepted_units s ok).1)) (λ l. sym (get_or-replicate 15 j fresh empty_unit (omega (arith, lt, (accepted_units s ok).1)))) (λ i ne l. b.units i (omega (arith, ne, l)));
          air = append-nil B.air ∙ b.air;
          written = append-nil B.written ∙ b.written;
          accepted = refl;
        }

    made_to_lem : (j : ℕ) → suc j ≤ units_of s → MadeTo (suc j) (made_to order s (suc j))
    unfolding made_to
    made_to_lem zero le =
        subst (λ (d : Decision). MadeTo 1 (boxes_after (units_of s) (made_to order s 0) 0 [] 0 d)) (sym (make_is 0 le ∙ gives))
        (record { size = refl; units = λ k l. one k l; air = refl; written = refl; accepted = refl })
      where
        one : (k : ℕ) → k < 1 → unit_at (set (replicate 16 no_unit) 0 u) k ≡ unit_at begun k
        one zero l = refl
        one (suc k) l = absurd (omega (arith, l))
    made_to_lem (suc j) le =
        let b = made_to_lem j (omega (arith, le)) in
        subst (λ (d : Decision). MadeTo (suc (suc j)) (boxes_after (units_of s) (made_to order s (suc j)) (suc j) (made_to order s (suc j)).air 0 d)) (sym (make_is (suc j) le)) (more j le (made_to order s (suc j)) b)

    all_kept : Simulated order (instance_of s) (replicate 16 fresh) [] (λ k. M.fresh) 0 (M.assign (problem_by order (instance_of s)) 0 M.fresh) (U.accepted u o ws)
        → Whenever (Leaves order (instance_of s) (sizes_in s) (replicate 16 fresh) 0) (U.accepted u o ws) → Invariant order s ok (all_made order s)
    unfolding instance_of
    all_kept x l =
        record {
          machine = record { units = M.put (λ k. M.fresh) 0 x.agent; pool = x.sent; accepted = 0 };
          packets = packets (instance_of s).n 0 o;
          air = all.air;
          sendable = l.sent;
          reads = x.reads;
          range = same_range begun (all_made order s).units all.size all.units l.units;
          matches = subst (λ W. Matches order (instance_of s) (all_made order s).units W (M.put (λ k. M.fresh) 0 x.agent)) (sym all.written) (same_matches begun (all_made order s).units ws (M.put (λ k. M.fresh) 0 x.agent) all.size all.units x.matches);
          count = all.accepted;
          kept = subst (λ (r : Result). KeptOnAir (problem_by order (instance_of s)) (M.made r)) x.steps (make_on_air (problem_by order (instance_of s)) (laws order s ok) (sound_of s ok).n1);
        }
      where
        all_made_lem : (n : ℕ) → 1 ≤ n → n ≤ units_of s → MadeTo n (made_to order s n)
        all_made_lem zero a b = absurd (omega (arith, a))
        all_made_lem (suc j) a b = made_to_lem j b

        all : MadeTo (units_of s) (all_made order s)
        all = all_made_lem (units_of s) (accepted_units s ok).0 (omega arith)

  pub made_kept : Invariant order s ok (all_made order s)
  made_kept = go (assign (view_by order (instance_of s) 0) fresh) refl (start_simulated order (instance_of s) (sound_of s ok) (stream-free s)) (start_in_range order (instance_of s) (sizes_in s) (sound_of s ok).n16 (views order s ok) (sound_of s ok).n1)
    where
      go : (d : Decision) → assign (view_by order (instance_of s) 0) fresh ≡ d → Simulated order (instance_of s) (replicate 16 fresh) [] (λ k. M.fresh) 0 (M.assign (problem_by order (instance_of s)) 0 M.fresh) d
          → Whenever (Leaves order (instance_of s) (sizes_in s) (replicate 16 fresh) 0) d → Invariant order s ok (all_made order s)
      go (U.refused r) e x l = absurd x
      go (U.accepted u o ws) e x l = all_kept u o ws e x l
