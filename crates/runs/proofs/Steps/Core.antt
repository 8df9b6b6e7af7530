-- The units and counts of a network, on bytes, over messages and in the machine (`CoreFollows`), whatever pool their packets wait in: unit 1's making gives it
-- (`core_starts`), and a packet handed to its unit keeps it (`core_steps`). And a packet that can be written reads back from its bytes as itself.
-- In order: the core; a packet and its bytes; the counts; making and a step.
-- Assumes nothing.
use Rattle.std.specs.Prelude.{ℕ, ◌+◌, ◌*◌, ◌%◌, ◌^◌, ◌<◌, ◌≡◌, refl, true, List, [], ◌∷◌, ◌++◌, length, set, replicate}
use Rattle.std.proofs.Common.{sym, ◌∙◌, zero-add, length-append}
use Rattle.std.proofs.Math.Path.{ap, subst}
use Rattle.std.proofs.Math.Bool.{cond}
use Rattle.table.specs.Stream.{units_of, Accepted}
use Rattle.costs.specs.declared.ValueOrder.{ValueOrder}
use Rattle.costs.specs.Instance.{view_by, instance_of}
use Rattle.costs.specs.Laws.Tried.{problem_by}
use Rattle.costs.specs.Laws.Stream.{sound_of}
use Rattle.costs.specs.Gather.{sizes_in}
use Rattle.costs.specs.Gather.Sizes.{accepted-sizes_good}
use Rattle.message.specs.Message.{Packet, is_unit}
use Rattle.message.specs.RoundTrip.{parse_encode, receiver_of_encode}
use Rattle.rules.specs.declared.Unit.{Unit as UnitState}
use Rattle.rules.specs.declared.Sending.{Sending}
use Rattle.rules.specs.State.{fresh}
use Rattle.rules.specs.Step as U
use Rattle.rules.specs.Step.{Decision, Written, assign}
use Rattle.rules.specs.Send.{packets, packet_bytes}
use Rattle.rules.specs.Calls.{on_read}
use Rattle.rules.specs.Units.{unit_at, place_of, step_on}
use Rattle.rules.specs.Laws.Packets.{Sendable}
use Rattle.rules.specs.Laws.Units.{Leaves, receiver_unit, start_in_range}
use Rattle.rules.specs.Laws.Assign.{Whenever}
use Rattle.protocol.specs.Machine as M
use Rattle.protocol.specs.Machine.{Msg, to, Agent, Result}
use Rattle.protocol.specs.Safety.Logs.{Safe}
use Rattle.protocol.proofs.Count.Width.{records_fit}
use Rattle.protocol.specs.Simulation.Relations.{Reads}
use Rattle.protocol.specs.Simulation.Units.{Matches, StepsTo, Simulated}
use Rattle.protocol.proofs.Simulation.Units.{read_to, start_simulated}
use Rattle.protocol.proofs.Simulation.Table.{stream-free, laws, views}
use Rattle.runs.specs.declared.Core.{Core}
use Rattle.runs.specs.Count.{zero_count, value_of}
use Rattle.runs.specs.Count.Laws.{plus_exact, plus_one}
use Rattle.runs.specs.Run.{Pool, HistoryOf, history_after, begun_with}
use Rattle.runs.specs.Calls.{core_begun, core_after, core_refusal, receiver_of, step_from8}
use Rattle.runs.specs.Code.{unit_in_range}
use Rattle.runs.proofs.CodeLaws.{sound_passes}
use Rattle.runs.specs.Proof.Core.{CoreFollows}

module _ (order : ValueOrder) (s : List ℕ) (ok : Accepted s) where
  -- so no call refuses them
  pub core_passes : {W : Type 0} (core : Core) (H : HistoryOf W) (us : ℕ → Agent) → CoreFollows order s core H us → core_refusal order core s ≡ 0
  unfolding instance_of
  core_passes core H us f = sound_passes order core s (record { table = ok; states = λ k l. subst (λ hs. unit_in_range order s hs k ≡ true) (sym f.same) (f.units.states k l) })

  -- ---- a packet that can be written, and its bytes

  module _ (p : Packet) (w : Sendable (instance_of s).n (sizes_in s) p) where
    pub receiver_is : receiver_of (units_of s) (packet_bytes p) ≡ p.message.receiver
    unfolding instance_of
    receiver_is =
        ap (λ r. cond (is_unit (units_of s) r) r 1) (receiver_of_encode p.kind p.message w.arrays)
        ∙ ap (λ t. cond t p.message.receiver 1) (receiver_unit (units_of s) (sizes_in s) p w)

    pub step_is : (us : List UnitState) → step_from8 order s us p.message.receiver (packet_bytes p) ≡ step_on order (instance_of s) us p
    unfolding step_from8 instance_of
    step_is us =
        ap (on_read (view_by order (instance_of s) (place_of p)) (unit_at us (place_of p)))
        (parse_encode (units_of s) (sizes_in s) p.kind p.message (accepted-sizes_good s ok) w.address w.form w.arrays)

  -- ---- the records fit two words

  records_below : (us : ℕ → Agent) → Safe (problem_by order (instance_of s)) us → (hs : List UnitState) (W : List Written) → Matches order (instance_of s) hs W us → length W < 2 ^ 64 * 2 ^ 64
  records_below us safe hs W m = subst (λ x. x < 2 ^ 128) (sym m.whole) (records_fit (problem_by order (instance_of s)) (laws order s ok) us safe (sound_of s ok).n16)

  -- ---- making

  -- the machine's
  abbrev pub first_step : Result
  first_step = M.assign (problem_by order (instance_of s)) 0 M.fresh

  -- unit 1 gave u, o and ws, as the machine's does
  pub record Begun (u : UnitState) (o : Sending) (ws : List Written) : Type 0 where
    pub steps : StepsTo order (instance_of s) (replicate 16 fresh) [] (λ k. M.fresh) 0 first_step u o ws
    pub leaves : Leaves order (instance_of s) (sizes_in s) (replicate 16 fresh) 0 u o ws

  -- its assigning is never refused, so what holds then holds of what it gives
  pub unit-made : (Q : Decision → Type 0) → ((u : UnitState) (o : Sending) (ws : List Written) → Begun u o ws → Q (U.accepted u o ws)) → Q (assign (view_by order (instance_of s) 0) fresh)
  unit-made Q f =
      go (assign (view_by order (instance_of s) 0) fresh) (start_simulated order (instance_of s) (sound_of s ok) (stream-free s))
      (start_in_range order (instance_of s) (sizes_in s) (sound_of s ok).n16 (views order s ok) (sound_of s ok).n1)
    where
      go : (o : Decision) → Simulated order (instance_of s) (replicate 16 fresh) [] (λ k. M.fresh) 0 first_step o → Whenever (Leaves order (instance_of s) (sizes_in s) (replicate 16 fresh) 0) o → Q o
      go (U.refused r) x l = absurd x
      go (U.accepted u o ws) x l = f u o ws (record { steps = x; leaves = l })

  pub core_starts : {W : Type 0} (L : Pool W) (u : UnitState) (o : Sending) (ws : List Written) (b : Begun u o ws) → Safe (problem_by order (instance_of s)) (M.put (λ k. M.fresh) 0 b.steps.agent)
      → CoreFollows order s (core_begun u (length ws)) (begun_with L (instance_of s) (U.accepted u o ws)) (M.put (λ k. M.fresh) 0 b.steps.agent)
  core_starts L u o ws b safe =
      record {
        matches = b.steps.matches;
        units = b.leaves.units;
        same = refl;
        records = plus_exact (length ws) zero_count (subst (λ y. y < 2 ^ 64 * 2 ^ 64) (sym (zero-add (length ws))) (records_below (M.put (λ k. M.fresh) 0 b.steps.agent) safe _ ws b.steps.matches)) ∙ zero-add (length ws);
        deliveries = refl;
      }

  -- ---- a step: the packet p, which reads as m, was handed to its unit, which gave u, o and ws

  pub core_steps : {W : Type 0} (core : Core) (H : HistoryOf W) (us : ℕ → Agent) → CoreFollows order s core H us → (p : Packet) (m : Msg) → Reads order (instance_of s) p m → (res : Result) (u : UnitState) (o : Sending) (ws : List Written)
      (x : StepsTo order (instance_of s) H.units H.written us (place_of p) res u o ws) → Leaves order (instance_of s) (sizes_in s) H.units (place_of p) u o ws
      → Safe (problem_by order (instance_of s)) (M.put us (to m) x.agent) → (w : W)
      → CoreFollows order s (core_after core p.message.receiver u (length ws)) (history_after H p u (packets (instance_of s).n (place_of p) o) ws w) (M.put us (to m) x.agent)
  core_steps core H us f p m rd res u o ws x l safe w =
      record {
        matches = matched;
        units = l.units;
        same = ap (λ hs. set hs (place_of p) u) f.same;
        records =
            plus_exact (length ws) core.records (subst (λ y. y < 2 ^ 64 * 2 ^ 64) (sym count_records) (records_below (M.put us (to m) x.agent) safe (set H.units (place_of p) u) (H.written ++ ws) matched))
            ∙ count_records;
        deliveries = plus_one core.deliveries (length H.handed) f.deliveries ∙ ap (λ y. y % (2 ^ 64 * 2 ^ 64)) (sym (length-append H.handed (p ∷ [])));
      }
    where
      matched : Matches order (instance_of s) (set H.units (place_of p) u) (H.written ++ ws) (M.put us (to m) x.agent)
      matched = subst (λ k. Matches order (instance_of s) (set H.units (place_of p) u) (H.written ++ ws) (M.put us k x.agent)) (read_to order (instance_of s) p m rd) x.matches

      count_records : value_of core.records + length ws ≡ length (H.written ++ ws)
      count_records = ap (λ y. y + length ws) f.records ∙ sym (length-append H.written ws)
