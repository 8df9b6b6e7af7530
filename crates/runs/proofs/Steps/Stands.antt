-- The bytes of a shed and its run over messages (`Stands`), with the machine's units, whatever became of the messages that were taken: what each check before the
-- message gives, what the delivery of a packet at its cell and an echo of a packet are on bytes, and that `Stands` holds again once its unit has stepped.
-- In order: what stands; the checks; a packet from its cell, and one heard again; after its step.
-- Assumes nothing.
use Rattle.std.specs.Prelude.{ℕ, ◌+◌, ◌-◌, ◌≤◌, ◌≡◌, refl, Bool, true, false, take}
use Rattle.std.proofs.Common.{sym, ◌∙◌, subst, arith}
use Rattle.std.proofs.Math.Path.{ap}
use Rattle.std.proofs.Math.Bool.{cond}
use mathlib.Core.List.{List, ◌++◌}
use Rattle.std.proofs.Math.Option.{some}
use Rattle.std.proofs.Math.Dec.{leb}
use Rattle.std.proofs.Math.ListN.{length, length-append}
use Rattle.base.specs.Limits.{pool_cells}
use Rattle.base.specs.Members.{In, here, Every}
use Rattle.base.specs.Members.Laws.{in_right, every_append}
use Rattle.table.specs.Stream.{units_of, Accepted}
use Rattle.costs.specs.declared.ValueOrder.{ValueOrder}
use Rattle.costs.specs.Instance.{instance_of}
use Rattle.costs.specs.Laws.Tried.{problem_by}
use Rattle.costs.specs.Gather.{sizes_in}
use Rattle.message.specs.Message.{Packet}
use Rattle.rules.specs.declared.Unit.{Unit as UnitState}
use Rattle.rules.specs.declared.Sending.{Sending}
use Rattle.rules.specs.Step as U
use Rattle.rules.specs.Step.{Decision, Written}
use Rattle.rules.specs.Send.{packets, packet_bytes}
use Rattle.rules.specs.Units.{unit_at, place_of, step_on}
use Rattle.rules.specs.Laws.Packets.{Sendable}
use Rattle.rules.specs.Laws.Units.{Leaves}
use Rattle.protocol.specs.Machine as M
use Rattle.protocol.specs.Machine.{Msg, to, Agent, Result}
use Rattle.protocol.specs.Safety.Logs.{Safe}
use Rattle.protocol.specs.Simulation.Relations.{Reads}
use Rattle.protocol.specs.Simulation.Units.{StepsTo}
use Rattle.runs.specs.Pool.{cell_of, pool_after, pool_with}
use Rattle.runs.specs.Pool.Stored.{AllSized, StandsAt, stands_at, Stored, cell_in_use, cell_bytes, used_after}
use Rattle.runs.specs.Run as R
use Rattle.runs.specs.Run.{History, cells, stopped}
use Rattle.runs.specs.Calls as C
use Rattle.runs.specs.Calls.{core_refusal, network_refusal, receiver_of, step_from8, deliver_of, echo_of}
use Rattle.runs.specs.Demand3.{Shed}
use Rattle.runs.proofs.CodeLaws.{check_stopped, check_running, check_none, deliver_goes, echo_goes}
use Rattle.runs.specs.Proof.Core.{CoreFollows}
use Rattle.runs.proofs.Steps.Core.{core_passes, receiver_is, step_is, core_steps}

module _ (order : ValueOrder) (s : List ℕ) (ok : Accepted s) where
  -- ---- what stands

  pub record Stands (S : Shed) (H : History) (us : ℕ → Agent) : Type 0 where
    -- the units and counts: the same on bytes and over messages, in range, and the machine's
    pub core : CoreFollows order s S.network.core H us
    -- the pool: what waits can be written, and stands in its cells
    pub sendable : Every (Sendable (instance_of s).n (sizes_in s)) H.waiting
    pub few : length H.waiting ≤ pool_cells
    pub stored : Stored H.waiting S.network.used S.pool

  pub sized : (ps : List Packet) → Every (Sendable (instance_of s).n (sizes_in s)) ps → AllSized ps
  sized ps w p i = (w p i).arrays

  module _ (S : Shed) (H : History) (us : ℕ → Agent) (i : Stands S H us) where
    -- ---- the checks: all pass until unit 1 has stopped, and then it is 12

    sound : core_refusal order S.network.core s ≡ 0
    sound = core_passes order s ok S.network.core H us i.core

    in_use : S.network.used ≤ pool_cells
    in_use = omega (arith, i.stored.count, i.few)

    stop_is : (unit_at S.network.core.units 0).stopped ≡ stopped H
    stop_is = ap (λ hs. (unit_at hs 0).stopped) i.core.same

    pub over_refuses : stopped H ≡ true → 12 ≡ network_refusal order S.network s S.pool
    over_refuses st = check_stopped order S.network s S.pool i.stored.room sound in_use (stop_is ∙ st)

    pub running_passes : stopped H ≡ false → network_refusal order S.network s S.pool ≡ 0
    running_passes st = sym (check_running order S.network s S.pool i.stored.room sound in_use (stop_is ∙ st))

    -- ---- a packet that can be written goes to its unit

    module _ (st : stopped H ≡ false) (p : Packet) where
      -- from its bytes, by any call that then stores what is left
      handed : (w : Sendable (instance_of s).n (sizes_in s) p) (bytes : List ℕ) → bytes ≡ packet_bytes p → (Q : ℕ → Decision → C.Result)
          → Q (receiver_of (units_of s) bytes) (step_from8 order s S.network.core.units (receiver_of (units_of s) bytes) bytes) ≡ Q p.message.receiver (step_on order (instance_of s) H.units p)
      handed w bytes e Q =
          ap (λ (x : List ℕ). Q (receiver_of (units_of s) x) (step_from8 order s S.network.core.units (receiver_of (units_of s) x) x)) e
          ∙ ap (λ (y : ℕ). Q y (step_from8 order s S.network.core.units y (packet_bytes p))) (receiver_is order s ok p w)
          ∙ ap (Q p.message.receiver) (step_is order s ok p w S.network.core.units ∙ ap (λ hs. step_on order (instance_of s) hs p) i.core.same)

      abbrev pub left_by : UnitState → ℕ → List Packet → List Written → List ℕ → C.Result
      left_by u left ps ws pool = record { answer = record { refusal = 0; network = C.network_after S.network p.message.receiver u (left + length ps) (length ws) }; pool = pool }

      echoed : Sendable (instance_of s).n (sizes_in s) p
          → echo_of order S.network s S.pool (packet_bytes p)
          ≡ C.stored S.network S.pool S.network.used (λ (ps : List Packet). pool_with S.network.used ps S.pool) (units_of s) p.message.receiver (step_on order (instance_of s) H.units p)
      echoed w =
          sym (echo_goes order S.network s S.pool (packet_bytes p) (running_passes st))
          ∙ handed w (packet_bytes p) refl (λ own o. C.stored S.network S.pool S.network.used (λ (ps : List Packet). pool_with S.network.used ps S.pool) (units_of s) own o)

      pub echo_leaves : Sendable (instance_of s).n (sizes_in s) p → (u : UnitState) (o : Sending) (ws : List Written) → step_on order (instance_of s) H.units p ≡ U.accepted u o ws → (t : Bool)
          → leb (length (H.waiting ++ packets (instance_of s).n (place_of p) o)) pool_cells ≡ t
          → echo_of order S.network s S.pool (packet_bytes p)
          ≡ cond t (left_by u S.network.used (packets (instance_of s).n (place_of p) o) ws (pool_with S.network.used (packets (instance_of s).n (place_of p) o) S.pool)) (C.refused_delivery S.network S.pool 14)
      unfolding instance_of
      echo_leaves w u o ws gives t q =
          let n : S.network.used + length (packets (units_of s) (place_of p) o) ≡ length (H.waiting ++ packets (units_of s) (place_of p) o) = omega (arith, i.stored.count, length-append H.waiting (packets (units_of s) (place_of p) o)) in
          echoed w
          ∙ ap (C.stored S.network S.pool S.network.used (λ (ps : List Packet). pool_with S.network.used ps S.pool) (units_of s) p.message.receiver) gives
          ∙ ap (λ y. cond y (left_by u S.network.used (packets (units_of s) (place_of p) o) ws (pool_with S.network.used (packets (units_of s) (place_of p) o) S.pool)) (C.refused_delivery S.network S.pool 14))
          (ap (λ k. leb k pool_cells) n ∙ q)

      module _ (c : ℕ) (e : cells.at H.waiting c ≡ some p) where
        pub here_is : StandsAt H.waiting c p
        here_is = stands_at H.waiting c p e

        pub waits : In p H.waiting
        waits = subst (In p) (sym here_is.whole) (in_right (take c H.waiting) (here refl))

        delivered_from : deliver_of order S.network s S.pool c ≡ C.on_out S.network S.pool c (units_of s) p.message.receiver (step_on order (instance_of s) H.units p)
        delivered_from =
            let z = sized H.waiting i.sendable in
            sym (deliver_goes order S.network s S.pool c (sym (check_none order S.network s S.pool c (running_passes st) (cell_in_use H.waiting S.network.used S.pool i.stored z c p e))))
            ∙ handed (i.sendable p waits) (cell_of S.pool c) (cell_bytes H.waiting S.network.used S.pool i.stored z c p e) (λ own o. C.on_out S.network S.pool c (units_of s) own o)

        -- its step gave u, o and ws: where what is sent fits, the call leaves this, else it is 14
        pub cell_leaves : (u : UnitState) (o : Sending) (ws : List Written) → step_on order (instance_of s) H.units p ≡ U.accepted u o ws → (t : Bool)
            → leb (length (cells.without H.waiting c ++ packets (instance_of s).n (place_of p) o)) pool_cells ≡ t
            → deliver_of order S.network s S.pool c ≡ cond t (left_by u (S.network.used - 1) (packets (instance_of s).n (place_of p) o) ws (pool_after S.network.used c (packets (instance_of s).n (place_of p) o) S.pool)) (C.refused_delivery S.network S.pool 14)
        unfolding instance_of
        cell_leaves u o ws gives t q =
            delivered_from ∙ ap (C.on_out S.network S.pool c (units_of s) p.message.receiver) gives
            ∙ ap (λ y. cond y (left_by u (S.network.used - 1) (packets (units_of s) (place_of p) o) ws (pool_after S.network.used c (packets (units_of s) (place_of p) o) S.pool)) (C.refused_delivery S.network S.pool 14))
            (ap (λ n. leb n pool_cells) (used_after H.waiting S.network.used S.pool i.stored (sized H.waiting i.sendable) c p e (packets (units_of s) (place_of p) o)) ∙ q)

    -- ---- after its step, which gave u, o and ws: `rest` still waits, and what was sent behind it

    module _ (p : Packet) (m : Msg) (rd : Reads order (instance_of s) p m) (res : Result) (u : UnitState) (o : Sending) (ws : List Written)
        (x : StepsTo order (instance_of s) H.units H.written us (place_of p) res u o ws) (l : Leaves order (instance_of s) (sizes_in s) H.units (place_of p) u o ws)
        (safe : Safe (problem_by order (instance_of s)) (M.put us (to m) x.agent)) where
      abbrev ps : List Packet
      ps = packets (instance_of s).n (place_of p) o

      pub stands_after : (rest : List Packet) → Every (Sendable (instance_of s).n (sizes_in s)) rest → (used : ℕ) (pool : List ℕ) → Stored (rest ++ ps) used pool → length (rest ++ ps) ≤ pool_cells
          → Stands (record { network = C.network_after S.network p.message.receiver u used (length ws); pool = pool }) (R.history_after H p u ps ws (rest ++ ps)) (M.put us (to m) x.agent)
      stands_after rest w used pool st few =
          record {
            core = core_steps order s ok S.network.core H us i.core p m rd res u o ws x l safe (rest ++ ps);
            sendable = every_append _ rest ps w l.sent;
            few = few;
            stored = st;
          }
