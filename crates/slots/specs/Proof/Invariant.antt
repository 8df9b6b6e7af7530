-- THE INVARIANT of a run over 02's pool, on bytes, over messages and in the machine at once. Making gives it (Making), and each delivery keeps it, whatever its cell (Delivery). The
-- machine's pool lists what stands in the cells; a message there is overwritten as its packet is, so the machine's network is no run of its own pool: it is one of the invariant's parts.
-- Assumes nothing.
use Rattle.std.specs.Prelude.{◌≡◌, ℕ, ◌+◌, ◌<◌, ◌≤◌, Bool, false, List, map, length}
use Rattle.std.proofs.Common.{sym, ◌∙◌, inl, inr, mod-eq_of_lt}
use Rattle.std.proofs.Math.Option.{Option}
use Rattle.base.specs.Members.{In, Every}
use Rattle.table.specs.Stream.{Accepted}
use Rattle.costs.specs.declared.ValueOrder.{ValueOrder}
use Rattle.costs.specs.Instance.{instance_of}
use Rattle.costs.specs.Laws.Tried.{problem_by}
use Rattle.costs.specs.Laws.Stream.{sound_of}
use Rattle.costs.specs.Gather.{sizes_in}
use Rattle.message.specs.Message.{Packet}
use Rattle.rules.specs.Units.{place_of, step_on}
use Rattle.protocol.specs.Machine as M
use Rattle.protocol.specs.Machine.{Msg, to, Agent, Network}
use Rattle.protocol.specs.Tests.{true_not_false}
use Rattle.protocol.specs.Count.Tally.{Stops}
use Rattle.protocol.specs.Simulation.Relations.{Reads}
use Rattle.protocol.specs.Simulation.Units.{Simulated}
use Rattle.protocol.proofs.Simulation.Units.{step_simulated}
use Rattle.protocol.proofs.Simulation.Table.{stream-free}
use Rattle.protocol.specs.Slots.Run.{KeptSlots}
use Rattle.runs.specs.Count.{value_of}
use Rattle.runs.specs.Pool.{cell_of}
use Rattle.runs.specs.Run.{stopped}
use Rattle.runs.specs.Demand3.{times}
use Rattle.runs.specs.Proof.Core.{CoreFollows}
use Rattle.runs.proofs.Steps.Invariant.{accepted_below}
use Rattle.slots.specs.Slot.{slot_pool_size, used_slots}
use Rattle.slots.specs.Run.{Lost, at_cell, waiting_in, History}
use Rattle.slots.specs.Bytes.{slot_bytes}
use Rattle.slots.specs.Demand3.{Shed, Fresher}
use Rattle.slots.specs.Proof.Messages.{AllStand}

-- the machine's network with these messages in its cells
abbrev pub machine_of : (ℕ → Agent) → List (Option Msg) → ℕ → Network
machine_of us msgs accepted = record { units = us; pool = waiting_in msgs; accepted = accepted }

module _ (order : ValueOrder) (s : List ℕ) (ok : Accepted s) where
  pub record Invariant (S : Shed) (H : History) : Type 0 where
    -- the machine: its units, and the message of each cell
    pub agents : ℕ → Agent
    pub msgs : List (Option Msg)
    pub kept : KeptSlots (problem_by order (instance_of s)) (machine_of agents msgs (length H.handed))
    -- the units and counts: the same on bytes and over messages, in range, and the machine's
    pub core : CoreFollows order s S.core H agents
    -- the cells: each packet is in its own, can be written and reads as the machine's message; and the pool has its bytes there, or zeros
    pub cells : AllStand order (instance_of s) (sizes_in s) H.waiting.cells msgs
    pub bytes : (c : ℕ) → c < used_slots (instance_of s).n → cell_of S.pool c ≡ slot_bytes (at_cell H.waiting.cells c)
    pub room : slot_pool_size ≤ length S.pool
    -- what was handed over, what waits and what was overwritten is what was sent; and that was not newer than what overwrote it
    pub balanced : (t : Packet → Bool) → times t H.handed + times t (waiting_in H.waiting.cells) + times t (map (λ (o : Lost Packet). o.older) H.waiting.overwritten) ≡ times t H.sent
    pub fresher : Every (Fresher (instance_of s).n (sizes_in s)) H.waiting.overwritten

  module _ (S : Shed) (H : History) (i : Invariant S H) where
    abbrev pub machine : Network
    machine = machine_of i.agents i.msgs (length H.handed)

    -- the deliveries are counted exactly
    pub deliveries_exact : value_of S.core.deliveries ≡ length H.handed
    deliveries_exact = i.core.deliveries ∙ mod-eq_of_lt (accepted_below order s ok machine i.kept.kept)

    -- ---- unit 1 has stopped or none has

    pub same_stop : stopped H ≡ (i.agents 0).stopped
    same_stop = (i.core.matches.units 0 (sound_of s ok).n1).common.stopped_is

    running : stopped H ≡ false → (k : ℕ) → (i.agents k).stopped ≡ false
    running st = go i.kept.kept.tally.stops
      where
        go : Stops (problem_by order (instance_of s)) machine → (k : ℕ) → (i.agents k).stopped ≡ false
        go (inl h) = absurd (true_not_false h (sym same_stop ∙ st))
        go (inr h) = h.1

    -- ---- a packet that waits, and its step

    pub step-accepted : stopped H ≡ false → (p : Packet) (m : Msg) → Reads order (instance_of s) p m → In m (waiting_in i.msgs)
        → Simulated order (instance_of s) H.units H.written i.agents (place_of p) (M.step (problem_by order (instance_of s)) (i.agents (to m)) m) (step_on order (instance_of s) H.units p)
    step-accepted st p m rd w =
        step_simulated order (instance_of s) (sound_of s ok) (stream-free s) H.units H.written i.agents i.core.matches i.kept.kept.network.safe p m rd (i.kept.kept.network.msgs m w) (running st (to m))
