-- THE INVARIANT of a run, on bytes, over messages and in the machine at once. Making gives it (Making), and each delivery keeps it, whatever its cell
-- (Delivery). At each point of a run it says: every unit is in range; every message that waits can be written, so its bytes read back as it, and is for
-- a unit; its step is accepted unless unit 1 has stopped (`step-accepted`); and the words count exactly, as both counts are below 2^128.
-- Assumes nothing.
use Rattle.std.specs.Prelude.{ℕ, ◌+◌, ◌*◌, ◌^◌, ◌<◌, ◌≡◌, refl, Bool, false, List, ◌∷◌, ◌++◌, length}
use Rattle.std.proofs.Common.{suc-le-suc, sym, ◌∙◌, subst, inl, inr, le_trans, mod-eq_of_lt}
use Rattle.base.specs.Members.{In, here}
use Rattle.base.specs.Members.Laws.{in_right}
use Rattle.table.specs.Stream.{Accepted}
use Rattle.costs.specs.declared.ValueOrder.{ValueOrder}
use Rattle.costs.specs.Instance.{instance_of}
use Rattle.costs.specs.Laws.Tried.{problem_by}
use Rattle.costs.specs.Laws.Stream.{sound_of}
use Rattle.message.specs.Message.{Packet}
use Rattle.rules.specs.Units.{place_of, step_on}
use Rattle.protocol.specs.Machine as M
use Rattle.protocol.specs.Machine.{to, Network}
use Rattle.protocol.specs.Tests.{true_not_false}
use Rattle.protocol.specs.Count.Tally.{Stops}
use Rattle.protocol.proofs.Count.Width.{most-fits}
use Rattle.protocol.specs.Theorem.{Kept}
use Rattle.protocol.proofs.Theorem.{kept_demand3}
use Rattle.protocol.specs.Simulation.Relations.{ReadAll}
use Rattle.protocol.proofs.Simulation.Units as X
use Rattle.protocol.specs.Simulation.Units.{Simulated}
use Rattle.protocol.proofs.Simulation.Units.{read_cut, step_simulated}
use Rattle.protocol.proofs.Simulation.Table.{stream-free, laws}
use Rattle.runs.specs.Count.{value_of}
use Rattle.runs.specs.Run.{History, stopped}
use Rattle.runs.specs.Demand3.{Shed, times}
use Rattle.runs.proofs.Steps.Stands.{Stands}

module _ (order : ValueOrder) (s : List ℕ) (ok : Accepted s) where
  -- ---- what holds at each point of a run

  pub record Invariant (S : Shed) (H : History) (A : Network) : Type 0 where
    -- the bytes and the messages, with the machine's units
    pub stands : Stands order s ok S H A.units
    -- the machine: its network is one that a run leads to, and the packets that wait read as its messages
    pub kept : Kept (problem_by order (instance_of s)) A
    pub reads : ReadAll order (instance_of s) H.waiting A.pool
    pub accepted : length H.handed ≡ A.accepted
    -- what was handed over and what waits is what was sent
    pub balanced : (t : Packet → Bool) → times t H.handed + times t H.waiting ≡ times t H.sent

  -- no more are accepted than fit two words
  pub accepted_below : (A : Network) → Kept (problem_by order (instance_of s)) A → A.accepted < 2 ^ 64 * 2 ^ 64
  accepted_below A k =
      le_trans (suc-le-suc (kept_demand3 (problem_by order (instance_of s)) (laws order s ok) (sound_of s ok).n1 A k).bounded) (most-fits (problem_by order (instance_of s)) (laws order s ok) (sound_of s ok).n16)

  module _ (S : Shed) (H : History) (A : Network) (i : Invariant S H A) where
    -- so the deliveries are counted exactly
    pub deliveries_exact : value_of S.network.core.deliveries ≡ length H.handed
    deliveries_exact = i.stands.core.deliveries ∙ mod-eq_of_lt (subst (λ x. x < 2 ^ 64 * 2 ^ 64) (sym i.accepted) (accepted_below A i.kept))

    -- ---- unit 1 has stopped or none has

    pub same_stop : stopped H ≡ (A.units 0).stopped
    same_stop = (i.stands.core.matches.units 0 (sound_of s ok).n1).common.stopped_is

    running : stopped H ≡ false → (k : ℕ) → (A.units k).stopped ≡ false
    running st = go i.kept.tally.stops
      where
        go : Stops (problem_by order (instance_of s)) A → (k : ℕ) → (A.units k).stopped ≡ false
        go (inl h) = absurd (true_not_false h (sym same_stop ∙ st))
        go (inr h) = h.1

    -- ---- a packet that waits, and its step

    module _ (st : stopped H ≡ false) (b : List Packet) (p : Packet) (a : List Packet) (e : H.waiting ≡ b ++ (p ∷ a)) where
      pub cut : X.CutAt order (instance_of s) b p a A.pool
      cut = read_cut order (instance_of s) b p a A.pool (subst (λ l. ReadAll order (instance_of s) l A.pool) e i.reads)

      pub step-accepted : Simulated order (instance_of s) H.units H.written A.units (place_of p) (M.step (problem_by order (instance_of s)) (A.units (to cut.message)) cut.message) (step_on order (instance_of s) H.units p)
      step-accepted =
          step_simulated order (instance_of s) (sound_of s ok) (stream-free s) H.units H.written A.units i.stands.core.matches i.kept.network.safe p cut.message cut.reads
          (i.kept.network.msgs cut.message (subst (In cut.message) (sym cut.whole) (in_right cut.before (here refl)))) (running st (to cut.message))
