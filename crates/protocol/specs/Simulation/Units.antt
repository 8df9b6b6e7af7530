-- Definitions. What is proved of them, and by them, is in proofs/Simulation/Units.antt. Assumes nothing.
use Rattle.std.specs.Prelude.{ℕ, ◌<◌, ◌≡◌, List, ◌∷◌, ◌++◌, length, set}
use Rattle.base.specs.Sums.{sum_to}
use Rattle.base.specs.Members.{Every}
use Rattle.costs.specs.declared.ValueOrder.{ValueOrder}
use Rattle.costs.specs.Instance.{Instance}
use Rattle.message.specs.Message.{Packet}
use Rattle.rules.specs.declared.Unit.{Unit as UnitState}
use Rattle.rules.specs.declared.Sending.{Sending}
use Rattle.rules.specs.Step as U
use Rattle.rules.specs.Step.{Decision, Written}
use Rattle.rules.specs.Send.{packets}
use Rattle.rules.specs.Units.{unit_at, Distinct}
use Rattle.protocol.specs.Machine as M
use Rattle.protocol.specs.Machine.{Msg, Agent, Result}
use Rattle.protocol.specs.Simulation.Relations.{Reads, ReadAll, AtRest}
use Rattle.protocol.specs.Simulation.Records.{OnLogs}

-- a list of packets, cut where one reads as a message
pub record ReadAs (order : ValueOrder) (I : Instance) (ps : List Packet) (m : Msg) : Type 0 where
  pub front : List Packet
  pub packet : Packet
  pub rest : List Packet
  pub whole : ps ≡ front ++ (packet ∷ rest)
  pub reads : Reads order I packet m

-- ---- what corresponds

-- the units hs, which have written W, and the machine's units us
pub record Matches (order : ValueOrder) (I : Instance) (hs : List UnitState) (W : List Written) (us : ℕ → Agent) : Type 0 where
  pub size : length hs ≡ 16
  pub units : (k : ℕ) → k < I.n → AtRest order I k (unit_at hs k) (us k)
  pub whole : length W ≡ sum_to (λ k. length (us k).log) I.n
  pub on_logs : Every (OnLogs order I us) W
  pub distinct : Distinct W

-- a step of the unit at place k that gave u, o and ws, and what the machine's step gave
pub record StepsTo (order : ValueOrder) (I : Instance) (hs : List UnitState) (W : List Written) (us : ℕ → Agent) (k : ℕ) (res : Result) (u : UnitState) (o : Sending) (ws : List Written) : Type 0 where
  pub agent : Agent
  pub sent : List Msg
  pub steps : res ≡ M.done agent sent
  pub reads : ReadAll order I (packets I.n k o) sent
  pub matches : Matches order I (set hs k u) (W ++ ws) (M.put us k agent)

-- it is never refused
abbrev pub Simulated : ValueOrder → Instance → List UnitState → List Written → (ℕ → Agent) → ℕ → Result → Decision → Type 0
Simulated order I hs W us k res (U.refused x) = ⊥
Simulated order I hs W us k res (U.accepted u o ws) = StepsTo order I hs W us k res u o ws
