-- Definitions. What is proved of them, and by them, is in proofs/CodeLaws.antt. Assumes nothing.
use Prim.Native.Nat.{ℕ, pred, ◌+◌, ◌*◌, ◌≤◌, ◌<◌}
use Rattle.std.specs.Prelude.{◌≡◌, Bool, leb}
use Rattle.std.proofs.Math.Bool.{true, cond}
use mathlib.Core.List.{List}
use Rattle.std.proofs.Math.ListN.{length}
use Rattle.std.proofs.Math.Seq.{paste}
use Rattle.base.specs.Limits.{pool_cells, pool_size, sending_size, message_size}
use Rattle.table.specs.Stream.{units_of, Accepted}
use Rattle.costs.specs.declared.ValueOrder.{ValueOrder}
use Rattle.costs.specs.Instance.{view_by, instance_of}
use Rattle.costs.specs.Gather.{sizes_in}
use Rattle.rules.specs.declared.Unit.{Unit as UnitState}
use Rattle.rules.specs.declared.Outcome.{Outcome}
use Rattle.rules.specs.State.{in_range}
use Rattle.rules.specs.Units.{unit_at}
use Rattle.rules.specs.Calls.{outcome_of, bytes_of}
use Rattle.runs.specs.declared.Core.{Core}
use Rattle.runs.specs.declared.Network.{Network}
use Rattle.runs.specs.declared.Answer.{Answer}
use Rattle.runs.specs.Calls.{core_begun, step_from8, network_after}

-- ---- the checks

abbrev pub unit_in_range : ValueOrder → List ℕ → List UnitState → ℕ → Bool
unit_in_range order s us k = in_range (sizes_in s) (view_by order (instance_of s) k) (unit_at us k)

-- what they say together: of the units and counts, and before any message is looked at
pub record SoundCore (order : ValueOrder) (core : Core) (s : List ℕ) : Type 0 where
  pub table : Accepted s
  pub states : (k : ℕ) → k < units_of s → unit_in_range order s core.units k ≡ true

pub record Passing (order : ValueOrder) (net : Network) (s pool : List ℕ) : Type 0 where
  pub room : pool_size ≤ length pool
  pub core : SoundCore order net.core s
  pub few : net.used ≤ pool_cells

-- ---- of a delivery: a message is at the cell too

pub record Open (order : ValueOrder) (net : Network) (s pool : List ℕ) (cell : ℕ) : Type 0 where
  pub passed : Passing order net s pool
  pub here : cell < net.used

-- ---- the step

-- a unit that can step: one of the n, in range
pub record Stepping (order : ValueOrder) (s : List ℕ) (own : ℕ) (u : UnitState) : Type 0 where
  pub table : Accepted s
  pub first : 1 ≤ own
  pub last : own ≤ units_of s
  pub state : in_range (sizes_in s) (view_by order (instance_of s) (pred own)) u ≡ true

-- what a step gives and leaves in its buffer
pub record Stepped (order : ValueOrder) (s : List ℕ) (own : ℕ) (u : UnitState) (bytes before : List ℕ) (r : Outcome) (after : List ℕ) : Type 0 where
  pub outcome : (us : List UnitState) → unit_at us (pred own) ≡ u → r ≡ outcome_of (units_of s) (pred own) u (step_from8 order s us own bytes)
  pub buffer : (us : List UnitState) → unit_at us (pred own) ≡ u → after ≡ bytes_of (units_of s) (pred own) before (step_from8 order s us own bytes)

-- ---- what is stored

-- what storing asks: so many cells stay in use, and what was sent stands in front of the buffer
pub record Storing (left : ℕ) (r : Outcome) (pool out : List ℕ) : Type 0 where
  pub few : left ≤ pool_cells
  pub room : pool_size ≤ length pool
  pub sent : r.sent ≤ 16
  pub buffer : sending_size ≤ length out

-- the answer and the pool's bytes, by the outcome r of the step and the bytes it sent; `cleared` is the pool with the cells that stay in use in front
abbrev pub stored_answer : Network → ℕ → ℕ → Outcome → Answer
stored_answer net left own r = cond (leb (left + r.sent) pool_cells) (record { refusal = 0; network = network_after net own r.unit (left + r.sent) r.records }) (record { refusal = 14; network = net })

abbrev pub stored_pool : List ℕ → ℕ → Outcome → List ℕ → List ℕ → List ℕ
stored_pool cleared left r out pool = cond (leb (left + r.sent) pool_cells) (paste cleared (message_size * left) out (message_size * r.sent)) pool

-- the network as making leaves it, by the outcome of unit 1's making
abbrev pub begun_answer : Outcome → Answer
begun_answer r = record { refusal = 0; network = record { core = core_begun r.unit r.records; used = r.sent } }
