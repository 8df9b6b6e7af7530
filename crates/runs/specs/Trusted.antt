-- Definitions. What is proved of them, and by them, is in proofs/Trusted.antt. Assumes nothing.
use Prim.Native.Nat.{ℕ, ◌+◌, ◌-◌, ◌≤◌}
use Rattle.std.specs.Prelude.{◌≡◌, List, take, drop}
use Rattle.base.specs.Bytes.Laws.{AllBytes}
use Rattle.base.specs.Limits.{pool_cells, message_size}
use Rattle.table.specs.Stream.{units_of}
use Rattle.costs.specs.declared.ValueOrder.{ValueOrder}
use Rattle.costs.specs.Instance.{lent_view}
use Rattle.costs.specs.Knowing.{Knows}
use Rattle.costs.specs.Gather.{sizes_in}
use Rattle.costs.specs.Gathered.{gathered}
use Rattle.rules.specs.declared.Unit.{Unit as UnitState}
use Rattle.rules.specs.declared.Outcome.{Outcome}
use Rattle.rules.specs.Units.{unit_at}
use Rattle.runs.specs.declared.Network.{Network}
use Rattle.runs.specs.Calls.{receiver_of, network_after, deliver_of}

-- ---- the oldest message, cell 0, of a network whose next delivery of it is accepted; the unit that it is for, and the costs lent with it

pub record Oldest (order : ValueOrder) (u : UnitState) (own n : ℕ) (sizes costs ahead pool : List ℕ) (used : ℕ) : Type 0 where
  pub stream : List ℕ
  pub net : Network
  pub accepted : (deliver_of order net stream pool 0).answer.refusal ≡ 0
  pub units : n ≡ units_of stream
  pub array : sizes ≡ sizes_in stream
  pub named : own ≡ receiver_of n (take message_size (drop 0 pool))
  pub unit : u ≡ unit_at net.core.units (own - 1)
  pub lent : costs ≡ gathered stream own
  pub knows : Knows (lent_view order own n sizes costs) ahead
  pub count : used ≡ net.used
  pub bytes : AllBytes (take message_size (drop 0 pool))

-- it is handed over: r is what its unit gave, and `after` the pool then
abbrev pub Handed : {order : ValueOrder} {u : UnitState} {own n : ℕ} {sizes costs ahead pool : List ℕ} {used : ℕ} → Oldest order u own n sizes costs ahead pool used → Outcome → List ℕ → Type 0
Handed {order} {u} {own} {n} {sizes} {costs} {ahead} {pool} {used} t r after =
    (record { refusal = 0; network = network_after t.net own r.unit (t.net.used - 1 + r.sent) r.records } ≡ (deliver_of order t.net t.stream pool 0).answer)
    × (after ≡ (deliver_of order t.net t.stream pool 0).pool) × (used - 1 + r.sent ≤ pool_cells)
