-- Definitions. What is proved of them, and by them, is in proofs/Settle/Laws.antt. Assumes nothing.
use Rattle.std.specs.Prelude.{ℕ, ◌≡◌, true, List}
use Rattle.costs.specs.declared.ValueOrder.{ValueOrder}
use Rattle.runs.specs.declared.Network.{Network}
use Rattle.runs.specs.Count.{value_of}
use Rattle.runs.specs.Calls.{make_of}
use Rattle.runs.specs.Deliveries.{deliver_all}
use Rattle.runs.specs.Demand3.{Shed, delivery, over}
use Rattle.runs.specs.Settle.{cell_zero}

abbrev pub After : ValueOrder → List ℕ → Shed → Shed → Type 0
After order s S₀ S = S ≡ deliver_all (delivery order s) S₀ (cell_zero (value_of S.network.core.deliveries))

-- a network as making gave it
pub record Begun (order : ValueOrder) (s : List ℕ) (net : Network) (m : List ℕ) : Type 0 where
  pub pool : List ℕ
  pub gave : (record { refusal = 0; network = net } ≡ (make_of order s pool).answer) × (m ≡ (make_of order s pool).pool)

-- and what some deliveries of cell 0 leave of it, once unit 1 has stopped
pub record Ended (order : ValueOrder) (s : List ℕ) (net : Network) (m : List ℕ) (end : Network) (pool : List ℕ) : Type 0 where
  pub stopped : over (record { network = end; pool = pool }) ≡ true
  pub after : After order s (record { network = net; pool = m }) (record { network = end; pool = pool })
