-- Running over 02's pool to its end: the lowest cell in use is delivered until unit 1 stops. It is a run of (3n - 1) × N deliveries, as demand 3 says that no run accepts
-- more, and once unit 1 has stopped a delivery changes nothing. Assumes nothing.
use Rattle.std.specs.Prelude.{ℕ, zero, suc, cond, List, [], ◌∷◌}
use Rattle.table.specs.Block.{all_zero}
use Rattle.table.specs.Stream.{units_of}
use Rattle.costs.specs.declared.ValueOrder.{ValueOrder}
use Rattle.costs.specs.Instance.{instance_of}
use Rattle.runs.specs.{Pool.cell_of, Demand3.most}
use Rattle.slots.specs.{Slot.used_slots, Calls.Result, Calls.make_of, Demand3.Shed, Demand3.shed_made, Demand3.shed_after, Demand3.run_bytes}
pub mod Laws

-- the first of k cells from c on that isn't all zero, or the one behind them
unfoldable pub first_from : ℕ → ℕ → List ℕ → ℕ
first_from zero c pool = c
first_from (suc k) c pool = cond (all_zero (cell_of pool c)) (first_from k (suc c) pool) c

-- the lowest cell in use
abbrev pub lowest : ℕ → List ℕ → ℕ
lowest n pool = first_from (used_slots n) 0 pool

-- each time the lowest in use, k times
unfoldable pub lowest_cells : ValueOrder → List ℕ → Shed → ℕ → List ℕ
lowest_cells order stream S zero = []
lowest_cells order stream S (suc k) = let c = lowest (units_of stream) S.pool in c ∷ lowest_cells order stream (shed_after order stream S c) k

-- not refused
abbrev pub settled : Shed → Result
settled S = record { answer = record { refusal = 0; core = S.core }; pool = S.pool }

abbrev pub unless_unmade : ValueOrder → ℕ → List ℕ → List ℕ → Result
unless_unmade order zero stream pool = settled (run_bytes order stream pool (lowest_cells order stream (shed_made order stream pool) (most (instance_of stream))))
unless_unmade order (suc r) stream pool = make_of order stream pool

-- Making's refusal; or none, with what the run leaves.
unfoldable pub settle_of : ValueOrder → List ℕ → List ℕ → Result
settle_of order stream pool = unless_unmade order (make_of order stream pool).answer.refusal stream pool
