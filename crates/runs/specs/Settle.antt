-- Running a network to its end: cell 0 delivered until unit 1 stops. It is the run of (3n - 1) × N zeros, as demand 3 says that no run accepts more,
-- and once unit 1 has stopped a delivery changes nothing. Assumes nothing.
use Rattle.std.specs.Prelude.{ℕ, zero, suc, List, replicate}
use Rattle.costs.specs.declared.ValueOrder.{ValueOrder}
use Rattle.costs.specs.Instance.{instance_of}
use Rattle.runs.specs.{Calls.Result, Calls.make_of, Demand3.Shed, Demand3.run_bytes, Demand3.most}
pub mod Laws

-- cell 0, k times
abbrev pub cell_zero : ℕ → List ℕ
cell_zero k = replicate k 0

-- not refused
abbrev pub settled : Shed → Result
settled S = record { answer = record { refusal = 0; network = S.network }; pool = S.pool }

abbrev pub unless_unmade : ValueOrder → ℕ → List ℕ → List ℕ → Result
unless_unmade order zero stream pool = settled (run_bytes order stream pool (cell_zero (most (instance_of stream))))
unless_unmade order (suc r) stream pool = make_of order stream pool

-- Making's refusal; or none, with what the run of (3n - 1) × N zeros leaves.
unfoldable pub settle_of : ValueOrder → List ℕ → List ℕ → Result
settle_of order stream pool = unless_unmade order (make_of order stream pool).answer.refusal stream pool
