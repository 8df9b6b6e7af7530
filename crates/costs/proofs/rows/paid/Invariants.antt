-- `paid` meets its contract. The loop's invariant: the first i numbers are told by their sums, the others are 0.
-- Assumes nothing.
use Rattle.std.proofs.Common.{ℕ, get_or, replicate}
use Rattle.costs.specs.Cost.{as_number}
use Rattle.costs.specs.Rows.{sum_cost, Adding}
use Rattle.costs.proofs.rows.paid.Given as goal

abbrev pub invariant-loop-i : goal.invariant-loop-i
invariant-loop-i l = Adding l.i (λ (k : ℕ). as_number (sum_cost (get_or l.sums k 0))) (replicate 16 0) l.paid
