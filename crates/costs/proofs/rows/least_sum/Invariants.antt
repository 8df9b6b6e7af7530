-- `least_sum` meets its contract. The loop's invariant: the best is the least of the first i values, as a number, whatever their sums are of.
-- Assumes nothing.
use Rattle.std.proofs.Common.{◌≡◌, ℕ, ◌≤◌, List}
use Rattle.costs.specs.Cost.{as_number}
use Rattle.costs.specs.Instance.{view_from, view_knowing}
use Rattle.costs.specs.Lent.Parts.{least_cost}
use Rattle.costs.specs.Rows.{Sums}
use Rattle.costs.proofs.rows.least_sum.Given as goal

abbrev pub invariant-loop-i : goal.invariant-loop-i
invariant-loop-i l =
    (l.best ≤ 4294967295) × ((values : List ℕ) (k : ℕ) → Sums (view_from l.seat l.costs) values k l.sums → l.best ≡ as_number (least_cost (view_knowing l.seat l.costs l.ahead) values k l.i))
