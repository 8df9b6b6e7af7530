-- `least_cost` meets its contract. The loop's invariant: the best is the least of the values up to i, as a number.
-- Assumes nothing.
use Rattle.std.proofs.Common.{◌≡◌, ◌≤◌}
use Rattle.costs.specs.Cost.{as_number}
use Rattle.costs.specs.Instance.{view_knowing}
use Rattle.costs.specs.Lent.Parts.{least_cost}
use Rattle.costs.proofs.least_cost.Given as goal

abbrev pub invariant-loop-i : goal.invariant-loop-i
invariant-loop-i l = (l.best ≡ as_number (least_cost (view_knowing l.seat l.costs l.ahead) l.values l.k l.i)) × (l.best ≤ 4294967295)
