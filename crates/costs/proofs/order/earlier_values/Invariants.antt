-- `earlier_values` meets its contract. The loop's invariant: the count is of the first i values.
-- Assumes nothing.
use Rattle.std.proofs.Common.{◌≡◌, ◌≤◌}
use Rattle.costs.specs.Instance.{view_knowing}
use Rattle.costs.specs.Lent.Parts.{earlier_up_to}
use Rattle.costs.proofs.order.earlier_values.Given as goal

abbrev pub invariant-loop-i : goal.invariant-loop-i
invariant-loop-i l = (l.count ≤ l.i) × (l.count ≡ earlier_up_to (view_knowing l.seat l.costs l.ahead) l.v l.i)
