-- `prefix_cost` meets its contract. The loop's invariant: the sum is the cost with the units passed, and `before` counts the values of the others among them.
-- Assumes nothing.
use Rattle.std.proofs.Common.{◌≡◌, ◌+◌, ◌*◌, ◌≤◌, Some}
use Rattle.costs.specs.Instance.{view_from}
use Rattle.costs.specs.Bounds.{cost_with}
use Rattle.costs.specs.Lent.Parts.{others_before}
use Rattle.costs.proofs.prefix_cost.Given as goal

abbrev pub invariant-loop-j : goal.invariant-loop-j
invariant-loop-j l = (Some l.sum ≡ cost_with (view_from l.seat l.costs) l.values l.j l.v) × (l.sum ≤ 65535 * (l.j + 1)) × (l.before ≡ others_before l.seat l.j) × (l.before ≤ 255 * l.j)
