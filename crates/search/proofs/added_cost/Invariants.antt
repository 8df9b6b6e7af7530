-- `added_cost` meets its contract. The loop's invariant: the sum is the cost with the units passed, at most 60,000 for each; a forbidden pair ends it.
-- Assumes nothing.
use Rattle.std.specs.Prelude.{Some}
use Prim.Native.Nat.{◌+◌, ◌*◌, ◌≤◌}
use mathlib.Core.Path.{◌≡◌}
use Rattle.base.specs.Limits.{pair_limit, unary_limit}
use Rattle.costs.specs.Instance.{instance_of, view_of}
use Rattle.costs.specs.Bounds.{cost_with}
use Rattle.search.proofs.added_cost.Given as goal

abbrev pub invariant-loop-i : goal.invariant-loop-i
invariant-loop-i l = (Some l.sum ≡ cost_with (view_of (instance_of l.stream) l.level) l.chosen l.i l.v) × (l.sum ≤ unary_limit + pair_limit * l.i)
