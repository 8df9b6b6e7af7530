-- `too_many` meets its contract. The loop's invariant: the count is the product of the sizes passed, at most 1,048,576; sizes of 1 or more never lower it.
-- Assumes nothing.
use Prim.Native.Nat.{◌≤◌}
use mathlib.Core.Path.{◌≡◌}
use Rattle.base.specs.Limits.{search_limit}
use Rattle.costs.specs.Instance.{instance_of}
use Rattle.costs.specs.Bounds.{prefix_count}
use Rattle.search.proofs.too_many.Given as goal

abbrev pub invariant-loop-i : goal.invariant-loop-i
invariant-loop-i l = (l.count ≡ prefix_count (instance_of l.stream).dom l.i) × (l.count ≤ search_limit)
