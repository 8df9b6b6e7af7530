-- `extend` ends as the units left fall. The loop's invariant: the search is what is kept so far with the values from v on.
-- Assumes nothing.
use Rattle.std.proofs.Common.{◌+◌, ◌-◌, ◌≡◌, ◌≤◌}
use Rattle.base.specs.Limits.{NONE}
use Rattle.costs.specs.Instance.{instance_of}
use Rattle.search.specs.Best.{in_turn, best_from}
use Rattle.search.specs.Steps.{with_value}
use Rattle.search.proofs.+extend.Given as goal

abbrev pub decreases-extend : goal.decreases-extend
decreases-extend l = l.left

abbrev pub invariant-loop-v : goal.invariant-loop-v
invariant-loop-v l = (best_from (instance_of l.stream) l.left l.level l.chosen l.initial.best ≡ in_turn (with_value (instance_of l.stream) l.left l.level l.chosen) l.v (l.d + 1 - l.v) l.best) × (l.best.total ≤ NONE)
