-- `all_sizes` meets its contract. The loop's invariant: the sum is that of the places passed, at most 255 for each.
-- Assumes nothing.
use Rattle.std.proofs.Common.{◌≡◌, ◌*◌, ◌≤◌}
use Rattle.base.specs.Sums.{sum_from}
use Rattle.costs.specs.Instance.{dom_of}
use Rattle.costs.proofs.opened.Opened.all_sizes.Given as goal

abbrev pub invariant-loop-i : goal.invariant-loop-i
invariant-loop-i l = (l.sum ≡ sum_from (dom_of l.self.stream.now) 0 l.i) × (l.sum ≤ 255 * l.i)
