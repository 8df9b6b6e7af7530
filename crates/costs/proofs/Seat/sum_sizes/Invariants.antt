-- `sum_sizes` meets its contract. The loop's invariant: the sum is that of the places passed, at most 255 for each.
-- Assumes nothing.
use Rattle.std.proofs.Common.{◌≡◌, ◌*◌, ◌≤◌}
use Rattle.base.specs.Sums.{sum_from}
use Rattle.costs.specs.Lent.Parts.{dom_from}
use Rattle.costs.proofs.Seat.sum_sizes.Given as goal

abbrev pub invariant-loop-i : goal.invariant-loop-i
invariant-loop-i l = (l.sum ≡ sum_from (dom_from l.self) l.lo l.i) × (l.sum ≤ 255 * l.i)
