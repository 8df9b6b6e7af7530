-- `sum_sizes` meets its contract. The loop's invariant: the sum is that of the places passed, at most 255 for each.
-- Assumes nothing.
use Prim.Native.Nat.{◌*◌, ◌≤◌}
use mathlib.Core.Path.{◌≡◌}
use Rattle.base.specs.Sums.{sum_from}
use Rattle.sensitivity.specs.Steps.{size_in}
use Rattle.sensitivity.proofs.place.sum_sizes.Given as goal

abbrev pub invariant-loop-i : goal.invariant-loop-i
invariant-loop-i l = (l.sum ≡ sum_from (size_in l.sizes) l.lo l.i) × (l.sum ≤ 255 * l.i)
