-- `sum_sizes` meets its contract. The loop's invariant: the sizes of the first i units are added up.
-- Assumes nothing.
use Prim.Native.Nat.{◌*◌, ◌≤◌}
use mathlib.Core.Path.{◌≡◌}
use Rattle.base.specs.Sums.{sum_from}
use Rattle.costs.specs.Instance.{dom_in}
use Rattle.projections.proofs.places.sum_sizes.Given as goal

abbrev pub invariant-loop-i : goal.invariant-loop-i
invariant-loop-i l = (l.sum ≡ sum_from (dom_in l.n l.sizes) l.lo l.i) × (l.sum ≤ 255 * l.i)
