-- `prefix_sums` meets its contract. The loop's invariant: the sums are those of the first j units, and the costs with unit j begin at byte `at`.
-- Assumes nothing.
use Rattle.std.proofs.Common.{◌≡◌, ◌+◌, ◌*◌, ◌≤◌}
use Rattle.costs.specs.Instance.{view_from}
use Rattle.costs.specs.Lent.Parts.{others_before}
use Rattle.costs.specs.Rows.{Sums}
use Rattle.costs.proofs.rows.prefix_sums.Given as goal

abbrev pub invariant-loop-j : goal.invariant-loop-j
invariant-loop-j l =
    (l.at ≡ 2 * (l.d + l.d * others_before l.seat l.j)) × (others_before l.seat l.j ≤ 255 * l.j) × Sums (view_from l.seat l.costs) l.values l.j l.sums
