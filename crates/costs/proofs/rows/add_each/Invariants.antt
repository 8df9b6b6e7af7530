-- `add_each` meets its contract. The loop's invariant: the first i numbers are added.
-- Assumes nothing.
use Rattle.std.proofs.Common.{ℕ, ◌+◌, ◌*◌}
use Rattle.base.specs.Bytes.{u16_at}
use Rattle.costs.specs.Rows.{widened, Adding}
use Rattle.costs.proofs.rows.add_each.Given as goal

abbrev pub invariant-loop-i : goal.invariant-loop-i
invariant-loop-i l = Adding l.i (λ (k : ℕ). widened (u16_at l.costs (l.at + 2 * k))) l.initial.sums l.sums
