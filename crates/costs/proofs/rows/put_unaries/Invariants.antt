-- `put_unaries` meets its contract. The loop's invariant: the first i numbers are written.
-- Assumes nothing.
use Rattle.std.proofs.Common.{◌≡◌, ℕ, ◌*◌, ◌<◌, get_or}
use Rattle.base.specs.Bytes.{u16_at}
use Rattle.costs.proofs.rows.put_unaries.Given as goal

abbrev pub invariant-loop-i : goal.invariant-loop-i
invariant-loop-i l = ((k : ℕ) → k < l.i → get_or l.sums k 0 ≡ u16_at l.costs (2 * k))
