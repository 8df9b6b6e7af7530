-- `tally` is safe: as many lines as were looked at, at most, and their readings' sum fits.
use Rattle.std.proofs.Common.{◌*◌, ◌≤◌}
use Rattle.listing.proofs.lines.Lots.tally.Given as goal

abbrev pub invariant-loop-k : goal.invariant-loop-k
invariant-loop-k l = (l.t.lines ≤ l.k) × (l.t.sum ≤ 65536 * l.k)
