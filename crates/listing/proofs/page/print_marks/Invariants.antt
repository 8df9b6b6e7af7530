-- `print_marks` is safe: marks stand 20 pixels apart.
use Rattle.std.proofs.Common.{◌+◌, ◌*◌, ◌≤◌}
use Rattle.listing.proofs.page.print_marks.Given as goal

abbrev pub invariant-loop-k : goal.invariant-loop-k
invariant-loop-k l = l.y ≤ 22 + 20 * l.k
