-- `gather_all` meets its contract. The loop's invariant: the costs with the first j units stand behind the unary costs, and `at` is where they end.
-- Assumes nothing.
use Rattle.std.proofs.Common.{◌≡◌, pred, ◌+◌, length}
use Rattle.base.specs.Join.{join_to}
use Rattle.base.specs.Put.{put_at}
use Rattle.costs.specs.Gathered.{with_other}
use Rattle.costs.proofs.stream.gather_all.Given as goal

abbrev pub invariant-loop-j : goal.invariant-loop-j
invariant-loop-j l = (l.at ≡ l.initial.at + length (join_to (with_other l.stream (pred l.gathering.seat.own)) l.j)) × (l.out ≡ put_at l.initial.out l.initial.at (join_to (with_other l.stream (pred l.gathering.seat.own)) l.j))
