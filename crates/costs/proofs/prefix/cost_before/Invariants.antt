-- `cost_before` meets its contract. The loop's invariant: what is counted along stands at the pair with the unit at place j.
-- Assumes nothing.
use Rattle.std.proofs.Common.{◌≡◌, ◌≤◌}
use Rattle.table.specs.Stream.{pairs_at}
use Rattle.costs.specs.StreamCost.{Running}
use Rattle.costs.proofs.prefix.cost_before.Given as goal

abbrev pub invariant-loop-j : goal.invariant-loop-j
invariant-loop-j l = (l.start ≡ pairs_at l.opened.stream.now) × (l.start ≤ 131072) × Running l.opened.stream.now l.values l.place l.v l.later l.between l.row l.sum l.j
