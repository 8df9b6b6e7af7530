-- `put_costs` meets its contract. The loop's invariant: the costs of the first i lines stand at their place, and `at` is where they end.
-- Assumes nothing.
use Prim.Native.Nat.{◌+◌}
use mathlib.Core.Path.{◌≡◌}
use lib.ListN.{length}
use Rattle.base.specs.Join.{join_to}
use Rattle.base.specs.Put.{put_at}
use Rattle.costs.specs.Streamed.{later_costs}
use Rattle.readings.specs.Readings.{lines_of}
use Rattle.readings.proofs.put_costs.Given as goal

abbrev pub invariant-loop-i : goal.invariant-loop-i
invariant-loop-i l =
    let before = join_to (later_costs (lines_of l.n l.sizes l.readings)) l.i in
    (l.count ≡ l.n) × (l.at ≡ 1 + l.n + length before) × (l.stream ≡ put_at l.initial.stream (1 + l.n) before)
