-- `file_costs_good` meets its contract. The loop's invariant: the whole answer is that of the costs left from byte `at` on.
-- Assumes nothing.
use Prim.Native.Nat.{◌+◌, ◌*◌, ◌≤◌}
use mathlib.Core.Path.{◌≡◌}
use Rattle.table.specs.Stream.{costs_good}
use Rattle.table.specs.Seen.{seen}
use Rattle.table.specs.StreamLaws.{test_of}
use Rattle.table.proofs.view.View.file_costs_good.Given as goal

abbrev pub invariant-loop-left : goal.invariant-loop-left
invariant-loop-left l =
    (l.at + 2 * l.left ≤ l.self.count) × (costs_good (test_of l.kind) (seen l.self) l.from l.costs ≡ costs_good (test_of l.kind) (seen l.self) l.at l.left)

abbrev pub decreases-loop-left : goal.decreases-loop-left
decreases-loop-left l = l.left
