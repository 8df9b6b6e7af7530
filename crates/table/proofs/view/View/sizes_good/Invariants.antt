-- `sizes_good` meets its contract. The loop's invariant: the whole answer is that of the sizes from place i on.
-- Assumes nothing.
use Prim.Native.Nat.{◌≤◌}
use mathlib.Core.Path.{◌≡◌}
use lib.ListN.{take, drop}
use Rattle.base.specs.Shape.{all_in_sixteen}
use Rattle.table.specs.Seen.{seen}
use Rattle.table.proofs.view.View.sizes_good.Given as goal

abbrev pub invariant-loop-i : goal.invariant-loop-i
invariant-loop-i l =
    (l.i ≤ l.n) × (all_in_sixteen (take l.n (drop l.from (seen l.self))) ≡ all_in_sixteen (drop l.i (take l.n (drop l.from (seen l.self)))))
