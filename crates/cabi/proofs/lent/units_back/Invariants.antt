-- `units_back` meets its contract. The invariant: the first i places are done, the others as lent.
-- Assumes nothing.
use Prim.Native.Nat.{ℕ}
use mathlib.Core.Path.{◌≡◌}
use mathlib.Core.List.{◌++◌}
use lib.ListN.{get_or, drop}
use Rattle.rules.specs.State.{empty_unit}
use Rattle.cabi.specs.Lent.{empty_lent, up_to, unit_back}
use Rattle.cabi.proofs.lent.units_back.Given as goal

abbrev pub invariant-loop-i : goal.invariant-loop-i
invariant-loop-i l = l.back ≡ up_to l.i (λ (k : ℕ). unit_back (get_or l.ss k empty_lent) (get_or l.us k empty_unit)) ++ drop l.i l.ss
