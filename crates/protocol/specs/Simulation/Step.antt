-- Definitions. What is proved of them, and by them, is in proofs/Simulation/Step.antt. Assumes nothing.
use Prim.Native.Nat.{ℕ}
use Rattle.std.specs.Prelude.{◌≡◌, Some}
use Rattle.costs.specs.Instance.{Instance}

-- A unit without a value costs nothing.
abbrev pub FreeWhenUnassigned : Instance → Type 0
FreeWhenUnassigned I = ((j : ℕ) → I.unary j 0 ≡ 0) × ((i u j : ℕ) → I.cost i u j 0 ≡ Some 0)
