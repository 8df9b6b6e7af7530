-- Finite sums of numbers. Their laws are in Sums/Laws. Assumes nothing.
use Rattle.std.specs.Prelude.{ℕ, zero, suc, ◌+◌}
pub mod Laws

-- f lo + f (lo + 1) + .., m of them
abbrev pub sum_from : (ℕ → ℕ) → ℕ → ℕ → ℕ
sum_from f lo zero = 0
sum_from f lo (suc m) = f lo + sum_from f (suc lo) m

-- f 0 + f 1 + .., m of them, the last one added last
abbrev pub sum_to : (ℕ → ℕ) → ℕ → ℕ
sum_to f zero = 0
sum_to f (suc m) = sum_to f m + f m
