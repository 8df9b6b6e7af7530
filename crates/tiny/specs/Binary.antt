-- Binary digits, the first as the top one. Their laws are in Binary/Laws. Assumes nothing.
use Rattle.std.specs.Prelude.{ℕ, zero, suc, ◌+◌, ◌*◌, ◌-◌, ◌/◌, ◌%◌, ◌^◌}
pub mod Laws

-- digit k, counted from 0, of the m digits of x
abbrev pub digit : ℕ → ℕ → ℕ → ℕ
digit m x k = x / 2 ^ (m - suc k) % 2

-- the number that the digits f 0, f 1, .., m of them, read as
abbrev pub binary : (ℕ → ℕ) → ℕ → ℕ
binary f zero = 0
binary f (suc m) = 2 * binary f m + f m
