-- A test that holds of every number below one, index by index. Assumes nothing.
use Rattle.std.specs.Prelude.{ℕ, zero, suc, Bool, true, ◌&&◌}
pub mod Laws

-- whether p holds of 0, 1, .., m - 1
abbrev pub every : (ℕ → Bool) → ℕ → Bool
every p zero = true
every p (suc m) = every p m && p m
