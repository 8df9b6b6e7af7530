-- Lists joined, one behind the other. Their laws are in Join/Laws. Assumes nothing.
use Rattle.std.specs.Prelude.{ℕ, zero, suc, List, [], ◌++◌}
pub mod Laws

-- f 0 ++ f 1 ++ .., m of them
abbrev pub join_to : (ℕ → List ℕ) → ℕ → List ℕ
join_to f zero = []
join_to f (suc m) = join_to f m ++ f m
