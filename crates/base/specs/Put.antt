-- Bytes written into a lent buffer, the rest as it was: at a place, or at the front; and that writes one behind the other join. Assumes nothing.
use Rattle.std.specs.Prelude.{ℕ, ◌+◌, cond, List, ◌++◌, leb, length, take, drop}
pub mod Laws

-- l with m written at place `at`
abbrev pub put_at : List ℕ → ℕ → List ℕ → List ℕ
put_at l at m = take at l ++ m ++ drop (at + length m) l

-- the same where it fits; else l as it was
abbrev pub put_within : List ℕ → ℕ → List ℕ → List ℕ
put_within l at m = cond (leb (at + length m) (length l)) (put_at l at m) l
