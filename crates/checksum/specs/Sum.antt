-- The check. Document 01: "The check is the sum of (k+1) × byte k for k from 0 to 509, modulo 65,521"; of a message "the same sum".
-- Its laws are in Sum/Laws. Assumes nothing.
use Rattle.std.specs.Prelude.{ℕ, ◌+◌, ◌*◌, ◌%◌, List, [], ◌∷◌}
pub mod Laws

abbrev pub modulus : ℕ
modulus = 65521

-- the sum of (k + 1) × byte k, where the first byte of the list is byte k
abbrev pub weigh : ℕ → List ℕ → ℕ
weigh k [] = 0
weigh k (x ∷ l) = (k + 1) * x + weigh (k + 1) l

-- 01: "check"
unfoldable pub sum_of : List ℕ → ℕ
sum_of s = weigh 0 s % modulus
