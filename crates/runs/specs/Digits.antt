-- A number in decimal digits, as text. 01: the shed program prints records and accepted deliveries "whole".
-- Assumes nothing.
use Rattle.std.specs.Prelude.{ℕ, zero, suc, ◌+◌, ◌-◌, ◌/◌, ◌%◌, cond, List, [], ◌∷◌, ◌++◌, eqb, length, replicate}
use Rattle.runs.specs.declared.Text.{Text}
pub mod Laws

-- the digits of x in ASCII, most significant first, at most m of them: those of x / 10 unless that is 0, then the last
unfoldable pub decimal : ℕ → ℕ → List ℕ
decimal zero x = []
decimal (suc m) x = cond (eqb (x / 10) 0) [] (decimal m (x / 10)) ++ ((48 + x % 10) ∷ [])

-- at the end of 40 bytes, zeros before them
abbrev pub end_of40 : List ℕ → Text
end_of40 t = record { text = replicate (40 - length t) 0 ++ t; start = 40 - length t }

unfoldable pub digits_of : ℕ → Text
digits_of x = end_of40 (decimal 40 x)
