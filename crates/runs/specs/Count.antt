-- A count in two 64-bit words, 01: "each in two 64-bit words, as 16 units can pass one word, modulo 2^128". Assumes nothing.
use Rattle.std.specs.Prelude.{ℕ, ◌+◌, ◌*◌, ◌/◌, ◌%◌, ◌^◌}
use Rattle.runs.specs.declared.Count.{Count}
pub mod Laws

abbrev pub zero_count : Count
zero_count = record { low = 0; high = 0 }

-- the number that the words stand for
abbrev pub value_of : Count → ℕ
value_of c = c.high * 2 ^ 64 + c.low

-- m more
unfoldable pub plus : ℕ → Count → Count
plus m c = record { low = (c.low + m) % 2 ^ 64; high = (c.high + (c.low + m) / 2 ^ 64) % 2 ^ 64 }
