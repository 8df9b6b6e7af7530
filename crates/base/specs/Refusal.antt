-- Refusals by number, 0 for none, and the first of two in 01's order; what a call that may refuse tells by number. Assumes nothing.
use Rattle.std.specs.Prelude.{ℕ, zero, suc, Result, Ok, Err}
use Rattle.base.specs.declared.Length.{Length}
use Rattle.base.specs.declared.Refusal.{Refusal}
use Rattle.base.specs.declared.Refusal.TheVariants.{BadFile, BadBlock, BadPayload, BadBlockCheck, OutOfRange, BadLength, BadCost, Damaged, BadField, BadUnit, NotOut, Stopped, NoRoom, PoolFull, NoMessage, TooMany, BadReading, HasUnary, TooLarge, PastLimit, NoSuchTable, OddList}
pub mod Laws

-- the numbers of 01 and 02, "Refusals"
abbrev pub number_of : Refusal → ℕ
number_of BadFile = 1
number_of BadBlock = 2
number_of BadPayload = 3
number_of BadBlockCheck = 4
number_of OutOfRange = 5
number_of BadLength = 6
number_of BadCost = 7
number_of Damaged = 8
number_of BadField = 9
number_of BadUnit = 10
number_of NotOut = 11
number_of Stopped = 12
number_of NoRoom = 13
number_of PoolFull = 14
number_of NoMessage = 15
number_of TooMany = 16
number_of BadReading = 17
number_of HasUnary = 18
number_of TooLarge = 19
number_of PastLimit = 20
number_of NoSuchTable = 21
number_of OddList = 22

-- what a call tells by number: 0 where it doesn't refuse
abbrev pub told : Result Unit Refusal → ℕ
told (Ok x) = 0
told (Err r) = number_of r

-- the same of a call that fills a buffer, beside how many bytes it wrote
abbrev pub answered : Result ℕ Refusal → Length
answered (Ok count) = record { refusal = 0; length = count }
answered (Err r) = record { refusal = number_of r; length = 0 }

-- a, or b where a is 0
abbrev pub or_else : ℕ → ℕ → ℕ
or_else zero b = b
or_else (suc a) b = suc a
