-- The costs that touch one unit, gathered out of a stream: what is lent with a unit's step. Their bytes are in Gathered. Assumes nothing.
use Rattle.std.specs.Prelude.{ℕ, cond, List, ◌++◌, ltb, eqb, length, take, drop, replicate}
use Rattle.base.specs.{declared.Length.Length, Limits.places, Refusal.or_else, Shape.is_value}
use Rattle.table.specs.Stream.{units_of, sizes_of, stream_refusal}
use Rattle.costs.specs.Gathered.{gathered}
pub mod Sizes
pub mod Laws
pub mod Steps
pub mod Checks

-- the sizes of a stream as an array of 16 places: the first n, zero after
unfoldable pub sizes_in : List ℕ → List ℕ
sizes_in s = take places (sizes_of s ++ replicate places 0)

-- 01, of making a unit: "5, 10, 6, 7, 13"; 5, 6 and 7 are the stream's, 13 is that the bytes don't fit
unfoldable pub gather_refusal : List ℕ → ℕ → ℕ → ℕ
gather_refusal s own room =
    cond (eqb (stream_refusal s) 5) 5
    (cond (is_value (units_of s) own) (or_else (stream_refusal s) (cond (ltb room (length (gathered s own))) 13 0))
    10)

-- the refusal, or 0 and how many bytes it writes
abbrev pub gather_of : List ℕ → ℕ → ℕ → Length
gather_of s own room = cond (eqb (gather_refusal s own room) 0) (record { refusal = 0; length = length (gathered s own) }) (record { refusal = gather_refusal s own room; length = 0 })

-- what the lent bytes then are: those gathered in front, the rest as it was
abbrev pub gather_into : List ℕ → ℕ → List ℕ → List ℕ
gather_into s own l = cond (eqb (gather_refusal s own (length l)) 0) (gathered s own ++ drop (length (gathered s own)) l) l
