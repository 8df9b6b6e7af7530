-- A block of the stored table, read alone; and how many there are. The facts about these are in BlockLaws.
-- Document 01: "Blocks of 512 bytes. 0-1 block number from 0; 2-3 payload count; 4-509 payload; 510-511 check." Assumes nothing.
use Rattle.std.specs.Prelude.{ℕ, ◌+◌, ◌-◌, ◌/◌, Bool, cond, ◌&&◌, List, [], eqb, length, take, drop}
use Rattle.std.specs.List.{list_all}
use Rattle.base.specs.{Limits.block_size, Limits.payload_size, Limits.checked_size, Bytes.u16_at, Shape.is_value}
use Rattle.checksum.specs.Sum.{sum_of}

-- ---- the fields

abbrev pub payload_count : List ℕ → ℕ
payload_count b = u16_at b 2

abbrev pub payload_of : List ℕ → List ℕ
payload_of b = take (payload_count b) (drop 4 b)

-- the payload bytes after the count
abbrev pub unused_of : List ℕ → List ℕ
unused_of b = drop (4 + payload_count b) (take checked_size b)

-- ---- read

-- 01: "Every block but the last carries 506 payload bytes, the last 1 to 506"
abbrev pub count_good : Bool → ℕ → Bool
count_good last c = cond last (is_value payload_size c) (eqb c payload_size)

-- 01: "unused payload is zero"
unfoldable pub all_zero : List ℕ → Bool
all_zero l = list_all (λ x. eqb x 0) l

-- 01: "if it isn't 512 bytes it is 1"; "then each block 4, 2, 3"
unfoldable pub block_refusal : ℕ → Bool → List ℕ → ℕ
block_refusal number last b =
    cond (eqb (length b) block_size)
    (cond (eqb (u16_at b checked_size) (sum_of (take checked_size b)))
    (cond (eqb (u16_at b 0) number) (cond (count_good last (payload_count b) && all_zero (unused_of b)) 0 3) 2)
    4)
    1

-- the payload of an accepted block; the empty list, which no payload is, of a refused one
unfoldable pub read_block_of : ℕ → Bool → List ℕ → List ℕ
read_block_of number last b = cond (eqb (block_refusal number last b) 0) (payload_of b) []

-- ---- written

-- how many blocks carry l bytes
abbrev pub blocks_for : ℕ → ℕ
blocks_for l = (l + (payload_size - 1)) / payload_size
