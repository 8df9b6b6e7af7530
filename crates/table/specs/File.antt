-- A stored table whole: the stream of a file, the file of a stream, and what reading and writing give.
-- Document 01, "Stored table" and "Refusals". The facts about these are in FileLaws and RoundTrip. Assumes nothing.
use Rattle.std.specs.Prelude.{ℕ, zero, suc, ◌*◌, ◌/◌, ◌%◌, Bool, cond, ◌&&◌, not, List, [], ◌++◌, eqb, leb, ltb, length, take, drop}
use Rattle.base.specs.{declared.Length.Length, Limits.block_size, Limits.file_size, Limits.stream_size, Refusal.or_else}
use Rattle.table.specs.{Stream.stream_refusal, Block.block_refusal, Block.payload_of, Block.blocks_for, Written.file_of}

-- ---- what a call gives that is to fill a lent buffer

-- its answer: the refusal, or 0 and how many bytes it wrote
abbrev pub answer : ℕ → ℕ → Length
answer refusal count = record { refusal = refusal; length = cond (eqb refusal 0) count 0 }

-- and what it leaves there: the bytes in front of what was there, or, where it refused, what was there
abbrev pub leaves : ℕ → List ℕ → List ℕ → List ℕ
leaves refusal bytes out = cond (eqb refusal 0) (bytes ++ drop (length bytes) out) out

-- ---- read

-- 01, refusal 1: "0, no multiple of 512, or over" the largest file; 02, job 7: "Check 1 and the buffer limit 13 use the larger sizes."
abbrev pub size_good : ℕ → Bool
size_good l = not (eqb l 0) && eqb (l % block_size) 0 && leb l file_size

-- the first refusal of m blocks, the first of which is number k and the last of which is the last
unfoldable pub blocks_refusal : ℕ → ℕ → List ℕ → ℕ
blocks_refusal k zero f = 0
blocks_refusal k (suc m) f = or_else (block_refusal k (eqb m 0) (take block_size f)) (blocks_refusal (suc k) m (drop block_size f))

-- 01: "The payloads joined are the stream"
unfoldable pub joined : ℕ → List ℕ → List ℕ
joined zero f = []
joined (suc m) f = payload_of (take block_size f) ++ joined m (drop block_size f)

unfoldable pub stream_of : List ℕ → List ℕ
stream_of f = joined (length f / block_size) f

-- 01: "Table: 13 (reading), 1, then each block 4, 2, 3, then 5, 6, 7"
unfoldable pub read_refusal : List ℕ → ℕ → ℕ
read_refusal f room =
    cond (ltb room stream_size) 13
    (cond (size_good (length f)) (or_else (blocks_refusal 0 (length f / block_size) f) (stream_refusal (stream_of f))) 1)

unfoldable pub read_of : List ℕ → ℕ → Length
read_of f room = answer (read_refusal f room) (length (stream_of f))

unfoldable pub read_into : List ℕ → List ℕ → List ℕ
read_into f out = leaves (read_refusal f (length out)) (stream_of f) out

-- ---- written

-- 01: "Writing a table: 5, 6, 7, 13"; 13: "or the blocks needed"
unfoldable pub store_refusal : List ℕ → ℕ → ℕ
store_refusal s room = or_else (stream_refusal s) (cond (ltb room (block_size * blocks_for (length s))) 13 0)

unfoldable pub store_of : List ℕ → ℕ → Length
store_of s room = answer (store_refusal s room) (length (file_of s))

unfoldable pub store_into : List ℕ → List ℕ → List ℕ
store_into s out = leaves (store_refusal s (length out)) (file_of s) out
