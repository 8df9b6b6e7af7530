-- A box that is handed the blocks of its table one after the other: what each gives, with the lent costs. A block that is refused changes nothing,
-- so it can be handed over again. Nothing of the costs is to be used before the last block is in. Assumes nothing.
use Rattle.std.specs.Prelude.{ℕ, zero, suc, ◌+◌, ◌%◌, Bool, true, false, cond, List, eqb, ltb, length, take, drop, Result, Ok, Err}
use Rattle.base.specs.{Limits.block_size, Limits.costs_size, Refusal.or_else, Shape.is_value}
use Rattle.table.specs.Block.{block_refusal, payload_of}
use Rattle.start.specs.declared.Reader.{Reader}
use Rattle.start.specs.declared.Start.{Start}
use Rattle.start.specs.Byte.{unread, after, kept, filled, end_refusal}

-- no block is in
abbrev pub fresh : ℕ → Start
fresh own = record { own = own; blocks = 0; count = 0; reader = unread }

-- 02, job 7: "at most 123 blocks"
abbrev pub most_blocks : ℕ
most_blocks = 123

-- behind the last byte: reading's 5, 6, 7; then what gathering asks of the unit's number, 10
abbrev pub last_refusal : ℕ → Reader → ℕ
last_refusal own r = or_else (end_refusal r) (cond (is_value r.n own) 0 10)

-- 01: "Table: 13 (reading), 1, then each block 4, 2, 3, then 5, 6, 7": 13 is here that the lent costs have no room for the most that touch a unit;
-- 1, that there were as many blocks as a table has at most; and what only the last block tells is told with it
unfoldable pub start_refusal : Start → List ℕ → Bool → ℕ → ℕ
start_refusal s block last room =
    cond (ltb room costs_size) 13
    (cond (ltb s.blocks most_blocks) (or_else (block_refusal s.blocks last block) (cond last (last_refusal s.own (after s.reader (payload_of block))) 0)) 1)

-- one block more is in, the stream is so far, and so many bytes of costs were gathered; the count has 32 bits
abbrev pub one_more : Start → Reader → ℕ → Start
one_more s r count = record { own = s.own; blocks = s.blocks + 1; count = count % 4294967296; reader = r }

abbrev pub start_after : Start → List ℕ → Start
start_after s block = one_more s (after s.reader (payload_of block)) (s.count + length (kept s.own s.reader (payload_of block)))

-- what a block gives: the refusal, or 0; with the last one, how many bytes of costs there are; and how far the box is then
pub record Started : Type 0 where
  pub refusal : ℕ
  pub length : ℕ
  pub start : Start

-- as the code says it beside the state
abbrev pub answer_of : Started → Result ℕ ℕ
answer_of a = cond (eqb a.refusal 0) (Ok a.length) (Err a.refusal)

-- refused by a number, unless it is 0
abbrev pub unless : ℕ → Result Unit ℕ
unless zero = Ok tt
unless (suc x) = Err (suc x)

-- the two answers: with the last block it is told how many bytes of costs there are
abbrev pub accepted_as : Bool → Start → Started
accepted_as last s = record { refusal = 0; length = cond last s.count 0; start = s }

abbrev pub refused_by : ℕ → Start → Started
refused_by refusal s = record { refusal = refusal; length = 0; start = s }

unfoldable pub start_of : Start → List ℕ → Bool → ℕ → Started
start_of s block last room = cond (eqb (start_refusal s block last room) 0) (accepted_as last (start_after s block)) (refused_by (start_refusal s block last room) s)

-- what the lent costs then are
unfoldable pub start_into : Start → List ℕ → Bool → List ℕ → List ℕ
start_into s block last costs = cond (eqb (start_refusal s block last (length costs)) 0) (filled s.own s.reader s.count (payload_of block) costs) costs

-- ---- a file, block after block, until one is refused: m blocks, then one that is the last

-- what the last call gives
unfoldable pub starts_of : Start → ℕ → List ℕ → ℕ → Started
starts_of s zero f room = start_of s (take block_size f) true room
starts_of s (suc m) f room =
    cond (eqb (start_of s (take block_size f) false room).refusal 0)
    (starts_of (start_of s (take block_size f) false room).start m (drop block_size f) room)
    (start_of s (take block_size f) false room)

-- and what the lent costs then are
unfoldable pub starts_into : Start → ℕ → List ℕ → List ℕ → List ℕ
starts_into s zero f costs = start_into s (take block_size f) true costs
starts_into s (suc m) f costs =
    cond (eqb (start_of s (take block_size f) false (length costs)).refusal 0)
    (starts_into (start_of s (take block_size f) false (length costs)).start m (drop block_size f) (start_into s (take block_size f) false costs))
    costs
