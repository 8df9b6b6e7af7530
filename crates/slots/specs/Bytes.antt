-- The pool's bytes. 02, job 4: "The pool is 19,200 bytes"; a cell is 64 of them, as in 01's pool. Assumes nothing.
use Rattle.std.specs.Prelude.{ℕ, ◌*◌, Bool, ◌||◌, List, [], ◌∷◌, leb, replicate}
use Rattle.std.proofs.Math.Option.{Option, none, some}
use Rattle.base.specs.{Limits.message_size, Put.put_at}
use Rattle.table.specs.Block.{all_zero}
use Rattle.message.specs.Message.{Packet}
use Rattle.rules.specs.Send.{packet_bytes}
use Rattle.runs.specs.Pool.{cell_of}
use Rattle.slots.specs.Slot.{used_slots, slot_of}
pub mod Laws

-- the bytes of a cell with a message or none
abbrev pub slot_bytes : Option Packet → List ℕ
slot_bytes none = replicate message_size 0
slot_bytes (some p) = packet_bytes p

-- a cell's bytes put in
abbrev pub put_cell : List ℕ → ℕ → List ℕ → List ℕ
put_cell pool cell bytes = put_at pool (message_size * cell) bytes

-- 02: "taking fills it with zeros"
abbrev pub take_out : List ℕ → ℕ → List ℕ
take_out pool cell = put_cell pool cell (slot_bytes none)

-- 02: "A fresh message overwrites the older one in its cell"
unfoldable pub place_bytes : ℕ → List ℕ → List Packet → List ℕ
place_bytes n pool [] = pool
place_bytes n pool (p ∷ ps) = place_bytes n (put_cell pool (slot_of n p) (packet_bytes p)) ps

-- 02: "n units use the first (n-1) × (n+4), which making the shed zeroes before unit 1's messages go in"
abbrev pub zero_cells : ℕ → List ℕ → List ℕ
zero_cells n pool = put_at pool 0 (replicate (message_size * used_slots n) 0)

-- 02: "15 means that it is all zero or past those used"
unfoldable pub is_empty : ℕ → List ℕ → ℕ → Bool
is_empty n pool cell = leb (used_slots n) cell || all_zero (cell_of pool cell)
