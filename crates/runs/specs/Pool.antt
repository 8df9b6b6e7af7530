-- The pool's bytes, 01: "The pool is 1,024 cells of 64 bytes." Assumes nothing.
use Rattle.std.specs.Prelude.{ℕ, suc, ◌+◌, ◌*◌, ◌-◌, List, ◌++◌, length, take, drop}
use Rattle.base.specs.Limits.{message_size}
use Rattle.message.specs.Message.{Packet}
use Rattle.rules.specs.Send.{encode_all}
pub mod Laws
pub mod Stored

-- the bytes of a cell
abbrev pub cell_of : List ℕ → ℕ → List ℕ
cell_of pool cell = take message_size (drop (message_size * cell) pool)

-- 01: "closes the gap by moving later cells down one, and adds what the step sends at the end; bytes past the last cell then in use stay"
unfoldable pub pool_after : ℕ → ℕ → List Packet → List ℕ → List ℕ
pool_after used cell ps pool = take (message_size * cell) pool ++ take (message_size * (used - suc cell)) (drop (message_size * suc cell) pool) ++ encode_all ps ++ drop (message_size * (used - 1 + length ps)) pool

-- 02, job 2: "nothing leaves the pool"; what the step sends is added at the end
unfoldable pub pool_with : ℕ → List Packet → List ℕ → List ℕ
pool_with used ps pool = take (message_size * used) pool ++ encode_all ps ++ drop (message_size * (used + length ps)) pool
