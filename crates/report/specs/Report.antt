-- The number that a program prints of a file: that of reading it, then that of what is done with its stream. What else is printed no contract can say.
-- Assumes nothing.
use Rattle.std.specs.Prelude.{ℕ, List, replicate}
use Rattle.base.specs.{Limits.pool_size, Limits.stream_size, Refusal.or_else}
use Rattle.table.specs.File.{stream_of, read_refusal}
use Rattle.costs.specs.declared.ValueOrder.{ValueOrder}
use Rattle.runs.specs.Settle.{settle_of}
use Rattle.slots.specs.Slot.{slot_pool_size}
use Rattle.slots.specs.Settle as S
pub mod Laws

-- done is the number that a stream gives
unfoldable pub file_refusal : (List ℕ → ℕ) → List ℕ → ℕ
file_refusal done f = or_else (read_refusal f stream_size) (done (stream_of f))

-- the number of a run to its end, in a pool of zeros
unfoldable pub settle_refusal : ValueOrder → List ℕ → ℕ
settle_refusal order s = (settle_of order s (replicate pool_size 0)).answer.refusal

-- the same over 02's pool
unfoldable pub slots_refusal : ValueOrder → List ℕ → ℕ
slots_refusal order s = (S.settle_of order s (replicate slot_pool_size 0)).answer.refusal
