-- `check_blocks` meets its contract. The loop's invariant: all blocks give what those from block k on give.
-- Assumes nothing.
use Prim.Native.Nat.{◌≤◌, ◌-◌, ◌*◌, ◌/◌}
use mathlib.Core.Path.{◌≡◌}
use lib.ListN.{length, drop}
use Rattle.table.specs.File.{blocks_refusal}
use Rattle.table.proofs.check_blocks.Given as goal

abbrev pub invariant-loop-k : goal.invariant-loop-k
invariant-loop-k l =
    (l.blocks ≡ length l.file / 512) × (length l.file ≡ 512 * l.blocks) × (l.blocks ≤ 123)
    × (blocks_refusal 0 l.blocks l.file ≡ blocks_refusal l.k (l.blocks - l.k) (drop (512 * l.k) l.file))
