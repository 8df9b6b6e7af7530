-- `write_blocks` meets its contract. The loop's invariant: the first k blocks, then the buffer as it was.
-- Assumes nothing.
use Prim.Native.Nat.{ℕ, ◌-◌, ◌+◌, ◌*◌}
use mathlib.Core.Path.{◌≡◌, refl, ◌∙◌, ap}
use mathlib.Core.List.{List}
use native.Mathlib.Omega.{arith}
use lib.ListN.{length, take, drop}
use Rattle.table.specs.Written.{file_from, block_of}
use Rattle.table.specs.FileLaws.{file_more, carried, block_long}
use Rattle.base.specs.Put.Laws.{put-part}
use Rattle.table.proofs.write_blocks.Goals as goal

pub loop-k-init : goal.loop-k-init
unfolding file_from
loop-k-init c = refl

pub loop-k-preserved : goal.loop-k-preserved
loop-k-preserved c =
    let s = c.args.stream.now in
    let o = c.args.file.now in
    let l = c.loop-k in
    let b = c.fill_block.new.block in
    let n = c.min-to.result - 506 * l.k in
    let e : b ≡ block_of l.k (take 506 (drop (506 * l.k) s)) = c.fill_block.ensures ∙ ap (λ (p : List ℕ). block_of l.k p) (carried s l.k n (omega (arith, c.min-to.ensures))) in
    let g : 512 * l.k + 512 - 512 * l.k ≡ length b = omega (arith, ap length e ∙ block_long l.k (drop (506 * l.k) s)) in
    put-part l.file b (512 * l.k) (512 * l.k + 512 - 512 * l.k) g ∙ rw (l.invariant, e) (file_more l.k s o)
