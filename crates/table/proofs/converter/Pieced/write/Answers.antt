-- `write` meets its contract. The loop's invariant: the first k blocks of the result's stream, then the buffer as it was.
-- Assumes nothing.
use Prim.Native.Nat.{◌-◌, ◌+◌, ◌*◌}
use mathlib.Core.Path.{◌≡◌, refl, ◌∙◌, ap}
use native.Mathlib.Omega.{arith}
use lib.ListN.{length, take, drop}
use Rattle.table.specs.Block.{blocks_for}
use Rattle.table.specs.File.{stream_of}
use Rattle.table.specs.Written.{file_from, block_of}
use Rattle.table.specs.FileLaws.{file_more, file_in_front, carried, block_long}
use Rattle.table.specs.Form.Pieces.{pieced}
use Rattle.base.specs.Put.Laws.{put-part}
use Rattle.table.proofs.converter.Pieced.write.Goals as goal

pub loop-k-init : goal.loop-k-init
unfolding file_from
loop-k-init c = refl

pub loop-k-preserved : goal.loop-k-preserved
loop-k-preserved c =
    let s = pieced c.args.self.now.pieces (stream_of c.args.self.now.table.bytes.now) in
    let l = c.loop-k in
    let b = c.fill_block.new.block in
    let n = c.min-used.result in
    let p : take n c.payload-payload.result ≡ take 506 (drop (506 * l.k) s) = c.payload-payload.ensures ∙ carried s l.k n (omega (arith, c.min-used.ensures, c.blocks_for-blocks.ensures)) in
    let e : b ≡ block_of l.k (take 506 (drop (506 * l.k) s)) = c.fill_block.ensures ∙ rw p in
    let g : 512 * l.k + 512 - 512 * l.k ≡ length b = omega (arith, ap length e ∙ block_long l.k (drop (506 * l.k) s)) in
    put-part l.out b (512 * l.k) (512 * l.k + 512 - 512 * l.k) g ∙ rw (l.invariant, e) (file_more l.k s c.args.out.now)

pub returns : goal.returns
returns c =
    let l = c.loop-k in
    let s = pieced c.args.self.now.pieces (stream_of c.args.self.now.table.bytes.now) in
    let e : l.k ≡ blocks_for (length s) = omega (arith, c.blocks_for-blocks.ensures) in
    l.invariant ∙ rw e (file_in_front s c.args.out.now)
