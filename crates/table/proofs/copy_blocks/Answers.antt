-- `copy_blocks` meets its contract. The loop's invariant: the first k payloads joined, then the buffer as it was.
-- Assumes nothing.
use Prim.Native.Nat.{◌+◌, ◌*◌, ◌-◌, ◌/◌}
use mathlib.Core.Path.{◌≡◌, refl, ◌∙◌}
use native.Mathlib.Omega.{arith}
use borrow.Author.Rules.{rules}
use lib.ListN.{length}
use Rattle.table.specs.File.{joined, stream_of}
use Rattle.table.specs.FileLaws.{payload-within, payload-taken, payload-fits, payload-put}
use Rattle.table.proofs.copy_blocks.Goals as goal

pub loop-k-init : goal.loop-k-init
unfolding joined
loop-k-init c = refl

pub payload-requires : goal.payload-requires
payload-requires c =
    let l = c.loop-k in
    let f = c.args.file.now in
    payload-within f (length f / 512) l.k c.requires.0.1 (omega arith) (512 * l.k + 512 - 512 * l.k) (omega arith)

pub put-requires : goal.put-requires
unfolding stream_of
put-requires c =
    let l = c.loop-k in
    let f = c.args.file.now in
    let p = payload-taken f (length f / 512) l.k c.requires.0.1 (omega arith) (512 * l.k + 512 - 512 * l.k) c.payload.result.now (omega arith) c.payload.ensures in
    let h = payload-fits f (length f / 512) l.k c.requires.0.1 (omega arith) c.payload.result.now p in
    search rules

pub loop-k-preserved : goal.loop-k-preserved
loop-k-preserved c =
    let l = c.loop-k in
    let f = c.args.file.now in
    let r = c.payload in
    let p = payload-taken f (length f / 512) l.k c.requires.0.1 (omega arith) (512 * l.k + 512 - 512 * l.k) r.result.now (omega arith) r.ensures in
    c.put.ensures ∙ payload-put f (length f / 512) l.k c.requires.0.1 (omega arith) c.args.out.now r.result.now l.out p l.invariant

pub returns : goal.returns
unfolding stream_of
returns c =
    let l = c.loop-k in
    let e : l.k ≡ length c.args.file.now / 512 = omega arith in
    l.invariant ∙ rw e
