-- `check_blocks` meets its contract. The loop's invariant: all blocks give what those from block k on give.
-- Assumes nothing.
use Prim.Native.Nat.{◌-◌, ◌+◌, ◌*◌, ◌/◌}
use native.Mathlib.Omega.{arith}
use lib.ListN.{length}
use Rattle.std.proofs.lemmas.Result.{err_from_is_err_and}
use Rattle.base.specs.Refusal.{number_of}
use Rattle.base.specs.Refusal.Laws.{number_some}
use Rattle.table.specs.FileLaws.{block_turn, blocks_bad, blocks_next, blocks_end}
use Rattle.table.proofs.check_blocks.Goals as goal

pub returns-in_err-check_block : goal.returns-in_err-check_block
returns-in_err-check_block c =
    let f = c.args.file.now in
    let l = c.loop-k in
    let p = err_from_is_err_and c.from_residual.result c.from_residual.ensures.1 in
    let r = number_of c.in_err-check_block.field-0.0 in
    let t = block_turn f l.k (length f / 512) (512 * l.k + 512 - 512 * l.k) r (omega arith) (omega arith) c.in_err-check_block.ensures in
    rw (p.1, p.2) (blocks_bad f l.k (length f / 512) l.invariant.3 (omega arith) r t (number_some c.in_err-check_block.field-0.0))

pub loop-k-preserved : goal.loop-k-preserved
loop-k-preserved c =
    let f = c.args.file.now in
    let l = c.loop-k in
    let t = block_turn f l.k (length f / 512) (512 * l.k + 512 - 512 * l.k) 0 (omega arith) (omega arith) c.in_ok-check_block.ensures in
    (l.invariant.0, l.invariant.1, l.invariant.2, blocks_next f l.k (length f / 512) l.invariant.3 (omega arith) t)

pub returns : goal.returns
returns c =
    let f = c.args.file.now in
    let l = c.loop-k in
    blocks_end f l.k (length f / 512) l.invariant.3 (omega arith)
