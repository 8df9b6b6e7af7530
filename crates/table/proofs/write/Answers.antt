-- `write` meets its contract: refused, nothing is written; accepted, the file stands in front of what was there.
-- Assumes nothing.
use mathlib.Core.Path.{refl, sym, ◌∙◌}
use native.Mathlib.Omega.{arith}
use lib.ListN.{length}
use Rattle.std.proofs.lemmas.Result.{err_from_is_err_and}
use Rattle.base.specs.Refusal.{number_of}
use Rattle.base.specs.Refusal.Laws.{number_some}
use Rattle.table.specs.Stream.{Accepted}
use Rattle.table.specs.StreamLaws.{accepted-most}
use Rattle.table.specs.File.{store_refusal, store_of, store_into}
use Rattle.table.specs.Written.{file_of}
use Rattle.table.specs.FileLaws.{refused-stream, refused_short, write-accepted, written_length_lem, file_in_front, gives-refused, gives-accepted}
use Rattle.table.proofs.write.Goals as goal

pub returns-in_err-check_stream : goal.returns-in_err-check_stream
unfolding store_of store_into
returns-in_err-check_stream c =
    let s = c.args.stream.now in
    let o = c.args.file.now in
    let p = err_from_is_err_and c.from_residual.result c.from_residual.ensures.1 in
    let r = c.in_err-check_stream.field-0.0 in
    rw (p.1, p.2) (gives-refused (store_refusal s (length o)) (number_of r) (refused-stream s (length o) (number_of r) c.in_err-check_stream.ensures (number_some r)) (length (file_of s)) (file_of s) o (number_some r))

pub blocks_for-blocks-requires : goal.blocks_for-blocks-requires
unfolding Accepted
blocks_for-blocks-requires c = accepted-most c.args.stream.now (sym c.in_ok-check_stream.ensures)

pub returns-then-file-blocks : goal.returns-then-file-blocks
unfolding store_of store_into
returns-then-file-blocks c =
    let s = c.args.stream.now in
    let o = c.args.file.now in
    let short = refused_short s (length o) (sym c.in_ok-check_stream.ensures) (rw (← c.blocks_for-blocks.ensures) c.if-file-blocks.true) in
    gives-refused (store_refusal s (length o)) 13 short (length (file_of s)) (file_of s) o (λ e. omega arith)

pub write_blocks-requires : goal.write_blocks-requires
unfolding Accepted
write_blocks-requires c = (accepted-most c.args.stream.now (sym c.in_ok-check_stream.ensures), c.blocks_for-blocks.ensures, c.if-file-blocks.false)

pub returns : goal.returns
unfolding store_of store_into
returns c =
    let s = c.args.stream.now in
    let o = c.args.file.now in
    let b = c.blocks_for-blocks.ensures in
    let g = gives-accepted (store_refusal s (length o)) 0 (write-accepted s (length o) (sym c.in_ok-check_stream.ensures) (rw (← b) c.if-file-blocks.false)) (length (file_of s)) (file_of s) o refl in
    (rw (b, ← written_length_lem s) g.0, c.write_blocks.ensures ∙ rw b (file_in_front s o) ∙ g.1)
