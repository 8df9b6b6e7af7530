-- `check_file` meets its contract: each way out is one answer of `read_refusal`, by the law that says so.
-- Assumes nothing.
use mathlib.Core.Path.{sym, ap, ◌∙◌}
use Rattle.std.proofs.lemmas.Result.{err_from_is_err_and}
use Rattle.base.specs.Refusal.{number_of}
use Rattle.base.specs.Refusal.Laws.{number_some}
use Rattle.table.specs.Stream.{stream_refusal}
use Rattle.table.specs.FileLaws.{refused_room, refused-bytes, refused_blocks, by_stream}
use Rattle.table.proofs.check_file.Goals as goal

pub returns-then-room-lt-STREAM_SIZE : goal.returns-then-room-lt-STREAM_SIZE
returns-then-room-lt-STREAM_SIZE c = refused_room c.args.file.now c.args.room c.if-room-lt-STREAM_SIZE.true

pub returns-then-not-size_good : goal.returns-then-not-size_good
returns-then-not-size_good c =
    let a = c.args in
    refused-bytes a.file.now a.room c.if-room-lt-STREAM_SIZE.false (sym c.size_good.ensures ∙ c.if-not-size_good.true)

pub returns-in_err-check_blocks : goal.returns-in_err-check_blocks
returns-in_err-check_blocks c =
    let a = c.args in
    let size = sym c.size_good.ensures ∙ c.if-not-size_good.false in
    let p = err_from_is_err_and c.from_residual.result c.from_residual.ensures.1 in
    let r = c.in_err-check_blocks.field-0.0 in
    rw (p.1, p.2) (refused_blocks a.file.now a.room c.if-room-lt-STREAM_SIZE.false size (number_of r) c.in_err-check_blocks.ensures (number_some r))

pub returns : goal.returns
returns c =
    let a = c.args in
    let size = sym c.size_good.ensures ∙ c.if-not-size_good.false in
    c.check.ensures ∙ ap stream_refusal c.of_file.ensures ∙ by_stream a.file.now a.room c.if-room-lt-STREAM_SIZE.false size (sym c.in_ok-check_blocks.ensures)
