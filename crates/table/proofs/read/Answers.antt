-- `read` meets its contract: refused, nothing is written; accepted, the stream stands in front of what was there.
-- Assumes nothing.
use mathlib.Core.Path.{refl, sym, ◌∙◌}
use native.Mathlib.Omega.{arith}
use lib.ListN.{length}
use Rattle.std.proofs.lemmas.Result.{err_from_is_err_and}
use Rattle.base.specs.Refusal.{number_of}
use Rattle.base.specs.Refusal.Laws.{number_some}
use Rattle.table.specs.File.{stream_of, read_refusal, read_of, read_into}
use Rattle.table.specs.FileLaws.{read_room, read_size, read_blocks, read_most, gives-refused, gives-accepted}
use Rattle.table.proofs.read.Goals as goal

pub returns-in_err-check_file : goal.returns-in_err-check_file
unfolding read_of read_into
returns-in_err-check_file c =
    let a = c.args in
    let p = err_from_is_err_and c.from_residual.result c.from_residual.ensures.1 in
    let r = c.in_err-check_file.field-0.0 in
    rw (p.1, p.2) (gives-refused (read_refusal a.file.now (length a.stream.now)) (number_of r) c.in_err-check_file.ensures (length (stream_of a.file.now)) (stream_of a.file.now) a.stream.now (number_some r))

pub copy_blocks-requires : goal.copy_blocks-requires
copy_blocks-requires c =
    let f = c.args.file.now in
    let o = c.args.stream.now in
    let ok = sym c.in_ok-check_file.ensures in
    let m = read_most f (length o) ok in
    let h = read_room f (length o) ok in
    ((read_size f (length o) ok, read_blocks f (length o) ok), omega arith)

pub stream_length-requires : goal.stream_length-requires
stream_length-requires c =
    let a = c.args in
    let ok = sym c.in_ok-check_file.ensures in
    (read_size a.file.now (length a.stream.now) ok, read_blocks a.file.now (length a.stream.now) ok)

pub returns : goal.returns
unfolding read_of read_into
returns c =
    let a = c.args in
    let f = a.file.now in
    let g = gives-accepted (read_refusal f (length a.stream.now)) 0 c.in_ok-check_file.ensures (length (stream_of f)) (stream_of f) a.stream.now refl in
    (rw c.stream_length.ensures g.0, c.copy_blocks.ensures ∙ g.1)
