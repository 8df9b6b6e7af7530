-- `read_stream` meets its contract: reading's refusal, or the front of the buffer, which is the stream.
use Rattle.std.proofs.Common.{◌≡◌, rules, Ok, Err, refl}
use Rattle.std.proofs.Math.Path.{sym}
use Rattle.std.proofs.lemmas.Result.{err_from_is_err_and}
use lib.ListN.{length}
use Rattle.base.specs.Refusal.{answered}
use Rattle.report.specs.Report.Laws.{refusal_of_lem, read_fits, read_front}
use Rattle.report.proofs.read_stream.Goals as goal

pub returns-in_err-length-clause-err : goal.returns-in_err-length-clause-err
returns-in_err-length-clause-err c =
    let p = err_from_is_err_and c.from_residual.result c.from_residual.ensures.1 in
    let room : length c.args.buffer.now ≡ 61970 = search rules in
    rw (p.1, p.2) (refusal_of_lem c.args.file.now c.args.buffer.now (answered (Err c.in_err-length.field-0.0)) c.in_err-length.ensures.0 room)

pub shared_ref_as_front-result : goal.shared_ref_as_front-result
shared_ref_as_front-result c =
    let room : length c.args.buffer.now ≡ 61970 = search rules in
    read_fits c.args.file.now c.args.buffer.now (answered (Ok c.in_ok-length.length)) c.in_ok-length.ensures.0 room refl

pub returns-clause-ok : goal.returns-clause-ok
returns-clause-ok c =
    let f = c.args.file.now in
    let out = c.args.buffer.now in
    let room : length c.args.buffer.now ≡ 61970 = search rules in
    let r = answered (Ok c.in_ok-length.length) in
    (sym (refusal_of_lem f out r c.in_ok-length.ensures.0 room), read_front f out r c.in_ok-length.ensures.0 room refl c.read.new.stream c.in_ok-length.ensures.1)
