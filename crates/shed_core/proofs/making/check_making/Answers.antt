-- `shed_core::making::check_making` meets its contract: each way out decides the tests before it. Assumes nothing.
use Rattle.std.proofs.Common.{sym, arith}
use Rattle.std.proofs.lemmas.Result.{err_from_is_err_and}
use Rattle.base.specs.Refusal.{number_of}
use Rattle.base.specs.Refusal.Laws.{number_some}
use Rattle.runs.proofs.CodeLaws.{make-table, make_room, make_none}
use Rattle.shed_core.proofs.making.check_making.Goals as goal

pub returns-in_err-check_stream : goal.returns-in_err-check_stream
returns-in_err-check_stream c =
    let a = c.args in
    let p = err_from_is_err_and c.from_residual.result c.from_residual.ensures.1 in
    let r = c.in_err-check_stream.field-0.0 in
    rw (p.1, p.2) (make-table a.size a.stream.now a.room (number_of r) c.in_err-check_stream.ensures (number_some r))

pub returns-then-room-size : goal.returns-then-room-size
returns-then-room-size c = make_room c.args.size c.args.stream.now c.args.room (sym c.in_ok-check_stream.ensures) (omega arith)

pub returns : goal.returns
returns c = make_none c.args.size c.args.stream.now c.args.room (sym c.in_ok-check_stream.ensures) (omega arith)
