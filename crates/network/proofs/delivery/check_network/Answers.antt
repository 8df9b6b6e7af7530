-- `network::delivery::check_network` meets its contract: each way out decides the tests before it. Assumes nothing.
use Rattle.std.proofs.Common.{sym, arith}
use Rattle.std.proofs.lemmas.Result.{err_from_is_err_and}
use Rattle.base.specs.Refusal.{number_of}
use Rattle.base.specs.Refusal.Laws.{number_some}
use Rattle.runs.proofs.CodeLaws.{check_room, check_core, check_count, check_stopped, check_running}
use Rattle.network.proofs.delivery.check_network.Goals as goal

pub returns-then-room-lt-POOL_SIZE : goal.returns-then-room-lt-POOL_SIZE
returns-then-room-lt-POOL_SIZE c = λ pool e. let a = c.args in check_room a.order a.net a.stream.now pool (omega arith)

pub returns-in_err-check : goal.returns-in_err-check
returns-in_err-check c =
    let a = c.args in
    let p = err_from_is_err_and c.from_residual.result c.from_residual.ensures.1 in
    let r = c.in_err-check.field-0.0 in
    λ pool e. rw (p.1, p.2) (check_core a.order a.net a.stream.now pool (omega arith) (number_of r) c.in_err-check.ensures (number_some r))

pub returns-then-net-gt-POOL_CELLS : goal.returns-then-net-gt-POOL_CELLS
returns-then-net-gt-POOL_CELLS c = λ pool e. let a = c.args in check_count a.order a.net a.stream.now pool (omega arith) (sym c.in_ok-check.ensures) c.if-net-gt-POOL_CELLS.true

pub returns-then-net-offset0 : goal.returns-then-net-offset0
returns-then-net-offset0 c = λ pool e. let a = c.args in check_stopped a.order a.net a.stream.now pool (omega arith) (sym c.in_ok-check.ensures) (omega arith) c.if-net-offset0.true

pub returns : goal.returns
returns c = λ pool e. let a = c.args in check_running a.order a.net a.stream.now pool (omega arith) (sym c.in_ok-check.ensures) (omega arith) c.if-net-offset0.false
