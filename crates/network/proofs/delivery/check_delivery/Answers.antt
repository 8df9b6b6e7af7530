-- `network::delivery::check_delivery` meets its contract: what is asked of the network, then the cell. Assumes nothing.
use Rattle.std.proofs.Common.{sym}
use Rattle.std.proofs.lemmas.Result.{err_from_is_err_and}
use Rattle.base.specs.Refusal.{number_of}
use Rattle.base.specs.Refusal.Laws.{number_some}
use Rattle.runs.proofs.CodeLaws.{check_network, check_cell, check_none}
use Rattle.network.proofs.delivery.check_delivery.Goals as goal

pub returns-in_err-check_network : goal.returns-in_err-check_network
returns-in_err-check_network c =
    let a = c.args in
    let p = err_from_is_err_and c.from_residual.result c.from_residual.ensures.1 in
    let r = c.in_err-check_network.field-0.0 in
    λ pool e. rw (p.1, p.2) (check_network a.order a.net a.stream.now pool a.cell (number_of r) (c.in_err-check_network.ensures pool e) (number_some r))

pub returns-then-net-cell : goal.returns-then-net-cell
returns-then-net-cell c = λ pool e. let a = c.args in check_cell a.order a.net a.stream.now pool a.cell (sym (c.in_ok-check_network.ensures pool e)) c.if-net-cell.true

pub returns : goal.returns
returns c = λ pool e. let a = c.args in check_none a.order a.net a.stream.now pool a.cell (sym (c.in_ok-check_network.ensures pool e)) c.if-net-cell.false
