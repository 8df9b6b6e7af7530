-- `shed_core::states::check` meets its contract: each way out decides the tests before it. Assumes nothing.
use Rattle.std.proofs.Common.{sym, ◌∙◌}
use Rattle.std.proofs.lemmas.Result.{err_from_is_err_and}
use Rattle.base.specs.Refusal.{number_of}
use Rattle.base.specs.Refusal.Laws.{number_some}
use Rattle.table.specs.Stream.{Accepted}
use Rattle.runs.proofs.CodeLaws.{core_table, core_states, core_good}
use Rattle.shed_core.proofs.states.check.Goals as goal

pub returns-in_err-check_stream : goal.returns-in_err-check_stream
returns-in_err-check_stream c =
    let a = c.args in
    let p = err_from_is_err_and c.from_residual.result c.from_residual.ensures.1 in
    let r = c.in_err-check_stream.field-0.0 in
    rw (p.1, p.2) (core_table a.order a.core a.stream.now (number_of r) c.in_err-check_stream.ensures (number_some r))

pub units_in_range-requires : goal.units_in_range-requires
unfolding Accepted
units_in_range-requires c = sym c.in_ok-check_stream.ensures

pub returns-then-not-units_in_range : goal.returns-then-not-units_in_range
returns-then-not-units_in_range c =
    let a = c.args in
    core_states a.order a.core a.stream.now (sym c.in_ok-check_stream.ensures) (sym c.units_in_range.ensures ∙ c.if-not-units_in_range.true)

pub returns : goal.returns
returns c =
    let a = c.args in
    core_good a.order a.core a.stream.now (sym c.in_ok-check_stream.ensures) (sym c.units_in_range.ensures ∙ c.if-not-units_in_range.false)
