-- `project_row` meets its contract: what was found can be moved as the definition moves it.
-- Assumes nothing.
use mathlib.Core.Path.{◌≡◌, ap, ◌∙◌}
use mathlib.Core.Bool.{false≢true}
use native.Mathlib.Omega.{arith}
use lib.ListN.{length}
use Rattle.projections.specs.Moves.{held_by, taken}
use Rattle.projections.specs.Moves.Changed.{row_apart}
use Rattle.std.proofs.lemmas.Result.{err_from_is_err_and}
use Rattle.base.specs.Refusal.{number_of}
use Rattle.base.specs.Refusal.Laws.{number_some}
use Rattle.projections.specs.Steps.{Inside, run_inside}
use Rattle.projections.specs.Steps.Calls.{project_refused, project_over, project_moves}
use borrow.Author.Rules.{rules}
use Rattle.projections.proofs.project_row.Goals as goal
use Rattle.projections.proofs.project_row.Goals.{In_ok-found}

-- where the row is, once nothing is refused
inside : (c : In_ok-found) → Inside c.in_ok-found.found.row c.args.costs.now
inside c = let f = c.in_ok-found.ensures.ok in run_inside f.run c.args.costs.now (row_apart f.row c.args.costs.now f.count)

pub returns-in_err-found : goal.returns-in_err-found
returns-in_err-found c =
    let a = c.args in
    let p = err_from_is_err_and c.from_residual.result c.from_residual.ensures.1 in
    let r = c.in_err-found.field-0.0 in
    rw (p.1, p.2) (project_refused a.n a.sizes a.unit a.value a.other (held_by a.floor a.costs.now) (number_of r) c.in_err-found.ensures.err (number_some r))

pub least_cost-requires : goal.least_cost-requires
least_cost-requires c = inside (goal.at.least_cost-requires c).In_ok-found

pub offset_bounds-costs-own : goal.offset_bounds-costs-own
offset_bounds-costs-own c = omega (arith, c.in_ok-found.ensures.ok.low)

pub bounds-costs-own : goal.bounds-costs-own
bounds-costs-own c = c.in_ok-found.ensures.ok.there

pub overflow_sub-cost : goal.overflow_sub-cost
overflow_sub-cost c = omega (arith, c.in_ok-found.ensures.ok.small)

pub returns-then-cost-least : goal.returns-then-cost-least
returns-then-cost-least c =
    let a = c.args in
    project_over a.n a.sizes a.unit a.value a.other (held_by a.floor a.costs.now) c.in_ok-found.ensures.ok c.unwrap_or-least.result (c.unwrap_or-least.ensures ∙ ap taken c.least_cost.ensures) c.if-cost-least.true

pub shift-requires : goal.shift-requires
shift-requires c = (inside (goal.at.shift-requires c).In_ok-found, λ t. absurd (false≢true t))

pub overflow_add-costs : goal.overflow_add-costs
overflow_add-costs c = omega (arith, c.if-cost-least.false, c.in_ok-found.ensures.ok.small)

pub offset_bounds-costs-own-2 : goal.offset_bounds-costs-own-2
offset_bounds-costs-own-2 c = omega (arith, c.in_ok-found.ensures.ok.low)

pub bounds-costs-own-2 : goal.bounds-costs-own-2
bounds-costs-own-2 c =
    let a = c.args in
    let k : length c.shift.new.costs ≡ length a.costs.now = search rules in
    omega (arith, c.in_ok-found.ensures.ok.there, k)

pub returns : goal.returns
returns c =
    let a = c.args in
    project_moves a.n a.sizes a.unit a.value a.other (held_by a.floor a.costs.now) c.in_ok-found.ensures.ok c.unwrap_or-least.result (c.unwrap_or-least.ensures ∙ ap taken c.least_cost.ensures) (omega (arith, c.if-cost-least.false)) c.shift.new.costs c.shift.ensures
