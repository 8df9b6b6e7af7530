-- `extend_row` meets its contract: what was found can be moved as the definition moves it.
-- Assumes nothing.
use mathlib.Core.Path.{◌≡◌}
use native.Mathlib.Omega.{arith}
use lib.ListN.{length}
use Rattle.projections.specs.Moves.{held_by}
use Rattle.projections.specs.Moves.Changed.{row_apart}
use Rattle.std.proofs.lemmas.Result.{err_from_is_err_and}
use Rattle.base.specs.Refusal.{number_of}
use Rattle.base.specs.Refusal.Laws.{number_some}
use Rattle.projections.specs.Steps.{Inside, run_inside}
use Rattle.projections.specs.Steps.Calls.{extend_refused, part_over, pair_over, row_raisable, extend_moves}
use borrow.Author.Rules.{rules}
use Rattle.projections.proofs.extend_row.Goals as goal
use Rattle.projections.proofs.extend_row.Goals.{In_ok-found}

-- where the row is, once nothing is refused
inside : (c : In_ok-found) → Inside c.in_ok-found.found.row c.args.costs.now
inside c = let f = c.in_ok-found.ensures.ok in run_inside f.run c.args.costs.now (row_apart f.row c.args.costs.now f.count)

pub returns-in_err-found : goal.returns-in_err-found
returns-in_err-found c =
    let a = c.args in
    let p = err_from_is_err_and c.from_residual.result c.from_residual.ensures.1 in
    let r = c.in_err-found.field-0.0 in
    rw (p.1, p.2) (extend_refused a.n a.sizes a.unit a.value a.other (held_by a.floor a.costs.now) a.part (number_of r) c.in_err-found.ensures.err (number_some r))

pub offset_bounds-costs-own : goal.offset_bounds-costs-own
offset_bounds-costs-own c = omega (arith, c.in_ok-found.ensures.ok.low)

pub bounds-costs-own : goal.bounds-costs-own
bounds-costs-own c = c.in_ok-found.ensures.ok.there

pub returns-then-cost-part : goal.returns-then-cost-part
returns-then-cost-part c =
    let a = c.args in
    part_over a.n a.sizes a.unit a.value a.other (held_by a.floor a.costs.now) a.part c.in_ok-found.ensures.ok c.if-cost-part.true

pub raise_fits-requires : goal.raise_fits-requires
raise_fits-requires c = inside (goal.at.raise_fits-requires c).In_ok-found

pub returns-then-not-raise_fits : goal.returns-then-not-raise_fits
returns-then-not-raise_fits c =
    let a = c.args in
    pair_over a.n a.sizes a.unit a.value a.other (held_by a.floor a.costs.now) a.part c.in_ok-found.ensures.ok (omega (arith, c.if-cost-part.false)) c.raise_fits.result c.raise_fits.ensures (c.if-not-raise_fits.true)

pub shift-requires : goal.shift-requires
shift-requires c =
    let a = c.args in
    (inside (goal.at.shift-requires c).In_ok-found, λ t. row_raisable a.n a.sizes a.unit a.value a.other (held_by a.floor a.costs.now) a.part c.in_ok-found.ensures.ok (omega (arith, c.if-cost-part.false)) c.raise_fits.result c.raise_fits.ensures (c.if-not-raise_fits.false))

pub offset_bounds-costs-own-2 : goal.offset_bounds-costs-own-2
offset_bounds-costs-own-2 c = omega (arith, c.in_ok-found.ensures.ok.low)

pub bounds-costs-own-2 : goal.bounds-costs-own-2
bounds-costs-own-2 c =
    let a = c.args in
    let k : length c.shift.new.costs ≡ length a.costs.now = search rules in
    omega (arith, c.in_ok-found.ensures.ok.there, k)

pub returns : goal.returns
returns c =
    let a = c.args in
    extend_moves a.n a.sizes a.unit a.value a.other (held_by a.floor a.costs.now) a.part c.in_ok-found.ensures.ok (omega (arith, c.if-cost-part.false)) c.raise_fits.result c.raise_fits.ensures (c.if-not-raise_fits.false) c.shift.new.costs c.shift.ensures
