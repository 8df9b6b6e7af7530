-- `project_run` meets its contract: what passed the tests has a unit, and the amount is as the definition takes it.
-- Assumes nothing.
use Prim.Native.Nat.{◌-◌, ◌≤◌, ◌<◌}
use mathlib.Core.Path.{◌≡◌, sym, ap, ◌∙◌}
use mathlib.Core.Bool.{true, false≢true}
use native.Mathlib.Omega.{arith}
use Prim.Native.Nat.{pred}
use Rattle.base.specs.Shape.Laws.{shape_n, value_range}
use Rattle.std.proofs.lemmas.Result.{err_from_is_err_and}
use Rattle.base.specs.Refusal.{number_of}
use Rattle.base.specs.Refusal.Laws.{number_some}
use Rattle.base.specs.Shape.{is_value}
use Rattle.costs.specs.Instance.{dom_in}
use Rattle.projections.specs.Held.{barred}
use Rattle.projections.specs.Moves.{taken, own_taken, refusal_by, unary_fits, held_by}
use Rattle.projections.specs.Moves.Worth.{Passed, passed, own-apart}
use Rattle.projections.specs.Steps.{run_inside}
use Rattle.projections.specs.Steps.Calls.{refused-first, unary_refused, unary_done, own-taken, over_left, under_left, amount_over, amount_fits}
use Rattle.projections.proofs.project_run.Goals as goal
use Rattle.projections.proofs.project_run.Goals.{In_ok-check_lent}

none : (c : In_ok-check_lent) → let a = c.args in refusal_by a.n a.sizes (held_by a.floor a.costs.now) (is_value a.n a.unit) true ≡ 0
none c =
    let a = c.args in
    let v : c.is_value-there.result ≡ is_value a.n a.unit = rw (← c.from.ensures, ← c.from-2.ensures) c.is_value-there.ensures in
    sym (c.in_ok-check_lent.ensures ∙ ap (λ t. refusal_by a.n a.sizes (held_by a.floor a.costs.now) t true) v)

ok : (c : In_ok-check_lent) → let a = c.args in Passed a.n a.sizes (held_by a.floor a.costs.now) (is_value a.n a.unit) true
ok c =
    let a = c.args in
    let h = held_by a.floor a.costs.now in
    passed a.n a.sizes h (is_value a.n a.unit) true (none c)

unit : (c : In_ok-check_lent) → let a = c.args in (1 ≤ a.unit) × (a.unit ≤ a.n)
unit c =
    value_range c.args.n c.args.unit (ok c).found

pub returns-in_err-check_lent : goal.returns-in_err-check_lent
returns-in_err-check_lent c =
    let a = c.args in
    let h = held_by a.floor a.costs.now in
    let p = err_from_is_err_and c.from_residual.result c.from_residual.ensures.1 in
    let r = c.in_err-check_lent.field-0.0 in
    let v : c.is_value-there.result ≡ is_value a.n a.unit = rw (← c.from.ensures, ← c.from-2.ensures) c.is_value-there.ensures in
    let first : number_of r ≡ refusal_by a.n a.sizes h (is_value a.n a.unit) true = c.in_err-check_lent.ensures ∙ ap (λ t. refusal_by a.n a.sizes h t true) v in
    rw (p.1, p.2) (unary_refused a.n a.sizes h a.unit (number_of r) (refused-first a.n a.sizes h (is_value a.n a.unit) (unary_fits (dom_in a.n a.sizes) (pred a.unit) h) (number_of r) first (number_some r)) (number_some r))

pub own_run-all-requires : goal.own_run-all-requires
own_run-all-requires c =
    let past = goal.at.own_run-all-requires c in
    let a = c.args in
    let u = unit past.In_ok-check_lent in
    (u.0, omega (arith, u.1, (shape_n a.n a.sizes (ok past.In_ok-check_lent).shape).1))

pub least_cost-requires : goal.least_cost-requires
least_cost-requires c =
    let past = goal.at.least_cost-requires c in
    let a = c.args in
    let u = unit past.In_ok-check_lent in
    run_inside c.own_run-all.ensures a.costs.now (own-apart a.n a.sizes (pred a.unit) (omega (arith, u.0, u.1)) a.costs.now (ok past.In_ok-check_lent).count (ok past.In_ok-check_lent).own)

pub overflow_sub-floor : goal.overflow_sub-floor
overflow_sub-floor c = omega (arith, (ok (goal.at.overflow_sub-floor c).In_ok-check_lent).floor)

pub returns-then-floor-least : goal.returns-then-floor-least
returns-then-floor-least c =
    let past = goal.at.returns-then-floor-least c in
    let a = c.args in
    let h = held_by a.floor a.costs.now in
    let t = own-taken a.n a.sizes h (pred a.unit) c.unwrap_or-least.result c.own_run-all.ensures (c.unwrap_or-least.ensures ∙ ap taken c.least_cost.ensures) in
    let β = own_taken (dom_in a.n a.sizes) (pred a.unit) a.costs.now in
    let over : barred - a.floor ≤ β = omega (arith, c.if-floor-least.true, t) in
    unary_refused a.n a.sizes h a.unit 19 (amount_over a.n a.sizes h (is_value a.n a.unit) (unary_fits (dom_in a.n a.sizes) (pred a.unit) h) (none past.In_ok-check_lent) (over_left a.floor β (ok past.In_ok-check_lent).floor over)) (λ z. omega arith)

pub shift-requires : goal.shift-requires
shift-requires c =
    let past = goal.at.shift-requires c in
    let a = c.args in
    let u = unit past.In_ok-check_lent in
    (run_inside c.own_run-all.ensures a.costs.now (own-apart a.n a.sizes (pred a.unit) (omega (arith, u.0, u.1)) a.costs.now (ok past.In_ok-check_lent).count (ok past.In_ok-check_lent).own), λ t. absurd (false≢true t))

pub overflow_add-result : goal.overflow_add-result
overflow_add-result c =
    omega (arith, c.if-floor-least.false, (ok (goal.at.overflow_add-result c).In_ok-check_lent).floor)

pub returns : goal.returns
returns c =
    let a = c.args in
    let h = held_by a.floor a.costs.now in
    let t = own-taken a.n a.sizes h (pred a.unit) c.unwrap_or-least.result c.own_run-all.ensures (c.unwrap_or-least.ensures ∙ ap taken c.least_cost.ensures) in
    let β = own_taken (dom_in a.n a.sizes) (pred a.unit) a.costs.now in
    let under : β < barred - a.floor = omega (arith, c.if-floor-least.false, t) in
    unary_done a.n a.sizes h a.unit c.unwrap_or-least.result c.shift.new.costs c.own_run-all.ensures (amount_fits a.n a.sizes h (is_value a.n a.unit) (unary_fits (dom_in a.n a.sizes) (pred a.unit) h) (none (goal.at.returns c).In_ok-check_lent) (under_left a.floor β under)) t c.shift.ensures
