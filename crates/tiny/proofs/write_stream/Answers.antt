-- `write_stream` meets its contract: what is not refused is a number of a table, and has room for its stream. Assumes nothing.
use Prim.Native.Nat.{◌+◌, ◌^◌, ◌≤◌}
use mathlib.Core.Path.{◌≡◌, sym, ap, ◌∙◌}
use mathlib.Core.Bool.{true}
use native.Mathlib.Omega.{arith}
use lib.ListN.{length}
use borrow.Author.Rules.{rules}
use Rattle.std.proofs.lemmas.Result.{err_from_is_err_and}
use Rattle.base.specs.Refusal.{number_of}
use Rattle.base.specs.Refusal.Laws.{number_some}
use Rattle.tiny.specs.Tiny.{is_tiny, tiny_refusal}
use Rattle.tiny.specs.Once.{tables_are}
use Rattle.tiny.specs.Steps.{not_refused, tiny_count, few_units, few_costs, tiny_refused}
use Rattle.tiny.proofs.Steps.{tiny_made, tiny_left}
use Rattle.tiny.proofs.write_stream.Goals as goal
use Rattle.tiny.proofs.write_stream.Goals.{In_ok-check_number, After-costs_of-costs}

pub returns-in_err-check_number : goal.returns-in_err-check_number
returns-in_err-check_number c =
    let a = c.args in
    let p = err_from_is_err_and c.from_residual.result c.from_residual.ensures.1 in
    let r = c.in_err-check_number.field-0.0 in
    rw (p.1, p.2) (tiny_refused a.n a.number a.stream.now (number_of r) c.in_err-check_number.ensures (number_some r))

-- nothing is refused
none : (c : In_ok-check_number) → let a = c.args in tiny_refusal a.n a.number (length a.stream.now) ≡ 0
none c = sym c.in_ok-check_number.ensures

tiny : (c : In_ok-check_number) → is_tiny c.args.n ≡ true
tiny c =
    let a = c.args in
    tiny_count a.n a.number (not_refused a.n a.number (length a.stream.now) (none c)).0

pub costs_of-costs-requires : goal.costs_of-costs-requires
costs_of-costs-requires c = tiny (goal.at.costs_of-costs-requires c).In_ok-check_number

pub put_costs-requires : goal.put_costs-requires
put_costs-requires c =
    let past = goal.at.put_costs-requires c in
    let a = c.args in
    let k : length c.put.new.out ≡ length a.stream.now = search rules in
    let w = c.from-start.ensures in (
      c.tables_of-tables.ensures ∙ tables_are a.n (tiny past.In_ok-check_number) ∙ ap (λ m. 2 ^ m) (sym c.costs_of-costs.ensures),
      omega (arith, k, w, few_units a.n (tiny past.In_ok-check_number), few_costs a.n (tiny past.In_ok-check_number), c.costs_of-costs.ensures, (not_refused a.n a.number (length a.stream.now) (none past.In_ok-check_number)).1),
    )

few : (c : After-costs_of-costs) → c.costs_of-costs.result ≤ 12
few c =
    omega (arith, c.costs_of-costs.ensures, few_costs c.args.n (tiny (goal.at.After-costs_of-costs c).In_ok-check_number))

pub overflow_mul-result : goal.overflow_mul-result
overflow_mul-result c = omega (arith, few (goal.at.overflow_mul-result c).After-costs_of-costs)

pub overflow_add-result : goal.overflow_add-result
overflow_add-result c = omega (arith, few (goal.at.overflow_add-result c).After-costs_of-costs)

pub returns : goal.returns
returns c =
    let past = goal.at.returns c in
    let a = c.args in
    let w = c.from-start.ensures in
    let k = c.costs_of-costs.ensures in (
      tiny_made a.n a.number a.stream.now (none past.In_ok-check_number) _ (rw (w, k)),
      c.put_costs.ensures
          ∙ tiny_left a.n a.number a.stream.now (none past.In_ok-check_number) _ _ _ (ap (λ m. 1 + m) w) k c.put.ensures,
    )

pub slice_bounds-shape-end : goal.slice_bounds-shape-end
slice_bounds-shape-end c =
    let few : 1 + c.from-start.result ≤ 4 = omega (arith, c.from-start.ensures, few_units c.args.n (tiny (goal.at.slice_bounds-shape-end c).In_ok-check_number)) in
    search rules

pub slice_bounds-put-end : goal.slice_bounds-put-end
slice_bounds-put-end c =
    let few : 1 + c.from-start.result ≤ 4 = omega (arith, c.from-start.ensures, few_units c.args.n (tiny (goal.at.slice_bounds-put-end c).In_ok-check_number)) in
    search rules
