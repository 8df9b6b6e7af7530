-- `unary_at` meets its contract: each way out is a case of the definition, as n and the sizes are the stream's.
-- Assumes nothing.
use Prim.Native.Nat.{ℕ, ◌≤◌}
use mathlib.Core.Path.{◌≡◌, sym, ap, ◌∙◌}
use native.Mathlib.Omega.{arith}
use Rattle.base.specs.Shape.{is_value}
use Rattle.base.specs.Shape.Laws.{value_range}
use Rattle.base.specs.Sums.{sum_from}
use Rattle.table.specs.Stream.{units_of, stream_refusal}
use Rattle.costs.specs.Instance.{dom_of}
use Rattle.sensitivity.specs.Changes.{Unary}
use Rattle.sensitivity.specs.Steps.{told_ok, told_err, size_in, sizes_are, units_few, place-refused, no_form, no_unit_lem, no_value, unary_found}
use Rattle.sensitivity.proofs.place.unary_at.Goals as goal
use Rattle.sensitivity.proofs.place.unary_at.Goals.{Else-is_err, After-from-n, After-sizes_of-sizes, After-is_value, Else-not-is_value}

-- what is known on the way
accepted : (c : Else-is_err) → stream_refusal c.args.stream.now ≡ 0
accepted c = sym c.check_stream.ensures ∙ told_ok c.check_stream.result (sym c.is_err.ensures.value ∙ c.if-is_err.false)

units : (c : After-from-n) → c.from-n.result ≡ units_of c.args.stream.now
units c = c.from-n.ensures ∙ c.units_of.ensures

few : (c : After-from-n) → c.from-n.result ≤ 16
few c = omega (arith, units c, units_few c.args.stream.now (accepted (goal.at.After-from-n c).Else-is_err))

sizes : (c : After-sizes_of-sizes) → size_in c.sizes_of-sizes.result ≡ dom_of c.args.stream.now
sizes c =
    let s = c.args.stream.now in
    ap size_in c.sizes_of-sizes.ensures ∙ sizes_are s (units_few s (accepted (goal.at.After-sizes_of-sizes c).Else-is_err))

value : (c : After-is_value) → let a = c.args in is_value (dom_of a.stream.now a.k) a.v ≡ c.is_value.result
value c =
    let a = c.args in
    let d = c.size.ensures.0 ∙ ap (λ (f : ℕ → ℕ). f a.k) (sizes (goal.at.After-is_value c).After-sizes_of-sizes) in
    sym (c.is_value.ensures ∙ ap (λ (m : ℕ). is_value m a.v) d)

small : (c : Else-not-is_value) → let a = c.args in (1 ≤ a.v) × (a.v ≤ 255)
small c =
    let r = value_range _ _ (sym c.is_value.ensures ∙ c.if-not-is_value.false) in
    (r.0, omega (arith, r.1, c.size.ensures.1))

pub returns-then-is_err : goal.returns-then-is_err
returns-then-is_err c =
    let a = c.args in
    place-refused a.stream.now (Unary a.k a.v) (λ z. told_err c.check_stream.result (sym c.is_err.ensures.value ∙ c.if-is_err.true) (c.check_stream.ensures ∙ z))

pub returns-then-opening-eq0 : goal.returns-then-opening-eq0
returns-then-opening-eq0 c =
    let a = c.args in
    no_form a.stream.now a.k a.v (sym c.opening.ensures.0 ∙ c.if-opening-eq0.true)

pub returns-then-n-k : goal.returns-then-n-k
returns-then-n-k c =
    let a = c.args in
    no_unit_lem a.stream.now a.k a.v (omega (arith, units (goal.at.returns-then-n-k c).After-from-n, c.if-n-k.true))

pub returns-then-not-is_value : goal.returns-then-not-is_value
returns-then-not-is_value c =
    let a = c.args in
    no_value a.stream.now a.k a.v (value (goal.at.returns-then-not-is_value c).After-is_value ∙ c.if-not-is_value.true)

pub sum_sizes-requires : goal.sum_sizes-requires
sum_sizes-requires c = (omega arith, omega (arith, few (goal.at.sum_sizes-requires c).After-from-n, c.if-n-k.false))

pub returns : goal.returns
returns c =
    let past = goal.at.returns c in
    let a = c.args in
    let s = a.stream.now in
    unary_found s a.k a.v c.from-n.result c.sum_sizes.result (units past.After-from-n) (c.sum_sizes.ensures.0 ∙ ap (λ (f : ℕ → ℕ). sum_from f 0 a.k) (sizes past.After-sizes_of-sizes))
    (accepted past.Else-is_err) (λ z. c.if-opening-eq0.false (c.opening.ensures.0 ∙ z)) (value past.After-is_value ∙ c.if-not-is_value.false) (omega (arith, c.if-n-k.false))

pub overflow_sub-result : goal.overflow_sub-result
overflow_sub-result c = omega (arith, small (goal.at.overflow_sub-result c).Else-not-is_value)

pub overflow_add-result-2 : goal.overflow_add-result-2
overflow_add-result-2 c = omega (arith, small (goal.at.overflow_add-result-2 c).Else-not-is_value, few (goal.at.overflow_add-result-2 c).After-from-n, c.if-n-k.false)

pub overflow_mul-result : goal.overflow_mul-result
overflow_mul-result c = omega (arith, small (goal.at.overflow_mul-result c).Else-not-is_value, few (goal.at.overflow_mul-result c).After-from-n, c.if-n-k.false)

pub overflow_add-result-3 : goal.overflow_add-result-3
overflow_add-result-3 c = omega (arith, small (goal.at.overflow_add-result-3 c).Else-not-is_value, few (goal.at.overflow_add-result-3 c).After-from-n, c.if-n-k.false)
