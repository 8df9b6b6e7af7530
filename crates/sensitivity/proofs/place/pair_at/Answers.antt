-- `pair_at` meets its contract: each way out is a case of the definition, as n and the sizes are the stream's.
-- Assumes nothing.
use Prim.Native.Nat.{ℕ, ◌*◌, ◌-◌, ◌≤◌}
use mathlib.Core.Path.{◌≡◌, sym, ap, ◌∙◌}
use native.Mathlib.Nat.{mul-le-mul}
use native.Mathlib.Omega.{arith}
use Rattle.base.specs.Shape.{is_value}
use Rattle.base.specs.Shape.Laws.{value_range}
use Rattle.base.specs.Sums.{sum_from}
use Rattle.table.specs.Stream.{units_of, stream_refusal}
use Rattle.costs.specs.Instance.{dom_of, pair_start}
use Rattle.sensitivity.specs.Changes.{Pair}
use Rattle.sensitivity.specs.Steps.{told_ok, told_err, size_in, sizes_are, units_few, place-refused, not_later, no_second, no_first_value, no_second_value, pair_found}
use Rattle.sensitivity.proofs.place.pair_at.Goals as goal
use Rattle.sensitivity.proofs.place.pair_at.Goals.{Else-is_err, After-from-n, After-sizes_of-sizes, After-is_value, After-size-e, After-is_value-2, After-sum_sizes, Else-not-is_value-2}

-- what is known on the way
accepted : (c : Else-is_err) → stream_refusal c.args.stream.now ≡ 0
accepted c = sym c.check_stream.ensures ∙ told_ok c.check_stream.result (sym c.is_err.ensures.value ∙ c.if-is_err.false)

units : (c : After-from-n) → c.from-n.result ≡ units_of c.args.stream.now
units c = c.from-n.ensures ∙ c.units_of.ensures

few : (c : After-from-n) → c.from-n.result ≤ 16
few c = omega (arith, units c, units_few c.args.stream.now (accepted (goal.at.After-from-n c).Else-is_err))

sizes : (c : After-sizes_of-sizes) → size_in c.sizes_of-sizes.result ≡ dom_of c.args.stream.now
sizes c =
    let s = c.args.stream.now in
    ap size_in c.sizes_of-sizes.ensures ∙ sizes_are s (units_few s (accepted (goal.at.After-sizes_of-sizes c).Else-is_err))

first-value : (c : After-is_value) → let a = c.args in is_value (dom_of a.stream.now a.i) a.u ≡ c.is_value.result
first-value c =
    let a = c.args in
    let d = c.size.ensures.0 ∙ ap (λ (f : ℕ → ℕ). f a.i) (sizes (goal.at.After-is_value c).After-sizes_of-sizes) in
    sym (c.is_value.ensures ∙ ap (λ (m : ℕ). is_value m a.u) d)

-- the second unit's size
second-size : (c : After-size-e) → let a = c.args in c.size-e.result ≡ dom_of a.stream.now a.j
second-size c = let a = c.args in c.size-e.ensures.0 ∙ ap (λ (f : ℕ → ℕ). f a.j) (sizes (goal.at.After-size-e c).After-sizes_of-sizes)

second-value : (c : After-is_value-2) → let a = c.args in is_value (dom_of a.stream.now a.j) a.v ≡ c.is_value-2.result
second-value c =
    let a = c.args in
    sym (c.is_value-2.ensures ∙ ap (λ (m : ℕ). is_value m a.v) (second-size (goal.at.After-is_value-2 c).After-size-e))

-- the numbers are small
sum-small : (c : After-sum_sizes) → c.sum_sizes.result ≤ 4080
sum-small c = omega (arith, c.sum_sizes.ensures.1, few (goal.at.After-sum_sizes c).After-from-n)

unaries-small : (c : After-sum_sizes) → c.opening-before.result * c.sum_sizes.result ≤ 1 * 4080
unaries-small c = mul-le-mul c.opening-before.ensures.1 (sum-small c)

value-small : (c : Else-not-is_value-2)
    → let a = c.args in
    (1 ≤ a.u) × (a.u ≤ 255) × (1 ≤ a.v) × (a.v ≤ 255)
value-small c =
    let p = value_range _ _ (sym c.is_value.ensures ∙ c.if-not-is_value.false) in
    let q = value_range _ _ (sym c.is_value-2.ensures ∙ c.if-not-is_value-2.false) in
    (p.0, omega (arith, p.1, c.size.ensures.1), q.0, omega (arith, q.1, c.size-e.ensures.1))

in-pair-small : (c : Else-not-is_value-2)
    → let a = c.args in
    (a.u - 1) * c.size-e.result ≤ 255 * 255
in-pair-small c =
    let a = c.args in
    let u : a.u - 1 ≤ 255 = omega (arith, (value-small c).1) in
    mul-le-mul u c.size-e.ensures.1

pub returns-then-is_err : goal.returns-then-is_err
returns-then-is_err c =
    let a = c.args in
    place-refused a.stream.now (Pair a.i a.u a.j a.v) (λ z. told_err c.check_stream.result (sym c.is_err.ensures.value ∙ c.if-is_err.true) (c.check_stream.ensures ∙ z))

pub returns-then-j-i : goal.returns-then-j-i
returns-then-j-i c = let a = c.args in not_later a.stream.now a.i a.u a.j a.v c.if-j-i.true

pub returns-then-n-j : goal.returns-then-n-j
returns-then-n-j c =
    let a = c.args in
    no_second a.stream.now a.i a.u a.j a.v (omega (arith, units (goal.at.returns-then-n-j c).After-from-n, c.if-n-j.true))

pub returns-then-not-is_value : goal.returns-then-not-is_value
returns-then-not-is_value c =
    let a = c.args in
    no_first_value a.stream.now a.i a.u a.j a.v (first-value (goal.at.returns-then-not-is_value c).After-is_value ∙ c.if-not-is_value.true)

pub returns-then-not-is_value-2 : goal.returns-then-not-is_value-2
returns-then-not-is_value-2 c =
    let a = c.args in
    no_second_value a.stream.now a.i a.u a.j a.v (second-value (goal.at.returns-then-not-is_value-2 c).After-is_value-2 ∙ c.if-not-is_value-2.true)

pub sum_sizes-requires : goal.sum_sizes-requires
sum_sizes-requires c = (omega arith, few (goal.at.sum_sizes-requires c).After-from-n)

pub pair_start-requires : goal.pair_start-requires
pair_start-requires c =
    (omega (arith, c.if-j-i.false), omega (arith, c.if-n-j.false), few (goal.at.pair_start-requires c).After-from-n)

pub returns : goal.returns
returns c =
    let past = goal.at.returns c in
    let a = c.args in
    let f = sizes past.After-sizes_of-sizes in
    let n : ℕ = c.from-n.result in
    let start = c.pair_start.ensures.0 ∙ ap (λ (g : ℕ → ℕ). pair_start g n a.i a.j) f in
    let sum = c.sum_sizes.ensures.0 ∙ ap (λ (g : ℕ → ℕ). sum_from g 0 n) f in
    rw (second-size past.After-size-e)
    (pair_found a.stream.now a.i a.u a.j a.v c.opening-before.result n c.sum_sizes.result c.pair_start.result c.opening-before.ensures.0 (units past.After-from-n) sum start
    (accepted past.Else-is_err) (omega (arith, c.if-j-i.false)) (omega (arith, c.if-n-j.false))
    (first-value past.After-is_value ∙ c.if-not-is_value.false) (second-value past.After-is_value-2 ∙ c.if-not-is_value-2.false))

pub overflow_mul-unaries : goal.overflow_mul-unaries
overflow_mul-unaries c = omega (arith, unaries-small (goal.at.overflow_mul-unaries c).After-sum_sizes)

pub overflow_sub-result : goal.overflow_sub-result
overflow_sub-result c = omega (arith, value-small (goal.at.overflow_sub-result c).Else-not-is_value-2)

pub overflow_mul-result : goal.overflow_mul-result
overflow_mul-result c = omega (arith, in-pair-small (goal.at.overflow_mul-result c).Else-not-is_value-2)

pub overflow_sub-result-2 : goal.overflow_sub-result-2
overflow_sub-result-2 c = omega (arith, value-small (goal.at.overflow_sub-result-2 c).Else-not-is_value-2)

pub overflow_add-result-3 : goal.overflow_add-result-3
overflow_add-result-3 c = omega (arith, value-small (goal.at.overflow_add-result-3 c).Else-not-is_value-2, in-pair-small (goal.at.overflow_add-result-3 c).Else-not-is_value-2)

pub overflow_add-result-4 : goal.overflow_add-result-4
overflow_add-result-4 c = omega (arith, value-small (goal.at.overflow_add-result-4 c).Else-not-is_value-2, in-pair-small (goal.at.overflow_add-result-4 c).Else-not-is_value-2, c.pair_start.ensures.1)

pub overflow_add-result-5 : goal.overflow_add-result-5
overflow_add-result-5 c = omega (arith, value-small (goal.at.overflow_add-result-5 c).Else-not-is_value-2, in-pair-small (goal.at.overflow_add-result-5 c).Else-not-is_value-2, c.pair_start.ensures.1, unaries-small (goal.at.overflow_add-result-5 c).After-sum_sizes)

pub overflow_mul-result-2 : goal.overflow_mul-result-2
overflow_mul-result-2 c = omega (arith, value-small (goal.at.overflow_mul-result-2 c).Else-not-is_value-2, in-pair-small (goal.at.overflow_mul-result-2 c).Else-not-is_value-2, c.pair_start.ensures.1, unaries-small (goal.at.overflow_mul-result-2 c).After-sum_sizes)

pub overflow_add-result-6 : goal.overflow_add-result-6
overflow_add-result-6 c = omega (arith, value-small (goal.at.overflow_add-result-6 c).Else-not-is_value-2, in-pair-small (goal.at.overflow_add-result-6 c).Else-not-is_value-2, c.pair_start.ensures.1, unaries-small (goal.at.overflow_add-result-6 c).After-sum_sizes, c.opening-before.ensures.1)
