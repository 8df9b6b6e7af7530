-- `row_run` meets its contract: by which unit comes first.
-- Assumes nothing.
use Prim.Native.Nat.{◌-◌, ◌≤◌}
use mathlib.Core.Path.{◌≡◌, ap, ◌∙◌}
use native.Mathlib.Omega.{arith}
use Prim.Native.Nat.{pred}
use native.Mathlib.Nat.{mul-le-mul}
use Rattle.costs.specs.Instance.{dom_in, pair_start}
use Rattle.projections.specs.Steps.{sum_upto, before_one, later_run_is, earlier-run_is}
use Rattle.projections.proofs.places.row_run.Goals as goal

pub overflow_sub-u : goal.overflow_sub-u
overflow_sub-u c = omega (arith, c.from-u.ensures, c.requires.3.value.0)

pub pair_start-requires : goal.pair_start-requires
pair_start-requires c =
    let a = c.args in
    let p = c.requires.3 in
    let qi : c.from-i.result - 1 ≡ pred a.unit = rw c.from-i.ensures (before_one a.unit) in
    let qj : c.from-j.result - 1 ≡ pred a.other = rw c.from-j.ensures (before_one a.other) in
    (c.requires.0, c.if-i-j.true, omega (arith, qj, p.other))

pub overflow_mul-result : goal.overflow_mul-result
overflow_mul-result c =
    let u : c.from-u.result - 1 ≤ 255 = omega arith in
    omega (arith, mul-le-mul u c.size_of-count.ensures.1)

pub overflow_add-result : goal.overflow_add-result
overflow_add-result c =
    let u : c.from-u.result - 1 ≤ 255 = omega arith in
    omega (arith, c.pair_start.ensures.1, mul-le-mul u c.size_of-count.ensures.1)

pub overflow_add-result-then-i-j : goal.overflow_add-result-then-i-j
overflow_add-result-then-i-j c =
    let u : c.from-u.result - 1 ≤ 255 = omega arith in
    omega (arith, c.pair_start.ensures.1, c.sum_sizes-own.ensures.1, mul-le-mul u c.size_of-count.ensures.1)

pub returns-then-i-j : goal.returns-then-i-j
returns-then-i-j c =
    let a = c.args in
    let p = c.requires.3 in
    let qi : c.from-i.result - 1 ≡ pred a.unit = rw c.from-i.ensures (before_one a.unit) in
    let qj : c.from-j.result - 1 ≡ pred a.other = rw c.from-j.ensures (before_one a.other) in
    let u : c.from-u.result - 1 ≤ 255 = omega arith in
    let dom = dom_in a.n a.sizes in
    let own = sum_upto dom c.sum_sizes-own.result c.from.result a.n c.sum_sizes-own.ensures.0 c.from.ensures in
    let pairs : c.pair_start.result ≡ pair_start dom a.n (pred a.unit) (pred a.other) = c.pair_start.ensures.0 ∙ ap (λ z. pair_start dom a.n z (c.from-j.result - 1)) qi ∙ ap (λ z. pair_start dom a.n (pred a.unit) z) qj in
    later_run_is dom a.n (pred a.unit) a.value (pred a.other) c.sum_sizes-own.result c.pair_start.result c.size_of-count.result own (c.size_of-count.ensures.0 ∙ ap dom qj) c.size_of-count.ensures.1 (c.from-u.result - 1) (omega (arith, qi, qj, c.if-i-j.true)) pairs (rw c.from-u.ensures) (omega (arith, c.pair_start.ensures.1, c.sum_sizes-own.ensures.1, mul-le-mul u c.size_of-count.ensures.1))

pub pair_start-requires-else-i-j : goal.pair_start-requires-else-i-j
pair_start-requires-else-i-j c =
    let a = c.args in
    let p = c.requires.3 in
    let qi : c.from-i.result - 1 ≡ pred a.unit = rw c.from-i.ensures (before_one a.unit) in
    let qj : c.from-j.result - 1 ≡ pred a.other = rw c.from-j.ensures (before_one a.other) in
    let ne : pred a.unit ≡ pred a.other → ⊥ = p.apart in
    (c.requires.0, omega (arith, qi, qj, c.if-i-j.false), omega (arith, qi, p.unit))

pub returns-else-i-j : goal.returns-else-i-j
returns-else-i-j c =
    let a = c.args in
    let p = c.requires.3 in
    let qi : c.from-i.result - 1 ≡ pred a.unit = rw c.from-i.ensures (before_one a.unit) in
    let qj : c.from-j.result - 1 ≡ pred a.other = rw c.from-j.ensures (before_one a.other) in
    let dom = dom_in a.n a.sizes in
    let ne : pred a.unit ≡ pred a.other → ⊥ = p.apart in
    let own = sum_upto dom c.sum_sizes-own.result c.from.result a.n c.sum_sizes-own.ensures.0 c.from.ensures in
    let pairs : c.pair_start-else-i-j.result ≡ pair_start dom a.n (pred a.other) (pred a.unit) = c.pair_start-else-i-j.ensures.0 ∙ ap (λ z. pair_start dom a.n z (c.from-i.result - 1)) qj ∙ ap (λ z. pair_start dom a.n (pred a.other) z) qi in
    earlier-run_is dom a.n (pred a.unit) a.value (pred a.other) c.sum_sizes-own.result c.pair_start-else-i-j.result c.size_of-count.result own (c.size_of-count.ensures.0 ∙ ap dom qj) c.size_of-count.ensures.1 (c.from-u.result - 1) c.size_of.result (omega (arith, qi, qj, c.if-i-j.false)) pairs (rw c.from-u.ensures) (c.size_of.ensures.0 ∙ ap dom qi) c.size_of.ensures.1 (omega (arith, c.pair_start-else-i-j.ensures.1, c.sum_sizes-own.ensures.1))
