-- `check_lent` meets its contract: one test after another, as the definition has them.
-- Assumes nothing.
use mathlib.Core.Path.{◌≡◌, sym, ap, ◌∙◌}
use mathlib.Core.Bool.{true, false}
use native.Mathlib.Omega.{arith}
use lib.Dec.{ltb}
use lib.ListN.{length, get_or}
use Rattle.base.specs.Every.{every}
use Rattle.base.specs.Shape.{shape_good}
use Rattle.base.specs.Shape.Laws.{shape_n}
use Rattle.costs.specs.Instance.{dom_in}
use Rattle.projections.specs.Held.{cost_count, barred}
use Rattle.projections.specs.Moves.{held_by}
use Rattle.projections.specs.Steps.{sum_upto, refused_shape, refused-count, refused-there, refused_floor, by_own, all_every}
use Prim.Native.Nat.{◌≤◌}
use borrow.Author.Rules.{rules}
use Rattle.projections.proofs.check_lent.Goals as goal

pub returns-then-not-shape_good : goal.returns-then-not-shape_good
returns-then-not-shape_good c =
    let a = c.args in
    let h = held_by a.floor a.costs.now in
    refused_shape a.n a.sizes h a.there (sym c.shape_good.ensures ∙ c.if-not-shape_good.true)

pub cost_count-requires : goal.cost_count-requires
cost_count-requires c =
    let a = c.args in
    let good : shape_good a.n a.sizes ≡ true = sym c.shape_good.ensures ∙ c.if-not-shape_good.false in
    (shape_n a.n a.sizes good).1

pub returns-then-costs-cost_count : goal.returns-then-costs-cost_count
returns-then-costs-cost_count c =
    let a = c.args in
    let h = held_by a.floor a.costs.now in
    let good : shape_good a.n a.sizes ≡ true = sym c.shape_good.ensures ∙ c.if-not-shape_good.false in
    refused-count a.n a.sizes h a.there good (λ e. c.if-costs-cost_count.true (e ∙ sym c.cost_count.ensures))

pub returns-then-not-there : goal.returns-then-not-there
returns-then-not-there c =
    let a = c.args in
    let h = held_by a.floor a.costs.now in
    let good : shape_good a.n a.sizes ≡ true = sym c.shape_good.ensures ∙ c.if-not-shape_good.false in
    let count : length a.costs.now ≡ cost_count (dom_in a.n a.sizes) a.n = c.if-costs-cost_count.false ∙ c.cost_count.ensures in
    refused-there a.n a.sizes h a.there good count (c.if-not-there.true)

pub returns-then-floor-ge-BARRED : goal.returns-then-floor-ge-BARRED
returns-then-floor-ge-BARRED c =
    let a = c.args in
    let h = held_by a.floor a.costs.now in
    let good : shape_good a.n a.sizes ≡ true = sym c.shape_good.ensures ∙ c.if-not-shape_good.false in
    let count : length a.costs.now ≡ cost_count (dom_in a.n a.sizes) a.n = c.if-costs-cost_count.false ∙ c.cost_count.ensures in
    refused_floor a.n a.sizes h a.there good count (c.if-not-there.false) c.if-floor-ge-BARRED.true

pub sum_sizes-requires : goal.sum_sizes-requires
sum_sizes-requires c = (omega arith, omega (arith, c.ranges.n.fits))

pub slice_bounds-all_free-end : goal.slice_bounds-all_free-end
slice_bounds-all_free-end c =
    let a = c.args in
    let count : length a.costs.now ≡ cost_count (dom_in a.n a.sizes) a.n = c.if-costs-cost_count.false ∙ c.cost_count.ensures in
    let sum = sum_upto (dom_in a.n a.sizes) c.sum_sizes.result c.from.result a.n c.sum_sizes.ensures.0 c.from.ensures in
    let h : c.sum_sizes.result ≤ length a.costs.now = omega (arith, count, sum) in
    search rules

pub returns-then-not-all_free : goal.returns-then-not-all_free
returns-then-not-all_free c =
    let a = c.args in
    let h = held_by a.floor a.costs.now in
    let good : shape_good a.n a.sizes ≡ true = sym c.shape_good.ensures ∙ c.if-not-shape_good.false in
    let count : length a.costs.now ≡ cost_count (dom_in a.n a.sizes) a.n = c.if-costs-cost_count.false ∙ c.cost_count.ensures in
    let sum = sum_upto (dom_in a.n a.sizes) c.sum_sizes.result c.from.result a.n c.sum_sizes.ensures.0 c.from.ensures in
    by_own a.n a.sizes h a.there good count (c.if-not-there.false) c.if-floor-ge-BARRED.false false (sym (c.if-not-all_free.true) ∙ c.all_free.ensures ∙ all_every (λ x. ltb x barred) a.costs.now c.sum_sizes.result (omega (arith, count, sum)) ∙ ap (λ m. every (λ k. ltb (get_or a.costs.now k 0) barred) m) sum)

pub returns : goal.returns
returns c =
    let a = c.args in
    let h = held_by a.floor a.costs.now in
    let good : shape_good a.n a.sizes ≡ true = sym c.shape_good.ensures ∙ c.if-not-shape_good.false in
    let count : length a.costs.now ≡ cost_count (dom_in a.n a.sizes) a.n = c.if-costs-cost_count.false ∙ c.cost_count.ensures in
    let sum = sum_upto (dom_in a.n a.sizes) c.sum_sizes.result c.from.result a.n c.sum_sizes.ensures.0 c.from.ensures in
    by_own a.n a.sizes h a.there good count (c.if-not-there.false) c.if-floor-ge-BARRED.false true (sym (c.if-not-all_free.false) ∙ c.all_free.ensures ∙ all_every (λ x. ltb x barred) a.costs.now c.sum_sizes.result (omega (arith, count, sum)) ∙ ap (λ m. every (λ k. ltb (get_or a.costs.now k 0) barred) m) sum)
