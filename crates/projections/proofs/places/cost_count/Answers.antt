-- `cost_count` meets its contract.
-- Assumes nothing.
use mathlib.Core.Path.{ap, ◌∙◌}
use native.Mathlib.Omega.{arith}
use Rattle.costs.specs.Instance.{dom_in}
use Rattle.costs.specs.Laws.Stream.{row_start}
use Rattle.projections.specs.Steps.{sum_upto}
use Rattle.projections.proofs.places.cost_count.Goals as goal

pub returns : goal.returns
returns c =
    let a = c.args in
    let e = sum_upto (dom_in a.n a.sizes) c.sum_sizes.result c.from.result a.n c.sum_sizes.ensures.0 c.from.ensures in
    let f = c.row_start.ensures.0 ∙ ap (λ m. row_start (dom_in a.n a.sizes) a.n m) c.from-2.ensures in
    omega (arith, e, f)
