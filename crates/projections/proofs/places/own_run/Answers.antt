-- `own_run` meets its contract.
-- Assumes nothing.
use Prim.Native.Nat.{◌-◌}
use mathlib.Core.Path.{◌≡◌, ap, ◌∙◌}
use native.Mathlib.Omega.{arith}
use Prim.Native.Nat.{pred}
use Rattle.costs.specs.Instance.{dom_in}
use Rattle.projections.specs.Steps.{sum_upto, before_one, own-run_is}
use Rattle.projections.proofs.places.own_run.Goals as goal

pub returns : goal.returns
returns c =
    let a = c.args in
    let q : c.from-place.result - 1 ≡ pred a.unit = rw c.from-place.ensures (before_one a.unit) in
    let e = sum_upto (dom_in a.n a.sizes) c.sum_sizes.result (c.from-place.result - 1) (pred a.unit) c.sum_sizes.ensures.0 q in
    own-run_is (dom_in a.n a.sizes) (pred a.unit) c.sum_sizes.result c.size_of.result e (c.size_of.ensures.0 ∙ ap (dom_in a.n a.sizes) q) (omega (arith, c.sum_sizes.ensures.1)) c.size_of.ensures.1
