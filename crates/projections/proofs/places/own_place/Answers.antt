-- `own_place` meets its contract.
-- Assumes nothing.
use Prim.Native.Nat.{◌-◌}
use native.Mathlib.Omega.{arith}
use Prim.Native.Nat.{pred}
use Rattle.costs.specs.Instance.{dom_in}
use Rattle.projections.specs.Steps.{sum_upto, before_one}
use Rattle.projections.proofs.places.own_place.Goals as goal

pub returns : goal.returns
returns c =
    let a = c.args in
    let e = sum_upto (dom_in a.n a.sizes) c.sum_sizes.result (c.from.result - 1) (pred a.unit) c.sum_sizes.ensures.0 (rw c.from.ensures (before_one a.unit)) in
    (omega (arith, e, c.from-2.ensures), omega (arith, c.sum_sizes.ensures.1, c.from.ensures, c.requires.1))
