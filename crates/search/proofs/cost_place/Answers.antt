-- `cost_place` meets its contract: bytes and sizes are far below what overflows.
-- Assumes nothing.
use Prim.Native.Nat.{◌*◌, ◌-◌, ◌≤◌}
use native.Mathlib.Omega.{arith}
use native.Mathlib.Nat.{mul-le-mul}
use Rattle.search.proofs.cost_place.Goals as goal
use Rattle.search.proofs.cost_place.Goals.{After-from}

-- the part that is a product
small : (c : After-from) → (c.from.result - 1) * c.args.d ≤ 255 * 255
small c =
    let u : c.from.result - 1 ≤ 255 = omega arith in
    let d : c.args.d ≤ 255 = omega arith in
    mul-le-mul u d

pub overflow_mul-result : goal.overflow_mul-result
overflow_mul-result c = omega (arith, small (goal.at.overflow_mul-result c).After-from)

pub overflow_add-result : goal.overflow_add-result
overflow_add-result c = omega (arith, small (goal.at.overflow_add-result c).After-from)

pub overflow_mul-result-2 : goal.overflow_mul-result-2
overflow_mul-result-2 c = omega (arith, small (goal.at.overflow_mul-result-2 c).After-from)

pub overflow_add-result-2 : goal.overflow_add-result-2
overflow_add-result-2 c = omega (arith, small (goal.at.overflow_add-result-2 c).After-from)

pub returns : goal.returns
returns c = rw c.from.ensures
