-- `number_after` meets its contract: either way out is a law of the order.
-- Assumes nothing.
use native.Mathlib.Omega.{arith}
use Rattle.decide.proofs.Later.{number_next, number_last}
use Rattle.decide.proofs.order.number_after.Goals as goal

pub returns-then-v-d : goal.returns-then-v-d
returns-then-v-d c = (omega arith, λ w plain d. let a = c.args in number_next w plain a.v (omega arith))

pub returns-else-v-d : goal.returns-else-v-d
returns-else-v-d c = (omega arith, λ w plain d. let a = c.args in number_last w plain a.v (omega arith))
