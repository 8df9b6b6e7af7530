-- `used_slots` meets its contract: a product of two numbers that a byte gives.
-- Assumes nothing.
use Rattle.std.proofs.Common.{◌+◌, ◌^◌, ◌<◌, ◌≤◌, arith, rules}
use native.Mathlib.Nat.{mul-le-mul}
use Rattle.slots.proofs.numbering.used_slots.Goals as goal

pub overflow_mul-result : goal.overflow_mul-result
overflow_mul-result c =
    let l : c.args.n < 2 ^ 8 = search rules in
    let a : c.saturating_sub.result ≤ 254 = omega (arith, c.saturating_sub.ensures, c.from-count.ensures) in
    let b : c.from-count.result + 4 ≤ 259 = omega (arith, c.from-count.ensures) in
    record { fits = omega (arith, mul-le-mul a b) }

pub returns : goal.returns
returns c = rw (c.saturating_sub.ensures, c.from-count.ensures)
