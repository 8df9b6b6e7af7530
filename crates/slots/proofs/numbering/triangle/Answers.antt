-- `triangle` meets its contract: half of a product of two bytes.
-- Assumes nothing.
use Rattle.std.proofs.Common.{◌≤◌, arith}
use native.Mathlib.Nat.{mul-le-mul}
use Rattle.slots.specs.Slot.{triangle}
use Rattle.slots.proofs.numbering.triangle.Goals as goal

pub overflow_mul-result : goal.overflow_mul-result
overflow_mul-result c =
    let a : c.args.m ≤ 255 = c.requires in
    let b : c.saturating_sub.result ≤ 254 = omega (arith, c.saturating_sub.ensures) in
    record { fits = omega (arith, mul-le-mul a b) }

pub returns : goal.returns
unfolding triangle
returns c =
    let a : c.args.m ≤ 255 = c.requires in
    let b : c.saturating_sub.result ≤ 254 = omega (arith, c.saturating_sub.ensures) in
    (rw c.saturating_sub.ensures, omega (arith, mul-le-mul a b))
