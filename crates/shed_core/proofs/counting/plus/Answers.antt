-- `shed_core::counting::plus` meets its contract: the high word takes the low one's carry.
-- Assumes nothing.
use Rattle.std.specs.Bool.{FalseIff}
use Rattle.std.specs.Int.{from_bool}
use Rattle.std.proofs.Common.{◌≡◌, ℕ, ◌+◌, ◌/◌, ◌%◌, ◌^◌, ◌<◌, Bool, true, false, arith, rules}
use Rattle.runs.specs.Count.{plus}
use Rattle.shed_core.proofs.counting.plus.Goals as goal

carried : (t : Bool) (l h m : ℕ) → l < 2 ^ 64 → m < 2 ^ 64 → FalseIff t (l + m < 2 ^ 64) → (h + from_bool t) % 2 ^ 64 ≡ (h + (l + m) / 2 ^ 64) % 2 ^ 64
carried true l h m a b over = let e : (l + m) / 2 ^ 64 ≡ 1 = omega (arith, over) in rw e
carried false l h m a b within = let e : (l + m) / 2 ^ 64 ≡ 0 = omega (arith, within) in rw e

pub returns : goal.returns
unfolding plus
returns c =
    let a = c.args in
    let r = c.overflowing_add-low in
    let l : a.c.low < 2 ^ 64 = search rules in
    let n : a.m < 2 ^ 64 = search rules in
    rw (c.from.ensures, r.ensures.value, carried r.result.1 a.c.low a.c.high a.m l n r.ensures.overflow)
