-- Gaps as the machine's signed numbers: small ones fit, and what a gap costs from its size, by its sign. Assumes nothing.
use Prim.Native.Nat.{ℕ, zero, suc, ◌/◌, ◌<◌}
use mathlib.Core.Bool.{true, false, true≢false}
use mathlib.Core.Path.{◌≡◌, refl, ap, ◌∙◌, subst}
use native.Mathlib.Nat.{zero-add, lt_trans}
use native.Mathlib.Omega.{arith}
use borrow.Author.Tests.{lt-ltb, ltb-true}
use lib.Dec.{lit<, le→leb}
use lib.IntN.{ℤ, pos, negsuc, neg_ℤ, nat_abs, ◌-ℤ◌}
use lib.Signed.{◌≤ℤ◌, lt_z}
use mir.Syntax.{w32}
use mir.Val.{SFits, to_z, of_z}
use mir.ValLaws.{to_z-of_z}
use Rattle.readings.specs.Readings.{penalty, gap_cost}

pub small_fits : (z : ℤ) → nat_abs z < 65536 → SFits w32 z
small_fits (pos n) h = record { sfits = lt_trans h (lit< tt) }
small_fits (negsuc n) h = let l : n < 65536 = omega arith in record { sfits = lt_trans l (lit< tt) }

pub from_zero : (z : ℤ) → pos 0 -ℤ z ≡ neg_ℤ z
from_zero (pos zero) = refl
from_zero (pos (suc n)) = rw (lt-ltb 0 (suc n) (omega arith)) (ap negsuc (omega arith))
from_zero (negsuc n) = ap pos (zero-add (suc n))

pub negated_small : (z : ℤ) → nat_abs z < 65536 → nat_abs (neg_ℤ z) < 65536
negated_small (pos zero) h = h
negated_small (pos (suc n)) h = h
negated_small (negsuc n) h = h

-- below zero, half of what its positive twin costs
pub cost_below : (z : ℤ) (k p : ℕ) → lt_z z (pos 0) ≡ true → pos k ≡ neg_ℤ z → p ≡ penalty k → p / 2 ≡ gap_cost z
unfolding gap_cost
cost_below (pos n) k p h e q = absurd (omega (arith, ltb-true n 0 h))
cost_below (negsuc n) k p h e q = let f : k ≡ suc n = ap nat_abs e in rw (q, f)

pub twin_above : (z : ℤ) → lt_z z (pos 0) ≡ true → pos 0 ≤ℤ neg_ℤ z
twin_above (pos n) h = absurd (omega (arith, ltb-true n 0 h))
twin_above (negsuc n) h = record { le = le→leb 0 (suc n) (omega arith) }

pub not_below : (z : ℤ) → lt_z z (pos 0) ≡ false → pos 0 ≤ℤ z
not_below (pos n) h = record { le = le→leb 0 n (omega arith) }
not_below (negsuc n) h = absurd (true≢false h)

-- from zero on, what its size costs
pub cost_above : (z : ℤ) (k p : ℕ) → pos k ≡ z → p ≡ penalty k → p ≡ gap_cost z
unfolding gap_cost
cost_above z k p e q = subst (λ (y : ℤ). p ≡ gap_cost y) e q

-- what the machine reads back from the bits of a small number
pub reads_back : (x z : ℤ) → x ≡ z → nat_abs z < 65536 → to_z w32 (of_z w32 x) ≡ z
reads_back x z e h = ap (λ (y : ℤ). to_z w32 (of_z w32 y)) e ∙ to_z-of_z w32 z (small_fits z h)
