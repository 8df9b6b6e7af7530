-- Laws of the first of two refusals.
-- Assumes nothing.
use Rattle.std.specs.Prelude.{ℕ, zero, suc, ◌≡◌, refl}
use Rattle.std.proofs.Common.{arith}
use Rattle.base.specs.declared.Refusal.{Refusal}
use Rattle.base.specs.Refusal.{number_of, or_else}

pub or_left : (a b : ℕ) → or_else a b ≡ 0 → a ≡ 0
or_left zero b e = refl
or_left (suc a) b e = e

pub or_right : (a b : ℕ) → or_else a b ≡ 0 → b ≡ 0
or_right zero b e = e
or_right (suc a) b e = absurd (omega arith)

pub or_first : (a b : ℕ) → (a ≡ 0 → ⊥) → or_else a b ≡ a
or_first zero b h = absurd (h refl)
or_first (suc a) b h = refl

-- no refusal has number 0
pub number_some : (r : Refusal) → number_of r ≡ 0 → ⊥
number_some r e = grind arith
