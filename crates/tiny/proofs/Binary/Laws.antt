-- Digits and the number that they read as are inverses. Assumes nothing.
use Rattle.std.specs.Prelude.{ℕ, zero, suc, ◌+◌, ◌*◌, ◌/◌, ◌^◌, ◌≤◌, ◌<◌, Bool, true, false, ◌≡◌, refl, ltb}
use Rattle.std.proofs.Common.{◌∙◌, arith, ltb-true, ltb-false}
use Rattle.tiny.specs.Binary.{digit, binary}
use Rattle.tiny.specs.Binary.Laws.{binary_same, digit_before, last-digit, power_next}

-- the digits of a number read as the number
pub binary_of_digits : (m x : ℕ) → x < 2 ^ m → binary (digit m x) m ≡ x
binary_of_digits zero x h = omega arith
binary_of_digits (suc m) x h =
    let half : x / 2 < 2 ^ m = omega (arith, power_next m) in
    rw (binary_same (digit (suc m) x) (digit m (x / 2)) m (digit_before m x), binary_of_digits m (x / 2) half, last-digit m x) (omega arith)

-- and what digits read as has these digits
pub digit_of_binary : (m : ℕ) (f : ℕ → ℕ) → ((k : ℕ) → k < m → f k ≤ 1) → (k : ℕ) → k < m → digit m (binary f m) k ≡ f k
digit_of_binary zero f small k h = absurd (omega arith)
digit_of_binary (suc m) f small k h = go (ltb k m) refl (digit_of_binary m f (λ j l. small j (omega arith)) k)
  where
    y : ℕ
    y = 2 * binary f m + f m

    go : (t : Bool) → ltb k m ≡ t → (k < m → digit m (binary f m) k ≡ f k) → digit (suc m) y k ≡ f k
    go true e before =
        let b = ltb-true k m e in
        let half : y / 2 ≡ binary f m = omega (arith, small m (omega arith)) in
        digit_before m y k b ∙ rw half (before b)
    go false e before =
        let q : k ≡ m = omega (arith, ltb-false k m e) in
        rw q (last-digit m y ∙ omega (arith, small m (omega arith)))
