-- Digits and the number that they read as are inverses. By induction on how many there are: the last digit is the remainder by 2, those before
-- it are the digits of the half. Assumes nothing.
use Rattle.std.specs.Prelude.{ℕ, zero, suc, ◌*◌, ◌-◌, ◌/◌, ◌%◌, ◌^◌, ◌≤◌, ◌<◌, ◌≡◌, refl}
use Rattle.std.proofs.Common.{ap, ◌∙◌, div-one, mul_comm, pow-suc, arith}
use Rattle.std.proofs.Math.Nat.{div-div-eq-div-mul}
use Rattle.tiny.specs.Binary.{digit, binary}

-- a power of 2 is twice the one before it
pub power_next : (m : ℕ) → 2 ^ suc m ≡ 2 * 2 ^ m
power_next m = pow-suc 2 m ∙ mul_comm (2 ^ m) 2

-- the power of the digits that are left halves as one is taken
pub power_half : (m k : ℕ) → k < m → 2 ^ (m - k) / 2 ≡ 2 ^ (m - suc k)
power_half m k h =
    let e : m - k ≡ suc (m - suc k) = omega arith in
    rw (e, power_next (m - suc k)) (omega arith)

-- and is never 0
power_positive : (m : ℕ) → 0 < 2 ^ m
power_positive zero = omega arith
power_positive (suc m) = rw (power_next m) (omega (arith, power_positive m))

pub half_positive : (m k : ℕ) → k < m → 0 < 2 ^ (m - k) / 2
half_positive m k h = rw (power_half m k h) (power_positive (m - suc k))

pub digit-most : (m x k : ℕ) → digit m x k ≤ 1
digit-most m x k = omega arith

pub last-digit : (m x : ℕ) → digit (suc m) x m ≡ x % 2
last-digit m x =
    let e : suc m - suc m ≡ 0 = omega arith in
    ap (λ (i : ℕ). x / 2 ^ i % 2) e ∙ ap (λ (y : ℕ). y % 2) (div-one x)

pub digit_before : (m x k : ℕ) → k < m → digit (suc m) x k ≡ digit m (x / 2) k
digit_before m x k h =
    let e : suc m - suc k ≡ suc (m - suc k) = omega arith in
    rw (e, power_next (m - suc k), div-div-eq-div-mul x 2 (2 ^ (m - suc k)))

-- the same digits read as the same number
pub binary_same : (f g : ℕ → ℕ) (m : ℕ) → ((k : ℕ) → k < m → f k ≡ g k) → binary f m ≡ binary g m
binary_same f g zero e = refl
binary_same f g (suc m) e = rw (binary_same f g m (λ k h. e k (omega arith)), e m (omega arith))

pub binary_below : (f : ℕ → ℕ) (m : ℕ) → ((k : ℕ) → k < m → f k ≤ 1) → binary f m < 2 ^ m
binary_below f zero small = omega arith
binary_below f (suc m) small = rw (power_next m) (omega (arith, binary_below f m (λ k h. small k (omega arith)), small m (omega arith)))
