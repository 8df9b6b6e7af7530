-- Laws of the sum: below the modulus, of two lists joined, and of one byte more.
-- Assumes nothing.
use Rattle.std.specs.Prelude.{ℕ, suc, ◌+◌, ◌*◌, ◌/◌, ◌%◌, ◌<◌, ◌≡◌, refl, List, [], ◌∷◌, ◌++◌, get_or, length, take}
use Rattle.std.proofs.Common.{ap, ◌∙◌, add_assoc, add-zero, zero-add, add-mul, mul_assoc, add-one, arith, length-take-le, take-suc}
use Rattle.checksum.specs.Sum.{modulus, weigh, sum_of}

pub sum_small : (s : List ℕ) → sum_of s < modulus
unfolding sum_of
sum_small s = omega arith

pub weigh_append : (k : ℕ) (a b : List ℕ) → weigh k (a ++ b) ≡ weigh k a + weigh (k + length a) b
weigh_append k [] b = rw (add-zero, zero-add)
weigh_append k (x ∷ l) b = let e : k + 1 + length l ≡ k + suc (length l) = omega arith in rw (weigh_append (k + 1) l b, e, add_assoc)

-- a weight counts by its remainder
weight_mod : (i x : ℕ) → (i + 1) * x ≡ modulus * (i / modulus * x) + (i % modulus + 1) * x
weight_mod i x =
    let e : i + 1 ≡ modulus * (i / modulus) + (i % modulus + 1) = omega arith in
    ap (λ (z : ℕ). z * x) e ∙ rw (add-mul (modulus * (i / modulus)) (i % modulus + 1) x, mul_assoc modulus (i / modulus) x)

pub sum_none : (s : List ℕ) → sum_of (take 0 s) ≡ 0
unfolding sum_of
sum_none s = refl

-- one byte more
pub weigh_more : (s : List ℕ) (i : ℕ) → i < length s → weigh 0 (take (i + 1) s) ≡ weigh 0 (take i s) + (i + 1) * get_or s i 0
weigh_more s i h =
    let f : length (take i s) ≡ i = length-take-le i s (omega arith) in
    rw (add-one, take-suc s i 0 h, weigh_append 0 (take i s) (get_or s i 0 ∷ []), f, zero-add, add-one, add-zero)

pub sum_more : (s : List ℕ) (i t : ℕ) → i < length s → t ≡ sum_of (take i s)
    → (t + (i % modulus + 1) * get_or s i 0) % modulus ≡ sum_of (take (i + 1) s)
unfolding sum_of
sum_more s i t h e = omega (arith, weigh_more s i h, weight_mod i (get_or s i 0))
