-- Laws of finite sums: bounds, one sum split in two, equal terms. Each by induction on the count. Those of costs are in costs/specs/Cost/Laws.
-- Assumes nothing.
use Rattle.std.specs.Prelude.{ℕ, zero, suc, ◌+◌, ◌*◌, ◌-◌, ◌≤◌, ◌<◌, ◌≡◌, refl, Bool, true, false, eqb}
use Rattle.std.proofs.Common.{sym, ap, arith, zero-add, add-zero, suc-mul, mul-add, eqb-true}
use Rattle.std.proofs.lemmas.Bool.{eqb-false}
use Rattle.base.specs.Sums.{sum_from, sum_to}

-- equal terms
pub sum_to_cong : (f g : ℕ → ℕ) (m : ℕ) → ((j : ℕ) → j < m → f j ≡ g j) → sum_to f m ≡ sum_to g m
sum_to_cong f g zero e = refl
sum_to_cong f g (suc m) e = omega (arith, e m (omega arith), sum_to_cong f g m (λ j a. e j (omega arith)))

-- terms of at most M sum to at most M for each
pub sum_to_le : (f : ℕ → ℕ) (M m : ℕ) → ((j : ℕ) → f j ≤ M) → sum_to f m ≤ M * m
sum_to_le f M zero e = omega arith
sum_to_le f M (suc m) e = omega (arith, e m, sum_to_le f M m e)

-- a sum in two parts
pub sum_from_split : (f : ℕ → ℕ) (lo k m : ℕ) → sum_from f lo (k + m) ≡ sum_from f lo k + sum_from f (lo + k) m
sum_from_split f lo zero m = rw (zero-add m, add-zero lo) (sym (zero-add (sum_from f lo m)))
sum_from_split f lo (suc k) m =
    let e : suc k + m ≡ suc (k + m) = omega arith in
    let q : lo + suc k ≡ suc lo + k = omega arith in
    rw (e, q) (omega (arith, sum_from_split f (suc lo) k m))

-- one term more, at the end
pub sum_from-last : (f : ℕ → ℕ) (lo m : ℕ) → sum_from f lo (suc m) ≡ sum_from f lo m + f (lo + m)
sum_from-last f lo zero = rw (add-zero lo) (omega arith)
sum_from-last f lo (suc m) = let q : lo + suc m ≡ suc lo + m = omega arith in rw q (omega (arith, sum_from-last f (suc lo) m))

-- a sum is no less than any of its terms
pub sum_from-part : (f : ℕ → ℕ) (lo m k : ℕ) → lo ≤ k → k < lo + m → f k ≤ sum_from f lo m
sum_from-part f lo zero k l h = absurd (omega arith)
sum_from-part f lo (suc m) k l h = go (eqb lo k) refl (λ q. sum_from-part f (suc lo) m k q (omega arith))
  where
    go : (t : Bool) → eqb lo k ≡ t → (suc lo ≤ k → f k ≤ sum_from f (suc lo) m) → f k ≤ sum_from f lo (suc m)
    go true e ih = rw (← eqb-true lo k e) (omega arith)
    go false e ih = let ne : lo ≡ k → ⊥ = eqb-false lo k e in omega (arith, ih (omega arith))

-- the two ways to sum
pub sum_to_sum_from : (f : ℕ → ℕ) (m : ℕ) → sum_to f m ≡ sum_from f 0 m
sum_to_sum_from f zero = refl
sum_to_sum_from f (suc m) =
    let q : f (0 + m) ≡ f m = ap f (zero-add m) in
    omega (arith, sum_to_sum_from f m, sum_from-last f 0 m)

-- equal terms, terms that are multiples, and terms from a place on
pub sum_to_same : (c m : ℕ) → sum_to (λ k. c) m ≡ m * c
sum_to_same c zero = omega arith
sum_to_same c (suc m) = omega (arith, sum_to_same c m, suc-mul m c)

pub sum_to_scaled : (c : ℕ) (f : ℕ → ℕ) (m : ℕ) → sum_to (λ k. c * f k) m ≡ c * sum_to f m
sum_to_scaled c f zero = omega arith
sum_to_scaled c f (suc m) = omega (arith, sum_to_scaled c f m, mul-add c (sum_to f m) (f m))

pub sum_to_shifted : (f : ℕ → ℕ) (lo m : ℕ) → sum_to (λ k. f (lo + k)) m ≡ sum_from f lo m
sum_to_shifted f lo zero = refl
sum_to_shifted f lo (suc m) = omega (arith, sum_to_shifted f lo m, sum_from-last f lo m)

sum_to_mono_by : (f : ℕ → ℕ) (k d : ℕ) → sum_to f k ≤ sum_to f (k + d)
sum_to_mono_by f k zero = rw (add-zero k) (omega arith)
sum_to_mono_by f k (suc d) = let e : k + suc d ≡ suc (k + d) = omega arith in rw e (omega (arith, sum_to_mono_by f k d))

-- more terms sum to no less
pub sum_to_mono : (f : ℕ → ℕ) (k m : ℕ) → k ≤ m → sum_to f k ≤ sum_to f m
sum_to_mono f k m h = let e : k + (m - k) ≡ m = omega arith in rw e at (sum_to_mono_by f k (m - k))
