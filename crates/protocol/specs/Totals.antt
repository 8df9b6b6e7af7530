-- What the messages of a list count for, added up, and sums over units: the laws that every count of messages goes by.
-- Assumes nothing.
use Rattle.std.specs.Prelude.{ℕ, zero, suc, ◌+◌, ◌*◌, ◌≤◌, ◌<◌, ◌≡◌, refl, ◌⊎◌, List, [], ◌∷◌, ◌++◌}
use Rattle.std.proofs.Common.{ap, inl, inr, arith}
use Rattle.base.specs.Sums.{sum_to}
use Rattle.base.specs.Members.{In, here, there, Every}
use Rattle.protocol.specs.Machine.{Msg, to_each}
use Rattle.protocol.specs.Tests.{le_split}

-- ---- over messages, or whatever else a list has

-- each counts for f of it
abbrev pub total : {A : Type 0} → (A → ℕ) → List A → ℕ
total f [] = 0
total f (m ∷ ms) = f m + total f ms

pub total_append : {A : Type 0} (f : A → ℕ) (a b : List A) → total f (a ++ b) ≡ total f a + total f b
total_append f [] b = omega arith
total_append f (m ∷ a) b = omega (arith, total_append f a b)

module _ (f : Msg → ℕ) where
  -- one message taken out of the middle
  total_out : (b a : List Msg) (m : Msg) → total f (b ++ (m ∷ a)) ≡ f m + total f (b ++ a)
  total_out [] a m = refl
  total_out (x ∷ b) a m = omega (arith, total_out b a m)

  -- and others added behind
  pub total-taken : (b a : List Msg) (m : Msg) (ms : List Msg) {pool : List Msg} → pool ≡ b ++ (m ∷ a) → total f ((b ++ a) ++ ms) + f m ≡ total f pool + total f ms
  total-taken b a m ms e = omega (arith, total_append f (b ++ a) ms, ap (total f) e, total_out b a m)

  pub total_each : (g : ℕ → Msg) (c : ℕ) → ((j : ℕ) → f (g j) ≡ c) → (lo m : ℕ) → total f (to_each g lo m) ≡ c * m
  total_each g c h lo zero = omega arith
  total_each g c h lo (suc m) = omega (arith, h lo, total_each g c h (suc lo) m)

  pub total_in : {m : Msg} {l : List Msg} → In m l → f m ≤ total f l
  total_in (here e) = omega (arith, ap f e)
  total_in (there i) = omega (arith, total_in i)

  pub total_none : (l : List Msg) → Every (λ m. f m ≡ 0) l → total f l ≡ 0
  total_none [] h = refl
  total_none (m ∷ l) h = omega (arith, h m (here refl), total_none l (λ x i. h x (there i)))

pub total_le : (f g : Msg → ℕ) → ((m : Msg) → f m ≤ g m) → (l : List Msg) → total f l ≤ total g l
total_le f g h [] = omega arith
total_le f g h (m ∷ l) = omega (arith, h m, total_le f g h l)

-- ---- over units

pub sum_le : (f g : ℕ → ℕ) (n : ℕ) → ((i : ℕ) → i < n → f i ≤ g i) → sum_to f n ≤ sum_to g n
sum_le f g zero h = omega arith
sum_le f g (suc n) h = omega (arith, h n (omega arith), sum_le f g n (λ i lt. h i (omega arith)))

-- one term more by c
pub sum_more : (f g : ℕ → ℕ) (k c n : ℕ) → k < n → ((i : ℕ) → f i ≤ g i) → f k + c ≤ g k → sum_to f n + c ≤ sum_to g n
sum_more f g k c zero lt h l = absurd (omega arith)
sum_more f g k c (suc n) lt h l = go (le_split (suc k) n lt) (λ z. sum_more f g k c n z h l)
  where
    go : (suc k ≤ n) ⊎ (suc k ≡ suc n) → (k < n → sum_to f n + c ≤ sum_to g n) → sum_to f (suc n) + c ≤ sum_to g (suc n)
    go (inl z) ih = omega (arith, ih z, h n)
    go (inr e) ih =
        let q : n ≡ k = omega arith in
        omega (arith, sum_le f g n (λ i z. h i), ap f q, ap g q, l)

-- no term above c
pub sum_most : (f : ℕ → ℕ) (c n : ℕ) → ((i : ℕ) → i < n → f i ≤ c) → sum_to f n ≤ c * n
sum_most f c zero h = omega arith
sum_most f c (suc n) h = omega (arith, h n (omega arith), sum_most f c n (λ i lt. h i (omega arith)))
