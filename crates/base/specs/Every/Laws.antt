-- A test of every number below one: one number more, at a number, from each, and where one fails. By induction on the count. Assumes nothing.
use Rattle.std.specs.Prelude.{ℕ, zero, suc, ◌+◌, ◌<◌, ◌≡◌, refl, Bool, true, false}
use Rattle.std.proofs.Common.{⊎_elim, sym, ap, ◌∙◌, arith, not-suc-le-zero, eq-or-lt_of_le, le_of_suc-le-suc, add-one}
use Rattle.std.proofs.lemmas.Bool.{false≢true}
use Rattle.base.specs.Shape.Laws.{and_left, and_right}
use Rattle.base.specs.Every.{every}

pub every_more : (p : ℕ → Bool) (i : ℕ) → every p i ≡ true → p i ≡ true → every p (i + 1) ≡ true
every_more p i e h = rw (add-one, e, h)

pub every_at : (p : ℕ → Bool) (m : ℕ) → every p m ≡ true → (i : ℕ) → i < m → p i ≡ true
every_at p zero e i h = absurd (not-suc-le-zero h)
every_at p (suc m) e i h = ⊎_elim (λ q. ap p q ∙ and_right (every p m) _ e) (λ l. every_at p m (and_left _ _ e) i l) (eq-or-lt_of_le (le_of_suc-le-suc h))

pub every_by : (p : ℕ → Bool) (m : ℕ) → ((i : ℕ) → i < m → p i ≡ true) → every p m ≡ true
every_by p zero f = refl
every_by p (suc m) f = rw (every_by p m (λ i h. f i (omega arith)), f m (omega arith))

pub every_not : (p : ℕ → Bool) (m i : ℕ) → i < m → p i ≡ false → every p m ≡ false
every_not p m i h e = go (every p m) refl
  where
    go : (b : Bool) → every p m ≡ b → every p m ≡ false
    go true q = absurd (false≢true (sym e ∙ every_at p m q i h))
    go false q = q
