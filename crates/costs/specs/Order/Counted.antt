-- Counting and finding among 1 to d (`how_many`, `last_of` of Order.antt), and the pigeonhole principle: what maps 1 to d into 1 to d, no two to one,
-- hits each of them (`every_hit`). By induction on d; for the principle, what the last one maps to is put in place of the last. Assumes nothing.
use Rattle.std.specs.Prelude.{◌≡◌, ℕ, zero, suc, ◌<◌, ◌≤◌, Bool, true, false, cond, ◌≢◌, ◌⊎◌, ◌==◌, refl}
use Rattle.std.proofs.Common.{sym, ◌∙◌, subst, inl, inr, arith, eqb-true}
use Rattle.std.proofs.lemmas.Bool.{false≢true, eqb-false}
use Rattle.costs.specs.Order.{how_many, last_of}

-- ---- counting and finding

bit_mono : (a b : Bool) → (a ≡ true → b ≡ true) → ◌≤◌ (cond a 1 0) (cond b 1 0)
bit_mono true true all = omega arith
bit_mono true false all = absurd (false≢true (all refl))
bit_mono false b all = omega arith

many_mono : (f g : ℕ → Bool) (d : ℕ) → ((u : ℕ) → f u ≡ true → g u ≡ true) → how_many f d ≤ how_many g d
many_mono f g zero all = omega arith
many_mono f g (suc d) all = omega (arith, many_mono f g d all, bit_mono (f (suc d)) (g (suc d)) (all (suc d)))

-- one that passes only the second test
pub many_less : (f g : ℕ → Bool) (d x : ℕ) → 1 ≤ x → x ≤ d → ((u : ℕ) → f u ≡ true → g u ≡ true) → f x ≡ false → g x ≡ true → how_many f d < how_many g d
many_less f g zero x lo hi all lacks has = absurd (omega arith)
many_less f g (suc d) x lo hi all lacks has = go (x == suc d) refl (λ le. many_less f g d x lo le all lacks has)
  where
    go : (t : Bool) → (x == suc d) ≡ t → (x ≤ d → how_many f d < how_many g d) → how_many f (suc d) < how_many g (suc d)
    go true e ih =
        let q : x ≡ suc d = eqb-true x (suc d) e in
        let a : f (suc d) ≡ false = subst (λ z. f z ≡ false) q lacks in
        let b : g (suc d) ≡ true = subst (λ z. g z ≡ true) q has in
        rw (a, b) (omega (arith, many_mono f g d all))
    go false e ih = let q : x ≢ suc d = eqb-false x (suc d) e in omega (arith, ih (omega arith), bit_mono (f (suc d)) (g (suc d)) (all (suc d)))

pub many_all : (d : ℕ) → how_many (λ u. true) d ≡ d
many_all zero = refl
many_all (suc d) = omega (arith, many_all d)

pub last_le : (f : ℕ → Bool) (d : ℕ) → last_of f d ≤ d
last_le f zero = omega arith
last_le f (suc d) = go (f (suc d)) (last_le f d)
  where
    go : (t : Bool) → last_of f d ≤ d → cond t (suc d) (last_of f d) ≤ suc d
    go true ih = omega arith
    go false ih = omega arith

-- where one passes, one is found, and it passes
pub last_found : (f : ℕ → Bool) (d x : ℕ) → 1 ≤ x → x ≤ d → f x ≡ true → (1 ≤ last_of f d) × (f (last_of f d) ≡ true)
last_found f zero x lo hi e = absurd (omega arith)
last_found f (suc d) x lo hi e = go (f (suc d)) refl (λ le. last_found f d x lo le e)
  where
    go : (t : Bool) → f (suc d) ≡ t → (x ≤ d → (1 ≤ last_of f d) × (f (last_of f d) ≡ true)) → (1 ≤ cond t (suc d) (last_of f d)) × (f (cond t (suc d) (last_of f d)) ≡ true)
    go true q ih = (omega arith, q)
    go false q ih = ih (other (x == suc d) refl)
      where
        other : (t : Bool) → (x == suc d) ≡ t → x ≤ d
        other true y = absurd (false≢true (sym q ∙ subst (λ z. f z ≡ true) (eqb-true x (suc d) y) e))
        other false y = let z : x ≢ suc d = eqb-false x (suc d) y in omega arith

pub last_none : (f : ℕ → Bool) (d : ℕ) → ((x : ℕ) → 1 ≤ x → x ≤ d → f x ≡ false) → last_of f d ≡ 0
last_none f zero all = refl
last_none f (suc d) all = rw (all (suc d) (omega arith) (omega arith)) (last_none f d (λ x lo hi. all x lo (omega arith)))

-- ---- the pigeonhole principle

-- f maps 1, .., d to 1, .., d, and no two to one
pub record OneToOne (d : ℕ) (f : ℕ → ℕ) : Type 0 where
  pub least : (v : ℕ) → 1 ≤ v → v ≤ d → 1 ≤ f v
  pub most : (v : ℕ) → 1 ≤ v → v ≤ d → f v ≤ d
  pub same : (u v : ℕ) → 1 ≤ u → u ≤ d → 1 ≤ v → v ≤ d → f u ≡ f v → u ≡ v

abbrev Hit : ℕ → (ℕ → ℕ) → ℕ → Type 0
Hit d f p = (v : ℕ) × (1 ≤ v) × (v ≤ d) × (f v ≡ p)

-- f, with what suc d maps to in place of suc d
abbrev without : ℕ → (ℕ → ℕ) → ℕ → ℕ
without d f v = cond (f v == suc d) (f (suc d)) (f v)

without_same : (d : ℕ) (f : ℕ → ℕ) (v : ℕ) → ((f v ≡ suc d) × (without d f v ≡ f (suc d))) ⊎ ((f v ≢ suc d) × (without d f v ≡ f v))
without_same d f v = go (f v == suc d) refl
  where
    go : (t : Bool) → (f v == suc d) ≡ t → ((f v ≡ suc d) × (cond t (f (suc d)) (f v) ≡ f (suc d))) ⊎ ((f v ≢ suc d) × (cond t (f (suc d)) (f v) ≡ f v))
    go true e = inl (eqb-true (f v) (suc d) e, refl)
    go false e = inr (eqb-false (f v) (suc d) e, refl)

without_one : (d : ℕ) (f : ℕ → ℕ) → OneToOne (suc d) f → OneToOne d (without d f)
without_one d f o =
    record {
      least = λ v lo hi. low v lo hi (without_same d f v);
      most = λ v lo hi. high v lo hi (without_same d f v);
      same = λ u v a b c e q. one u v a b c e q (without_same d f u) (without_same d f v);
    }
  where
    low : (v : ℕ) → 1 ≤ v → v ≤ d → ((f v ≡ suc d) × (without d f v ≡ f (suc d))) ⊎ ((f v ≢ suc d) × (without d f v ≡ f v)) → 1 ≤ without d f v
    low v lo hi (inl q) = omega (arith, q.1, o.least (suc d) (omega arith) (omega arith))
    low v lo hi (inr q) = omega (arith, q.1, o.least v lo (omega arith))

    high : (v : ℕ) → 1 ≤ v → v ≤ d → ((f v ≡ suc d) × (without d f v ≡ f (suc d))) ⊎ ((f v ≢ suc d) × (without d f v ≡ f v)) → without d f v ≤ d
    high v lo hi (inl q) =
        let y : f (suc d) ≢ suc d = λ z. absurd (omega (arith, hi, o.same v (suc d) lo (omega arith) (omega arith) (omega arith) (q.0 ∙ sym z))) in
        omega (arith, q.1, o.most (suc d) (omega arith) (omega arith))
    high v lo hi (inr q) = let y : f v ≢ suc d = q.0 in omega (arith, q.1, o.most v lo (omega arith))

    one : (u v : ℕ) → 1 ≤ u → u ≤ d → 1 ≤ v → v ≤ d → without d f u ≡ without d f v
        → ((f u ≡ suc d) × (without d f u ≡ f (suc d))) ⊎ ((f u ≢ suc d) × (without d f u ≡ f u)) → ((f v ≡ suc d) × (without d f v ≡ f (suc d))) ⊎ ((f v ≢ suc d) × (without d f v ≡ f v)) → u ≡ v
    one u v a b c e q (inl x) (inl y) = o.same u v a (omega arith) c (omega arith) (x.0 ∙ sym y.0)
    one u v a b c e q (inl x) (inr y) = absurd (omega (arith, e, o.same v (suc d) c (omega arith) (omega arith) (omega arith) (sym y.1 ∙ sym q ∙ x.1)))
    one u v a b c e q (inr x) (inl y) = absurd (omega (arith, b, o.same u (suc d) a (omega arith) (omega arith) (omega arith) (sym x.1 ∙ q ∙ y.1)))
    one u v a b c e q (inr x) (inr y) = o.same u v a (omega arith) c (omega arith) (sym x.1 ∙ q ∙ y.1)

pub every_hit : (d : ℕ) (f : ℕ → ℕ) → OneToOne d f → (p : ℕ) → 1 ≤ p → p ≤ d → Hit d f p
every_hit zero f o p lo hi = absurd (omega arith)
every_hit (suc d) f o p lo hi = go (f (suc d) == p) refl (λ q a b. every_hit d (without d f) (without_one d f o) q a b)
  where
    -- a place below the last, which suc d does not map to
    below_last : (p : ℕ) → f (suc d) ≢ p → Hit d (without d f) p → Hit (suc d) f p
    below_last p ne x = pick (without_same d f x.0)
      where
        pick : ((f x.0 ≡ suc d) × (without d f x.0 ≡ f (suc d))) ⊎ ((f x.0 ≢ suc d) × (without d f x.0 ≡ f x.0)) → Hit (suc d) f p
        pick (inl y) = absurd (ne (sym y.1 ∙ x.3))
        pick (inr y) = (x.0, x.1, omega (arith, x.2), sym y.1 ∙ x.3)

    -- the last place, which suc d does not map to
    at_last : f (suc d) ≢ suc d → Hit d (without d f) (f (suc d)) → Hit (suc d) f (suc d)
    at_last ne x = pick (without_same d f x.0)
      where
        pick : ((f x.0 ≡ suc d) × (without d f x.0 ≡ f (suc d))) ⊎ ((f x.0 ≢ suc d) × (without d f x.0 ≡ f x.0)) → Hit (suc d) f (suc d)
        pick (inl y) = (x.0, x.1, omega (arith, x.2), y.0)
        pick (inr y) = absurd (omega (arith, x.2, o.same x.0 (suc d) x.1 (omega (arith, x.2)) (omega arith) (omega arith) (sym y.1 ∙ x.3)))

    go : (t : Bool) → (f (suc d) == p) ≡ t → ((q : ℕ) → 1 ≤ q → q ≤ d → Hit d (without d f) q) → Hit (suc d) f p
    go true e under = (suc d, omega arith, omega arith, eqb-true (f (suc d)) p e)
    go false e under = last (p == suc d) refl
      where
        ne : f (suc d) ≢ p
        ne = eqb-false (f (suc d)) p e

        last : (t : Bool) → (p == suc d) ≡ t → Hit (suc d) f p
        last true q =
            let y : p ≡ suc d = eqb-true p (suc d) q in
            let z : f (suc d) ≢ suc d = subst (λ x. f (suc d) ≢ x) y ne in
            subst (λ x. Hit (suc d) f x) (sym y) (at_last z (under (f (suc d)) (o.least (suc d) (omega arith) (omega arith)) (omega (arith, o.most (suc d) (omega arith) (omega arith)))))
        last false q = let y : p ≢ suc d = eqb-false p (suc d) q in below_last p ne (under p lo (omega arith))
