-- Comparing two stamps place by place: the first difference decides, and without one the places are equal.
-- By recursion over the places that come after. Assumes nothing.
use Rattle.std.specs.Prelude.{ℕ, zero, suc, ◌+◌, ◌-◌, ◌≤◌, ◌<◌, ◌≡◌, refl, Bool, true, false, ◌&&◌, List, ltb, eqb, get_or}
use Rattle.std.proofs.Common.{arith, add-one, ltb-true, ltb-false, lt-ltb, le-ltb, eq-eqb, ne_eqb}
use Rattle.std.specs.declared.cmp.Ordering.{Ordering}
use Rattle.std.specs.declared.cmp.Ordering.TheVariants.{Less, Equal, Greater}
use Rattle.std.specs.Ordering.{nat_cmp, ordering_then, is_eq}
use Rattle.rules.specs.State.{compare_on, same_on}

module _ (a b : List ℕ) where
  -- an order that no later place changes, found at k, is there at every later place
  stays : (o : Ordering) → ((x : Ordering) → ordering_then o x ≡ o) → (k m : ℕ) → compare_on k a b ≡ o → compare_on (m + k) a b ≡ o
  unfolding compare_on
  stays o d k zero e = let z : 0 + k ≡ k = omega arith in rw z e
  stays o d k (suc m) e = let s : suc m + k ≡ suc (m + k) = omega arith in rw (s, stays o d k m e) (d _)

  pub found : (o : Ordering) → ((x : Ordering) → ordering_then o x ≡ o) → (i k : ℕ) → i < k → compare_on i a b ≡ Equal → nat_cmp (get_or a i 0) (get_or b i 0) ≡ o → compare_on k a b ≡ o
  unfolding compare_on
  found o d i k h e f =
      let s : k ≡ (k - suc i) + suc i = omega arith in
      rw s (stays o d (suc i) (k - suc i) (rw (e, f)))

  pub less_found : (i k : ℕ) → i < k → compare_on i a b ≡ Equal → get_or a i 0 < get_or b i 0 → compare_on k a b ≡ Less
  less_found i k h e l = found Less (λ x. refl) i k h e (simp (lt-ltb _ _ l))

  pub more_found : (i k : ℕ) → i < k → compare_on i a b ≡ Equal → get_or b i 0 < get_or a i 0 → compare_on k a b ≡ Greater
  more_found i k h e l = found Greater (λ x. refl) i k h e (simp (le-ltb (get_or a i 0) (get_or b i 0) (omega (arith, l)), ne_eqb (get_or a i 0) (get_or b i 0) (λ q. omega (arith, l, q))))

  pub equal_more : (i : ℕ) → compare_on i a b ≡ Equal → get_or b i 0 ≤ get_or a i 0 → get_or a i 0 ≤ get_or b i 0 → compare_on (i + 1) a b ≡ Equal
  unfolding compare_on
  equal_more i e g l = rw (add-one, e) (simp (le-ltb _ _ g, eq-eqb (get_or a i 0) (get_or b i 0) (omega (arith, g, l))))

  pub equal_none : compare_on 0 a b ≡ Equal
  unfolding compare_on
  equal_none = refl

-- ---- equal places

equal_numbers : (x y : ℕ) → eqb x y ≡ is_eq (nat_cmp x y)
equal_numbers x y = go (ltb x y) refl (ltb y x) refl
  where
    go : (s : Bool) → ltb x y ≡ s → (t : Bool) → ltb y x ≡ t → eqb x y ≡ is_eq (nat_cmp x y)
    go true p t q = let e = ne_eqb x y (λ e. omega (arith, ltb-true x y p, e)) in rw (e, p)
    go false p true q = let e = ne_eqb x y (λ e. omega (arith, ltb-true y x q, e)) in rw (e, p)
    go false p false q = let e = eq-eqb x y (omega (arith, ltb-false x y p, ltb-false y x q)) in rw (e, p)

-- places are equal where none decides
pub same_compared : (a b : List ℕ) (k : ℕ) → same_on k a b ≡ is_eq (compare_on k a b)
unfolding compare_on same_on
same_compared a b zero = refl
same_compared a b (suc k) = rw (same_compared a b k) (go (compare_on k a b))
  where
    go : (o : Ordering) → (is_eq o && eqb (get_or a k 0) (get_or b k 0)) ≡ is_eq (ordering_then o (nat_cmp (get_or a k 0) (get_or b k 0)))
    go Less = refl
    go Equal = equal_numbers (get_or a k 0) (get_or b k 0)
    go Greater = refl
