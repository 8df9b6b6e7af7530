-- The least of costs: it is the greatest that is below all of them, and within their limit. Assumes nothing.
use Rattle.std.specs.Prelude.{◌≡◌, ℕ, zero, suc, ◌≤◌, Bool, true, false, nat_le, refl, Some, None}
use Rattle.std.proofs.Common.{subst, arith, leb-true, leb-false}
use Rattle.costs.specs.Cost.{Cost, ◌⊕◌, least}
use Rattle.costs.specs.Cost.Laws.{◌⊑◌, AtMost, add_mono, le_trans, lesser-left, lesser_greatest, lesser_right, most-lesser}

pub least_le : (f : ℕ → Cost) (d v : ℕ) → 1 ≤ v → v ≤ d → least f d ⊑ f v
least_le f zero v lo hi = absurd (omega arith)
least_le f (suc d) v lo hi = go (nat_le v d) refl (λ l. least_le f d v lo l)
  where
    go : (t : Bool) → nat_le v d ≡ t → (v ≤ d → least f d ⊑ f v) → least f (suc d) ⊑ f v
    go true e ih = le_trans (least f (suc d)) (least f d) (f v) (lesser-left (least f d) (f (suc d))) (ih (leb-true v d e))
    go false e ih = let q : v ≡ suc d = omega (arith, leb-false v d e) in rw q (lesser_right (least f d) (f (suc d)))

-- what bounds every value from below bounds the least
pub least_ge : (c : Cost) (f : ℕ → Cost) (d : ℕ) → ((v : ℕ) → 1 ≤ v → v ≤ d → c ⊑ f v) → c ⊑ least f d
least_ge (Some n) f zero h = tt
least_ge None f zero h = tt
least_ge c f (suc d) h = lesser_greatest c (least f d) (f (suc d)) (least_ge c f d (λ v lo hi. h v lo (omega arith))) (h (suc d) (omega arith) (omega arith))

-- least values of two parts are at most the least of their sum
pub least_add : (f g k : ℕ → Cost) → ((v : ℕ) → f v ⊕ g v ≡ k v) → (d : ℕ) → least f d ⊕ least g d ⊑ least k d
least_add f g k e d =
    least_ge (least f d ⊕ least g d) k d
    (λ v lo hi. subst (λ x. least f d ⊕ least g d ⊑ x) (e v) (add_mono (least f d) (least g d) (f v) (g v) (least_le f d v lo hi) (least_le g d v lo hi)))

pub most-least : (M : ℕ) (f : ℕ → Cost) (d : ℕ) → ((v : ℕ) → AtMost M (f v)) → AtMost M (least f d)
most-least M f zero h = tt
most-least M f (suc d) h = most-lesser M (least f d) (f (suc d)) (most-least M f d h) (h (suc d))
