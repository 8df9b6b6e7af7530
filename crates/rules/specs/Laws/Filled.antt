-- Stamps and values filled for the first units, with the own place set or cleared; the limits of what they hold; the limits of costs.
-- Place by place, by message's laws of `filled_to`. Assumes nothing.
use Rattle.std.specs.Prelude.{ℕ, suc, ◌≤◌, ◌<◌, ◌≡◌, refl, Bool, true, false, cond, ◌&&◌, List, ltb, leb, eqb, length, get_or, set}
use Rattle.std.proofs.Common.{⊎_elim, sym, ◌∙◌, arith, eq-or-lt_of_le, get_or-set_same, get_or-set_other, leb-true, le-leb, ltb-true, ltb-false, eqb-true}
use Rattle.std.proofs.lemmas.List.{get_or-replicate}
use Rattle.std.proofs.lemmas.Bool.{eqb-false}
use Rattle.base.specs.Limits.{NONE, total_limit}
use Rattle.base.specs.Shape.Laws.{and_left}
use Rattle.message.specs.Message.{filled_to, bound_good, none_or_bound}
use Rattle.base.specs.Every.Laws.{every_at, every_by}
use Rattle.message.specs.Laws.{bound_parts, not_none_is, filled_at, filled_past, filled_by}
use Rattle.rules.specs.State.{zeros, all_at_most}

-- ---- filled

module _ (sizes l : List ℕ) (k : ℕ) (len : length l ≡ 16) (k16 : k < 16) where
  -- the own place filled
  pub filled-own : (x : ℕ) → 1 ≤ x → x ≤ get_or sizes k 0 → filled_to k sizes l ≡ true → filled_to (suc k) sizes (set l k x) ≡ true
  filled-own x lo hi e = filled_by (suc k) sizes (set l k x) inside outside
    where
      inside : (j : ℕ) → j < suc k → j < 16 → (1 ≤ get_or (set l k x) j 0) × (get_or (set l k x) j 0 ≤ get_or sizes j 0)
      inside j a b = go (ltb j k) refl
        where
          go : (t : Bool) → ltb j k ≡ t → (1 ≤ get_or (set l k x) j 0) × (get_or (set l k x) j 0 ≤ get_or sizes j 0)
          go true q = let o : j < k = ltb-true j k q in rw (get_or-set_other l k j x 0 (λ z. omega arith)) (filled_at k sizes l e j o b)
          go false q =
              let z : j ≡ k = omega (arith, ltb-false j k q) in
              rw (z, get_or-set_same l k x 0 (omega arith)) (lo, hi)

      outside : (j : ℕ) → suc k ≤ j → j < 16 → get_or (set l k x) j 0 ≡ 0
      outside j a b = rw (get_or-set_other l k j x 0 (λ z. omega arith)) (filled_past k sizes l e j (omega arith) b)

  -- the own place cleared, filled before or not
  pub filled_off : (c : ℕ) → k ≤ c → c ≤ suc k → filled_to c sizes l ≡ true → filled_to k sizes (set l k 0) ≡ true
  filled_off c a b e = filled_by k sizes (set l k 0) inside outside
    where
      inside : (j : ℕ) → j < k → j < 16 → (1 ≤ get_or (set l k 0) j 0) × (get_or (set l k 0) j 0 ≤ get_or sizes j 0)
      inside j p q = rw (get_or-set_other l k j 0 0 (λ z. omega arith)) (filled_at c sizes l e j (omega arith) q)

      outside : (j : ℕ) → k ≤ j → j < 16 → get_or (set l k 0) j 0 ≡ 0
      outside j p q = go (eqb j k) refl
        where
          go : (t : Bool) → eqb j k ≡ t → get_or (set l k 0) j 0 ≡ 0
          go true z = rw (eqb-true j k z) (get_or-set_same l k 0 0 (omega arith))
          go false z =
              let past : c ≤ j = ⊎_elim (λ (r : k ≡ j). absurd (eqb-false j k z (sym r))) (λ r. omega arith) (eq-or-lt_of_le p) in
              rw (get_or-set_other l k j 0 0 (eqb-false j k z)) (filled_past c sizes l e j past q)

-- what is filled is at most 16, whatever the place
pub filled-most : (n c : ℕ) (sizes l : List ℕ) → c ≤ n → ((j : ℕ) → j < n → get_or sizes j 0 ≤ 16) → filled_to c sizes l ≡ true → (j : ℕ) → j < 16 → get_or l j 0 ≤ 16
filled-most n c sizes l h s e j b = go (ltb j c) refl
  where
    go : (t : Bool) → ltb j c ≡ t → get_or l j 0 ≤ 16
    go true q = let o : j < c = ltb-true j c q in omega (arith, (filled_at c sizes l e j o b).1, s j (omega arith))
    go false q = omega (arith, filled_past c sizes l e j (ltb-false j c q) b)

-- ---- at most

pub most_at : (m : ℕ) (l : List ℕ) → all_at_most m l ≡ true → (j : ℕ) → j < 16 → get_or l j 0 ≤ m
unfolding all_at_most
most_at m l e j b = leb-true (get_or l j 0) m (every_at (λ (k : ℕ). leb (get_or l k 0) m) 16 e j b)

pub at_most : (m : ℕ) (l : List ℕ) → ((j : ℕ) → j < 16 → get_or l j 0 ≤ m) → all_at_most m l ≡ true
unfolding all_at_most
at_most m l f = every_by (λ (k : ℕ). leb (get_or l k 0) m) 16 (λ j b. le-leb (get_or l j 0) m (f j b))

pub zeros_at : (j : ℕ) → j < 16 → get_or zeros j 0 ≡ 0
zeros_at j b = get_or-replicate 16 j 0 0 b

-- one place set
pub set_most : (m : ℕ) (l : List ℕ) (i x : ℕ) → length l ≡ 16 → i < 16 → x ≤ m → ((j : ℕ) → j < 16 → get_or l j 0 ≤ m) → (j : ℕ) → j < 16 → get_or (set l i x) j 0 ≤ m
set_most m l i x len a h f j b = go (eqb j i) refl
  where
    go : (t : Bool) → eqb j i ≡ t → get_or (set l i x) j 0 ≤ m
    go true e = rw (eqb-true j i e, get_or-set_same l i x 0 (omega arith)) h
    go false e = rw (get_or-set_other l i j x 0 (eqb-false j i e)) (f j b)

-- ---- bounds

-- a bound in hand keeps the limits of papers and stops too
pub good_or_none : (n : ℕ) (sizes : List ℕ) (bound : ℕ) (best : List ℕ) → bound_good n sizes bound best ≡ true → none_or_bound n sizes bound best ≡ true
good_or_none n sizes bound best e = not_none_is n sizes bound best (omega (arith, (bound_parts n sizes bound best e).0)) ∙ e

-- of either kind it is a number of 32 bits
pub bound_32 : (n : ℕ) (sizes : List ℕ) (bound : ℕ) (best : List ℕ) → none_or_bound n sizes bound best ≡ true → bound < 4294967296
unfolding none_or_bound bound_good
bound_32 n sizes bound best e = go (eqb bound NONE) refl e
  where
    go : (t : Bool) → eqb bound NONE ≡ t → cond t (filled_to 0 sizes best) (leb bound total_limit && filled_to n sizes best) ≡ true → bound < 4294967296
    go true q h = omega (arith, eqb-true bound NONE q)
    go false q h = omega (arith, leb-true bound total_limit (and_left _ _ h))

-- and its best is zero past the n units
pub best_past : (n : ℕ) (sizes : List ℕ) (bound : ℕ) (best : List ℕ) → none_or_bound n sizes bound best ≡ true → (j : ℕ) → n ≤ j → j < 16 → get_or best j 0 ≡ 0
unfolding none_or_bound
best_past n sizes bound best e j lo hi = go (eqb bound NONE) e
  where
    go : (t : Bool) → cond t (filled_to 0 sizes best) (bound_good n sizes bound best) ≡ true → get_or best j 0 ≡ 0
    go true h = filled_past 0 sizes best h j (omega arith) hi
    go false h = filled_past n sizes best (bound_parts n sizes bound best h).1 j lo hi
