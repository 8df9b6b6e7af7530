-- What stands where after costs are changed at places of their own: one place; the places of d values; a row and an own cost, as projection and
-- extension change them. By induction on d. Assumes nothing.
use Rattle.std.specs.Prelude.{ℕ, zero, suc, ◌≤◌, ◌<◌, ◌⊎◌, ◌≡◌, refl, Bool, true, false, List, eqb, leb, ltb, length, get_or}
use Rattle.std.proofs.Common.{inl, inr, sym, ap, ◌∙◌, arith, length-set, get_or-set_same, get_or-set_other, eqb-true, leb-true, leb-false, ltb-true, ltb-false}
use Rattle.std.proofs.lemmas.Bool.{eqb-false}
use Rattle.base.specs.Sums.{sum_to}
use Rattle.projections.specs.Held.{own_at, pair_at, with_at, cost_count, barred}
use Rattle.projections.specs.Held.Laws.{InDom, own_inside, own_once, pair_behind, pair_there, pair_once, with_later, with_earlier}
use Rattle.projections.specs.Moves.{change_at, change_each}

-- whether the number at a place is a cost, or barred
abbrev pub free : List ℕ → ℕ → Bool
free costs p = ltb (get_or costs p 0) barred

-- ---- one place

module _ (f : ℕ → ℕ) (p : ℕ) (l : List ℕ) (h : p < length l) (k : ltb (f (get_or l p 0)) barred ≡ free l p) where
  change_free : (q : ℕ) → free (change_at f p l) q ≡ free l q
  change_free q = go (eqb q p) refl
    where
      go : (t : Bool) → eqb q p ≡ t → free (change_at f p l) q ≡ free l q
      go true e = let m : q ≡ p = eqb-true q p e in rw (m, get_or-set_same l p (f (get_or l p 0)) 0 h) k
      go false e = rw (get_or-set_other l p q (f (get_or l p 0)) 0 (eqb-false q p e))

-- ---- the places of d values

-- the places are apart, and there
pub record Apart (place : ℕ → ℕ) (l : List ℕ) (d : ℕ) : Type 0 where
  pub once : (v w : ℕ) → InDom d v → InDom d w → place v ≡ place w → v ≡ w
  pub there : (v : ℕ) → InDom d v → place v < length l

pub apart_upto : (place : ℕ → ℕ) (l : List ℕ) (d e : ℕ) → d ≤ e → Apart place l e → Apart place l d
apart_upto place l d e h a =
    record { once = λ v w r q x. a.once v w (r.0, omega (arith, r.1)) (q.0, omega (arith, q.1)) x; there = λ v r. a.there v (r.0, omega (arith, r.1)) }

module _ (f : ℕ → ℕ) (place : ℕ → ℕ) (l : List ℕ) where
  pub each_length : (d : ℕ) → length (change_each f place d l) ≡ length l
  each_length zero = refl
  each_length (suc d) = length-set (change_each f place d l) (place (suc d)) (f (get_or (change_each f place d l) (place (suc d)) 0)) ∙ each_length d

  pub each_other : (d p : ℕ) → ((v : ℕ) → InDom d v → p ≡ place v → ⊥) → get_or (change_each f place d l) p 0 ≡ get_or l p 0
  each_other zero p h = refl
  each_other (suc d) p h =
      get_or-set_other (change_each f place d l) (place (suc d)) p (f (get_or (change_each f place d l) (place (suc d)) 0)) 0 (h (suc d) (omega arith, omega arith))
      ∙ each_other d p (λ v r. h v (r.0, omega (arith, r.1)))

  -- the last place still has what was there
  pub each_next : (d : ℕ) → Apart place l (suc d) → get_or (change_each f place d l) (place (suc d)) 0 ≡ get_or l (place (suc d)) 0
  each_next d a =
      each_other d (place (suc d))
      (λ v r e.
      let m : suc d ≡ v = a.once (suc d) v (omega arith, omega arith) (r.0, omega (arith, r.1)) e in
      omega (arith, r.1))

  next-there : (d : ℕ) → Apart place l (suc d) → place (suc d) < length (change_each f place d l)
  next-there d a = rw (each_length d) (a.there (suc d) (omega arith, omega arith))

  pub each_at : (d : ℕ) → Apart place l d → (v : ℕ) → InDom d v → get_or (change_each f place d l) (place v) 0 ≡ f (get_or l (place v) 0)
  each_at zero a v r = absurd (omega (arith, r.0, r.1))
  each_at (suc d) a v r = go (leb v d) refl (each_at d (apart_upto place l d (suc d) (omega arith) a) v)
    where
      go : (t : Bool) → leb v d ≡ t → (InDom d v → get_or (change_each f place d l) (place v) 0 ≡ f (get_or l (place v) 0)) → get_or (change_each f place (suc d) l) (place v) 0 ≡ f (get_or l (place v) 0)
      go true e ih =
          let small : v ≤ d = leb-true v d e in
          get_or-set_other (change_each f place d l) (place (suc d)) (place v) (f (get_or (change_each f place d l) (place (suc d)) 0)) 0
          (λ q.
          let m : v ≡ suc d = a.once v (suc d) r (omega arith, omega arith) q in
          omega arith)
          ∙ ih (r.0, small)
      go false e ih =
          let m : v ≡ suc d = omega (arith, r.1, leb-false v d e) in
          rw m (get_or-set_same (change_each f place d l) (place (suc d)) (f (get_or (change_each f place d l) (place (suc d)) 0)) 0 (next-there d a) ∙ ap f (each_next d a))

  -- where f bars nothing and frees nothing, no place is barred or freed
  pub each_free : (d : ℕ) → Apart place l d → ((v : ℕ) → InDom d v → ltb (f (get_or l (place v) 0)) barred ≡ free l (place v)) → (p : ℕ) → free (change_each f place d l) p ≡ free l p
  each_free zero a k p = refl
  each_free (suc d) a k p =
      change_free f (place (suc d)) (change_each f place d l) (next-there d a) (rw (each_next d a) (k (suc d) (omega arith, omega arith))) p
      ∙ each_free d (apart_upto place l d (suc d) (omega arith) a) (λ v r. k v (r.0, omega (arith, r.1))) p

-- ---- a row, and the own cost of its value

-- value u of unit i, and another unit j
pub record Row (dom : ℕ → ℕ) (n i u j : ℕ) : Type 0 where
  pub unit : i < n
  pub value : InDom (dom i) u
  pub other : j < n
  pub apart : i ≡ j → ⊥

module _ {dom : ℕ → ℕ} {n i u j : ℕ} (r : Row dom n i u j) where
  pub order : (i < j) ⊎ (j < i)
  order = go (ltb i j) refl
    where
      go : (t : Bool) → ltb i j ≡ t → (i < j) ⊎ (j < i)
      go true e = inl (ltb-true i j e)
      go false e = let ne : i ≡ j → ⊥ = r.apart in inr (omega (arith, ltb-false i j e))

  -- its places are there, behind the own costs, and each is one value's
  row-there : (v : ℕ) → InDom (dom j) v → with_at dom n i u j v < cost_count dom n
  row-there v q = go order
    where
      go : (i < j) ⊎ (j < i) → with_at dom n i u j v < cost_count dom n
      go (inl h) = rw (with_later dom n i u j v h) (pair_there dom n i u j v h r.other r.value q)
      go (inr h) = rw (with_earlier dom n i u j v h) (pair_there dom n j v i u h r.unit q r.value)

  pub row_behind : (v : ℕ) → sum_to dom n ≤ with_at dom n i u j v
  row_behind v = go order
    where
      go : (i < j) ⊎ (j < i) → sum_to dom n ≤ with_at dom n i u j v
      go (inl h) = rw (with_later dom n i u j v h) (pair_behind dom n i u j v)
      go (inr h) = rw (with_earlier dom n i u j v h) (pair_behind dom n j v i u)

  row_once : (v w : ℕ) → InDom (dom j) v → InDom (dom j) w → with_at dom n i u j v ≡ with_at dom n i u j w → v ≡ w
  row_once v w p q e = go order
    where
      go : (i < j) ⊎ (j < i) → v ≡ w
      go (inl h) =
          (pair_once dom n i u j v i u j w h r.other h r.other r.value p r.value q (sym (with_later dom n i u j v h) ∙ e ∙ with_later dom n i u j w h)).3
      go (inr h) =
          (pair_once dom n j v i u j w i u h r.unit h r.unit p r.value q r.value (sym (with_earlier dom n i u j v h) ∙ e ∙ with_earlier dom n i u j w h)).2

  -- a pair cost of the row is one of this pair of units, and of value u
  pub row-lower : (a x b y v : ℕ) → i < j → a < b → b < n → InDom (dom a) x → InDom (dom b) y → InDom (dom j) v → pair_at dom n a x b y ≡ with_at dom n i u j v
      → (a ≡ i) × (b ≡ j) × (x ≡ u)
  row-lower a x b y v h l m p q w e =
      let z = pair_once dom n a x b y i u j v l m h r.other p q r.value w (e ∙ with_later dom n i u j v h) in
      (z.0, z.1, z.2)

  pub row_higher : (a x b y v : ℕ) → j < i → a < b → b < n → InDom (dom a) x → InDom (dom b) y → InDom (dom j) v → pair_at dom n a x b y ≡ with_at dom n i u j v
      → (a ≡ j) × (b ≡ i) × (y ≡ u)
  row_higher a x b y v h l m p q w e =
      let z = pair_once dom n a x b y j v i u l m h r.unit p q w r.value (e ∙ with_earlier dom n i u j v h) in
      (z.0, z.1, z.3)

  pub row_apart : (l : List ℕ) → length l ≡ cost_count dom n → Apart (with_at dom n i u j) l (dom j)
  row_apart l count = record { once = row_once; there = λ v q. rw count (row-there v q) }

  -- costs of that number, changed by f in the row and by g at the own cost
  module _ (l : List ℕ) (count : length l ≡ cost_count dom n) (f g : ℕ → ℕ) where
    abbrev pub row_moved : List ℕ
    row_moved = change_at g (own_at dom i u) (change_each f (with_at dom n i u j) (dom j) l)

    own_before : (k v w : ℕ) → k < n → InDom (dom k) v → own_at dom k v ≡ with_at dom n i u j w → ⊥
    own_before k v w h q e = omega (arith, own_inside dom n k v h q, row_behind w)

    own-there : own_at dom i u < length (change_each f (with_at dom n i u j) (dom j) l)
    own-there = rw (each_length f (with_at dom n i u j) l (dom j), count) (omega (arith, own_inside dom n i u r.unit r.value))

    pub own_is : get_or (change_each f (with_at dom n i u j) (dom j) l) (own_at dom i u) 0 ≡ get_or l (own_at dom i u) 0
    own_is = each_other f (with_at dom n i u j) l (dom j) (own_at dom i u) (λ w q. own_before i u w r.unit r.value)

    abbrev own_new : ℕ
    own_new = g (get_or (change_each f (with_at dom n i u j) (dom j) l) (own_at dom i u) 0)

    pub own-moved : get_or row_moved (own_at dom i u) 0 ≡ g (get_or l (own_at dom i u) 0)
    own-moved = get_or-set_same (change_each f (with_at dom n i u j) (dom j) l) (own_at dom i u) own_new 0 own-there ∙ ap g own_is

    pub own-kept : (k v : ℕ) → k < n → InDom (dom k) v → (k ≡ i → v ≡ u → ⊥) → get_or row_moved (own_at dom k v) 0 ≡ get_or l (own_at dom k v) 0
    own-kept k v h q ne =
        get_or-set_other (change_each f (with_at dom n i u j) (dom j) l) (own_at dom i u) (own_at dom k v) own_new 0
        (λ e. let z = own_once dom k i v u q r.value e in ne z.0 z.1)
        ∙ each_other f (with_at dom n i u j) l (dom j) (own_at dom k v) (λ w p. own_before k v w h q)

    -- behind the own costs only the row changes
    behind : (p : ℕ) → sum_to dom n ≤ p → get_or row_moved p 0 ≡ get_or (change_each f (with_at dom n i u j) (dom j) l) p 0
    behind p h =
        get_or-set_other (change_each f (with_at dom n i u j) (dom j) l) (own_at dom i u) p own_new 0 (λ e. omega (arith, own_inside dom n i u r.unit r.value))

    pub pair_moved : (v : ℕ) → InDom (dom j) v → get_or row_moved (with_at dom n i u j v) 0 ≡ f (get_or l (with_at dom n i u j v) 0)
    pair_moved v q = behind (with_at dom n i u j v) (row_behind v) ∙ each_at f (with_at dom n i u j) l (dom j) (row_apart l count) v q

    pub pair_kept : (a x b y : ℕ) → ((v : ℕ) → InDom (dom j) v → pair_at dom n a x b y ≡ with_at dom n i u j v → ⊥) → get_or row_moved (pair_at dom n a x b y) 0 ≡ get_or l (pair_at dom n a x b y) 0
    pair_kept a x b y ne = behind (pair_at dom n a x b y) (pair_behind dom n a x b y) ∙ each_other f (with_at dom n i u j) l (dom j) (pair_at dom n a x b y) ne

    -- and nothing is barred or freed, where f and g do neither
    pub row-free : ((v : ℕ) → InDom (dom j) v → ltb (f (get_or l (with_at dom n i u j v) 0)) barred ≡ free l (with_at dom n i u j v))
        → ltb (g (get_or l (own_at dom i u) 0)) barred ≡ free l (own_at dom i u) → (p : ℕ) → free row_moved p ≡ free l p
    row-free k o p =
        change_free g (own_at dom i u) (change_each f (with_at dom n i u j) (dom j) l) own-there (rw own_is o) p
        ∙ each_free f (with_at dom n i u j) l (dom j) (row_apart l count) k p
