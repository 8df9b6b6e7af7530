-- There is only one first least assignment, or none: in the order in which the units try their values, of two assignments one comes before the other or they
-- agree. By induction on the number of units compared; two values of one place are one (Order/Laws).
-- Assumes nothing.
use Rattle.std.specs.Prelude.{◌≡◌, ℕ, zero, suc, ◌<◌, ◌≤◌, Bool, true, false, List, ◌==◌, ◌≢◌, nat_lt, slice_index, refl, Some}
use Rattle.std.proofs.Common.{sym, ap, ◌∙◌, inl, inr, arith, ext_get_or, ltb-true, ltb-false, eqb-true}
use Rattle.std.proofs.lemmas.Bool.{eqb-false}
use Rattle.costs.specs.declared.ValueOrder.{ValueOrder}
use Rattle.costs.specs.Cost.{as_number}
use Rattle.costs.specs.Instance.{Instance, View, view_by}
use Rattle.costs.specs.Bounds.{Valued, Assignment, total, Reported}
use Rattle.costs.specs.Order.{place_tried, value_at}
use Rattle.costs.specs.Order.Laws.{value_of_place}
use Rattle.costs.specs.Laws.Prefix.{reported_same}
use Rattle.costs.specs.Least.{Before, LeastFirst, Padded}

-- ---- lists that agree

abbrev pub Agree : ℕ → List ℕ → List ℕ → Type 0
Agree k l m = (i : ℕ) → i < k → slice_index l i ≡ slice_index m i

pub agree_next : (k : ℕ) (l m : List ℕ) → Agree k l m → slice_index l k ≡ slice_index m k → Agree (suc k) l m
agree_next k l m a e i h = go (i == k) refl
  where
    go : (t : Bool) → (i == k) ≡ t → slice_index l i ≡ slice_index m i
    go true q = rw (eqb-true i k q) e
    go false q = let r : i ≡ k → ⊥ = eqb-false i k q in a i (omega arith)

-- ---- which of two comes first

module _ (order : ValueOrder) (I : Instance) where
  -- the place of unit k's value v
  abbrev tried : ℕ → ℕ → ℕ
  tried k v = place_tried (view_by order I k) v

  one_value : (k u v : ℕ) → u ≤ I.dom k → v ≤ I.dom k → tried k u ≡ tried k v → u ≡ v
  one_value k u v p q e = let w : View = view_by order I k in sym (value_of_place w u p) ∙ ap (value_at w) e ∙ value_of_place w v q

  -- the values of the unit by which one comes before another differ
  pub before_differs : (l m : List ℕ) (b : Before order I l m) → slice_index l b.place ≢ slice_index m b.place
  before_differs l m b e = omega (arith, b.sooner, ap (tried b.place) e)

  -- of two, not each comes before the other
  pub before_not_after : (l m : List ℕ) → Before order I l m → Before order I m l → ⊥
  before_not_after l m a b = go (nat_lt a.place b.place) (nat_lt b.place a.place) refl refl
    where
      go : (t r : Bool) → nat_lt a.place b.place ≡ t → nat_lt b.place a.place ≢ r
      go true r e f = before_differs l m a (sym (b.same a.place (ltb-true a.place b.place e)))
      go false true e f = before_differs m l b (sym (a.same b.place (ltb-true b.place a.place f)))
      go false false e f =
          let p : a.place ≡ b.place = omega (arith, ltb-false a.place b.place e, ltb-false b.place a.place f) in
          let x : tried b.place (slice_index l b.place) < tried b.place (slice_index m b.place) = rw p at a.sooner in
          omega (arith, b.sooner)

  -- two agree on k places, or one comes before the other
  data Compared (k : ℕ) (l m : List ℕ) : Type 0 where
    alike : Agree k l m → Compared k l m
    earlier : Before order I l m → Compared k l m
    later : Before order I m l → Compared k l m

  compared : (l m : List ℕ) → Valued I l → Valued I m → (k : ℕ) → k ≤ I.n → Compared k l m
  compared l m x y zero h = alike (λ i q. absurd (omega arith))
  compared l m x y (suc k) h = at (compared l m x y k (omega arith))
    where
      sided : Agree k l m → (t r : Bool) → nat_lt (tried k (slice_index l k)) (tried k (slice_index m k)) ≡ t → nat_lt (tried k (slice_index m k)) (tried k (slice_index l k)) ≡ r → Compared (suc k) l m
      sided a true r e f = earlier (record { place = k; inside = omega arith; same = a; sooner = ltb-true (tried k (slice_index l k)) (tried k (slice_index m k)) e })
      sided a false true e f = later (record { place = k; inside = omega arith; same = λ i q. sym (a i q); sooner = ltb-true (tried k (slice_index m k)) (tried k (slice_index l k)) f })
      sided a false false e f =
          let p = ltb-false (tried k (slice_index l k)) (tried k (slice_index m k)) e in
          let q = ltb-false (tried k (slice_index m k)) (tried k (slice_index l k)) f in
          alike (agree_next k l m a (one_value k (slice_index l k) (slice_index m k) (x k (omega arith)).1 (y k (omega arith)).1 (omega arith)))

      at : Compared k l m → Compared (suc k) l m
      at (alike a) = sided a (nat_lt (tried k (slice_index l k)) (tried k (slice_index m k))) (nat_lt (tried k (slice_index m k)) (tried k (slice_index l k))) refl refl
      at (earlier b) = earlier b
      at (later b) = later b

-- ---- there is only one

-- the total is the least in either order
pub least_unique : (order order' : ValueOrder) (I : Instance) (t u : ℕ) (l m : List ℕ) → LeastFirst order I t l → LeastFirst order' I u m → t ≡ u
least_unique order order' I t u l m a b = reported_same I t u l m a.reported b.reported

module _ (order : ValueOrder) (I : Instance) (t u : ℕ) (l m : List ℕ) (a : LeastFirst order I t l) (b : LeastFirst order I u m) where
  -- two that are assignments
  module _ (full : Assignment I l) (totals : total I l ≡ Some t) (full' : Assignment I m) (totals' : total I m ≡ Some u) where
    first_agree : Compared order I I.n l m → Agree I.n l m
    first_agree (alike e) = e
    first_agree (earlier e) = absurd (omega (arith, least_unique order order I t u l m a b, b.first l full e, ap as_number totals))
    first_agree (later e) = absurd (omega (arith, least_unique order order I t u l m a b, a.first m full' e, ap as_number totals'))

  -- two that are none are all zero, and there is no assignment beside none
  reported_agree : Reported I t l → Reported I u m → Agree I.n l m
  reported_agree (inl p) (inl q) = λ i h. p.1 i ∙ sym (q.1 i)
  reported_agree (inl p) (inr q) = absurd (p.2 m q.0)
  reported_agree (inr p) (inl q) = absurd (q.2 l p.0)
  reported_agree (inr p) (inr q) = first_agree p.0 p.1 q.0 q.1 (compared order I l m p.0.0 q.0.0 I.n (omega arith))

  pub first_unique : Padded I.n l → Padded I.n m → l ≡ m
  first_unique p q = ext_get_or 0 l m (p.places ∙ sym q.places) (λ i h. go i (nat_lt i I.n) refl)
    where
      go : (i : ℕ) (t : Bool) → nat_lt i I.n ≡ t → slice_index l i ≡ slice_index m i
      go i true e = reported_agree a.reported b.reported i (ltb-true i I.n e)
      go i false e = let h = ltb-false i I.n e in p.zeros i h ∙ sym (q.zeros i h)
