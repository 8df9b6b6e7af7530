-- Each order is a permutation of 1 to d: places and values are one to one (`place_of_value`, `value_of_place`), and 0 stands for none on both sides.
-- By rising h: `earlier` is a strict order in which any two values differ, so a value that is earlier has fewer before it, and two values of one place
-- are one; that every place has its value is the pigeonhole principle (Counted).
-- In order: `earlier`; places and values; the value after one; what each order is; the comparison on numbers. Assumes nothing.
use Rattle.std.specs.Prelude.{◌≡◌, ℕ, zero, suc, ◌<◌, ◌≤◌, Bool, true, false, cond, ◌≢◌, ◌⊎◌, ◌==◌, nat_eq, nat_lt, Some, None}
use Rattle.std.proofs.Math.Path.{refl, ap, subst}
use Rattle.std.proofs.Common.{sym, ◌∙◌, inl, inr}
use Rattle.std.proofs.lemmas.Bool.{false≢true}
use native.Mathlib.Omega.{arith}
use borrow.Author.Tests.{ltb-true, ltb-false, lt-ltb, le-ltb, eqb-true, eqb-false, eq-eqb, ne_eqb}
use Rattle.base.specs.Limits.{NONE}
use Rattle.costs.specs.declared.ValueOrder.{ValueOrder}
use Rattle.costs.specs.declared.ValueOrder.TheVariants.{Ascending, CheapestFirst}
use Rattle.costs.specs.Cost.{Cost, as_number}
use Rattle.costs.specs.Cost.Laws.{AtMost}
use Rattle.costs.specs.Instance.{View}
use Rattle.costs.specs.Bounds.{h}
use Rattle.costs.specs.Order.{cheaper, earlier, how_many, last_of, place_by, place_tried, value_at, next}
use Rattle.costs.specs.Order.Counted.{many_less, many_all, last_le, last_found, last_none, OneToOne, every_hit}

-- ---- `earlier`: no value before itself, of two values one, and one before the next before a third

abbrev Before : ℕ → ℕ → ℕ → ℕ → Type 0
Before c u d v = (c < d) ⊎ ((c ≡ d) × (u < v))

numbers_read : (c u d v : ℕ) → cond (c == d) (nat_lt u v) (nat_lt c d) ≡ true → Before c u d v
numbers_read c u d v = go (c == d) refl
  where
    go : (t : Bool) → (c == d) ≡ t → cond t (nat_lt u v) (nat_lt c d) ≡ true → Before c u d v
    go true q e = inr (eqb-true c d q, ltb-true u v e)
    go false q e = inl (ltb-true c d e)

numbers-put : (c u d v : ℕ) → Before c u d v → cond (c == d) (nat_lt u v) (nat_lt c d) ≡ true
numbers-put c u d v (inl l) = let ne : c ≢ d = λ e. absurd (omega arith) in rw (ne_eqb c d ne, lt-ltb c d l)
numbers-put c u d v (inr q) = rw (eq-eqb c d q.0, lt-ltb u v q.1)

numbers_then : (a u b v c x : ℕ) → Before a u b v → Before b v c x → Before a u c x
numbers_then a u b v c x (inl p) (inl q) = inl (omega arith)
numbers_then a u b v c x (inl p) (inr q) = inl (omega (arith, q.0))
numbers_then a u b v c x (inr p) (inl q) = inl (omega (arith, p.0))
numbers_then a u b v c x (inr p) (inr q) = inr (p.0 ∙ q.0, omega (arith, p.1, q.1))

cheaper_not_itself : (c : Cost) (v : ℕ) → cheaper c v c v ≡ false
cheaper_not_itself (Some n) v = rw (eq-eqb n n refl, le-ltb v v (omega arith))
cheaper_not_itself None v = le-ltb v v (omega arith)

cheaper_then : (a : Cost) (u : ℕ) (b : Cost) (v : ℕ) (c : Cost) (x : ℕ) → cheaper a u b v ≡ true → cheaper b v c x ≡ true → cheaper a u c x ≡ true
cheaper_then (Some a) u (Some b) v (Some c) x p q = numbers-put a u c x (numbers_then a u b v c x (numbers_read a u b v p) (numbers_read b v c x q))
cheaper_then (Some a) u (Some b) v None x p q = refl
cheaper_then (Some a) u None v (Some c) x p q = absurd (false≢true q)
cheaper_then (Some a) u None v None x p q = refl
cheaper_then None u (Some b) v c x p q = absurd (false≢true p)
cheaper_then None u None v (Some c) x p q = q
cheaper_then None u None v None x p q = lt-ltb u x (omega (arith, ltb-true u v p, ltb-true v x q))

numbers_either : (u v : ℕ) → u ≢ v → (nat_lt u v ≡ true) ⊎ (nat_lt v u ≡ true)
numbers_either u v ne = go (nat_lt u v) refl
  where
    go : (t : Bool) → nat_lt u v ≡ t → (nat_lt u v ≡ true) ⊎ (nat_lt v u ≡ true)
    go true e = inl e
    go false e = inr (lt-ltb v u (omega (arith, ltb-false u v e)))

cheaper_either : (c : Cost) (u : ℕ) (d : Cost) (v : ℕ) → u ≢ v → (cheaper c u d v ≡ true) ⊎ (cheaper d v c u ≡ true)
cheaper_either (Some c) u (Some d) v ne = go (c == d) refl
  where
    first : c ≡ d → (nat_lt u v ≡ true) ⊎ (nat_lt v u ≡ true) → (cheaper (Some c) u (Some d) v ≡ true) ⊎ (cheaper (Some d) v (Some c) u ≡ true)
    first e (inl l) = inl (numbers-put c u d v (inr (e, ltb-true u v l)))
    first e (inr l) = inr (numbers-put d v c u (inr (sym e, ltb-true v u l)))

    apart : (nat_lt c d ≡ true) ⊎ (nat_lt d c ≡ true) → (cheaper (Some c) u (Some d) v ≡ true) ⊎ (cheaper (Some d) v (Some c) u ≡ true)
    apart (inl l) = inl (numbers-put c u d v (inl (ltb-true c d l)))
    apart (inr l) = inr (numbers-put d v c u (inl (ltb-true d c l)))

    go : (t : Bool) → (c == d) ≡ t → (cheaper (Some c) u (Some d) v ≡ true) ⊎ (cheaper (Some d) v (Some c) u ≡ true)
    go true e = first (eqb-true c d e) (numbers_either u v ne)
    go false e = apart (numbers_either c d (eqb-false c d e))
cheaper_either (Some c) u None v ne = inl refl
cheaper_either None u (Some d) v ne = inr refl
cheaper_either None u None v ne = numbers_either u v ne

module _ (w : View) where
  earlier_not_itself : (v : ℕ) → earlier w v v ≡ false
  unfolding earlier
  earlier_not_itself v = cheaper_not_itself (h w v) v

  earlier_then : (u v x : ℕ) → earlier w u v ≡ true → earlier w v x ≡ true → earlier w u x ≡ true
  unfolding earlier
  earlier_then u v x = cheaper_then (h w u) u (h w v) v (h w x) x

  earlier_either : (u v : ℕ) → u ≢ v → (earlier w u v ≡ true) ⊎ (earlier w v u ≡ true)
  unfolding earlier
  earlier_either u v = cheaper_either (h w u) u (h w v) v

-- ---- places and values

module _ (w : View) where
  -- 0 stands for none
  pub place_of_none : place_tried w 0 ≡ 0
  unfolding place_tried
  place_of_none = go w.order
    where
      go : (o : ValueOrder) → place_by o w 0 ≡ 0
      go Ascending = refl
      go CheapestFirst = refl

  pub place-least : (v : ℕ) → 1 ≤ v → 1 ≤ place_tried w v
  unfolding place_tried
  place-least zero lo = absurd (omega arith)
  place-least (suc v) lo = go w.order
    where
      go : (o : ValueOrder) → 1 ≤ place_by o w (suc v)
      go Ascending = omega arith
      go CheapestFirst = omega arith

  -- by rising h: how many values come before one
  counted : (v : ℕ) → 1 ≤ v → place_by CheapestFirst w v ≡ suc (how_many (λ u. earlier w u v) (w.dom w.place))
  counted zero lo = absurd (omega arith)
  counted (suc v) lo = refl

  counted-most : (v : ℕ) → 1 ≤ v → v ≤ w.dom w.place → place_by CheapestFirst w v ≤ w.dom w.place
  counted-most v lo hi =
      omega (arith, counted v lo, many_all (w.dom w.place), many_less (λ u. earlier w u v) (λ u. true) (w.dom w.place) v lo hi (λ u e. refl) (earlier_not_itself w v) refl)

  -- a value that is earlier has a lower place
  counted-lower : (u v : ℕ) → 1 ≤ u → u ≤ w.dom w.place → 1 ≤ v → earlier w u v ≡ true → place_by CheapestFirst w u < place_by CheapestFirst w v
  counted-lower u v a b c e =
      omega (arith, counted u a, counted v c, many_less (λ x. earlier w x u) (λ x. earlier w x v) (w.dom w.place) u a b (λ x q. earlier_then w x u v q e) (earlier_not_itself w u) e)

  one_by : (o : ValueOrder) → OneToOne (w.dom w.place) (place_by o w)
  one_by Ascending = record { least = λ v lo hi. lo; most = λ v lo hi. hi; same = λ u v a b c e q. q }
  one_by CheapestFirst = record { least = λ v lo hi. omega (arith, counted v lo); most = counted-most; same = same }
    where
      same : (u v : ℕ) → 1 ≤ u → u ≤ w.dom w.place → 1 ≤ v → v ≤ w.dom w.place → place_by CheapestFirst w u ≡ place_by CheapestFirst w v → u ≡ v
      same u v a b c e q = go (u == v) refl
        where
          lower : (earlier w u v ≡ true) ⊎ (earlier w v u ≡ true) → u ≡ v
          lower (inl x) = absurd (omega (arith, q, counted-lower u v a b c x))
          lower (inr x) = absurd (omega (arith, q, counted-lower v u c e a x))

          go : (t : Bool) → (u == v) ≡ t → u ≡ v
          go true x = eqb-true u v x
          go false x = lower (earlier_either w u v (eqb-false u v x))

  pub one_place : OneToOne (w.dom w.place) (place_tried w)
  unfolding place_tried
  one_place = one_by w.order

  pub place-most : (v : ℕ) → v ≤ w.dom w.place → place_tried w v ≤ w.dom w.place
  place-most zero hi = omega (arith, place_of_none)
  place-most (suc v) hi = one_place.most (suc v) (omega arith) hi

  -- no value has place 0
  pub value_of_none : value_at w 0 ≡ 0
  unfolding value_at
  value_of_none = last_none (λ v. nat_eq (place_tried w v) 0) (w.dom w.place) (λ v lo hi. ne_eqb (place_tried w v) 0 (λ e. absurd (omega (arith, e, place-least v lo))))

  pub value_most : (p : ℕ) → value_at w p ≤ w.dom w.place
  unfolding value_at
  value_most p = last_le (λ v. nat_eq (place_tried w v) p) (w.dom w.place)

  -- each place has a value, and that value has the place
  found : (p : ℕ) → 1 ≤ p → p ≤ w.dom w.place → (1 ≤ value_at w p) × (place_tried w (value_at w p) ≡ p)
  unfolding value_at
  found p lo hi =
      let x = every_hit (w.dom w.place) (place_tried w) one_place p lo hi in
      let y = last_found (λ v. nat_eq (place_tried w v) p) (w.dom w.place) x.0 x.1 x.2 (eq-eqb (place_tried w x.0) p x.3) in
      (y.0, eqb-true (place_tried w (last_of (λ v. nat_eq (place_tried w v) p) (w.dom w.place))) p y.1)

  pub value_least : (p : ℕ) → 1 ≤ p → p ≤ w.dom w.place → 1 ≤ value_at w p
  value_least p lo hi = (found p lo hi).0

  pub place_of_value : (p : ℕ) → p ≤ w.dom w.place → place_tried w (value_at w p) ≡ p
  place_of_value zero hi = ap (place_tried w) value_of_none ∙ place_of_none
  place_of_value (suc p) hi = (found (suc p) (omega arith) hi).1

  pub value_of_place : (v : ℕ) → v ≤ w.dom w.place → value_at w (place_tried w v) ≡ v
  value_of_place zero hi = ap (value_at w) place_of_none ∙ value_of_none
  value_of_place (suc v) hi =
      let p = place-most (suc v) hi in
      let q = place-least (suc v) (omega arith) in
      one_place.same (value_at w (place_tried w (suc v))) (suc v) (value_least (place_tried w (suc v)) q p) (value_most (place_tried w (suc v))) (omega arith) hi (place_of_value (place_tried w (suc v)) p)

  -- ---- the value after one

  pub next_value : (p : ℕ) → p ≤ w.dom w.place → next w (value_at w p) ≡ value_at w (suc p)
  unfolding next
  next_value p le = ap (λ q. value_at w (suc q)) (place_of_value p le)

  module _ (v : ℕ) where
    pub next-most : next w v ≤ w.dom w.place
    unfolding next
    next-most = value_most (suc (place_tried w v))

    module _ (more : place_tried w v < w.dom w.place) where
      pub next_place : place_tried w (next w v) ≡ suc (place_tried w v)
      unfolding next
      next_place = place_of_value (suc (place_tried w v)) more

      pub next-least : 1 ≤ next w v
      unfolding next
      next-least = value_least (suc (place_tried w v)) (omega arith) more

    -- past the last there is none
    next_past : w.dom w.place ≤ place_tried w v → next w v ≡ 0
    unfolding next value_at
    next_past all =
        last_none (λ x. nat_eq (place_tried w x) (suc (place_tried w v))) (w.dom w.place)
        (λ x lo hi. ne_eqb (place_tried w x) (suc (place_tried w v)) (λ e. absurd (omega (arith, all, e, place-most x hi))))

    -- of the values later than v, the earliest
    pub next_is : (x : ℕ) → x ≤ w.dom w.place → place_tried w v < place_tried w x
        → ((u : ℕ) → 1 ≤ u → u ≤ w.dom w.place → place_tried w v < place_tried w u → place_tried w x ≤ place_tried w u) → next w v ≡ x
    next_is x hi later first =
        let more : place_tried w v < w.dom w.place = omega (arith, later, place-most x hi) in
        let up = next_place more in
        let e : place_tried w (next w v) ≡ place_tried w x = omega (arith, up, later, first (next w v) (next-least more) next-most (omega (arith, up))) in
        sym (value_of_place (next w v) next-most) ∙ ap (value_at w) e ∙ value_of_place x hi

    pub next_none : ((u : ℕ) → 1 ≤ u → u ≤ w.dom w.place → place_tried w u ≤ place_tried w v) → next w v ≡ 0
    next_none none = go (nat_lt (place_tried w v) (w.dom w.place)) refl
      where
        go : (t : Bool) → nat_lt (place_tried w v) (w.dom w.place) ≡ t → next w v ≡ 0
        go true e = let more = ltb-true (place_tried w v) (w.dom w.place) e in absurd (omega (arith, next_place more, none (next w v) (next-least more) next-most))
        go false e = next_past (ltb-false (place_tried w v) (w.dom w.place) e)

-- ---- what each order is

-- ascending, a value is its place
module _ (w : View) (plain : w.order ≡ Ascending) where
  pub ascending_place : (v : ℕ) → place_tried w v ≡ v
  unfolding place_tried
  ascending_place v = ap (λ (o : ValueOrder). place_by o w v) plain

  pub ascending_value : (p : ℕ) → p ≤ w.dom w.place → value_at w p ≡ p
  ascending_value p hi = ap (value_at w) (sym (ascending_place p)) ∙ value_of_place w p hi

-- "by rising h, the lower number first on a tie, values without an h last"
module _ (w : View) (cheapest : w.order ≡ CheapestFirst) (u v : ℕ) (u1 : 1 ≤ u) (u-hi : u ≤ w.dom w.place) (v1 : 1 ≤ v) where
  pub earlier-lower : earlier w u v ≡ true → place_tried w u < place_tried w v
  unfolding place_tried
  earlier-lower e = let q : place_by CheapestFirst w u < place_by CheapestFirst w v = counted-lower w u v u1 u-hi v1 e in subst (λ o. place_by o w u < place_by o w v) (sym cheapest) q

  by_cheaper : cheaper (h w u) u (h w v) v ≡ true → place_tried w u < place_tried w v
  unfolding earlier
  by_cheaper e = earlier-lower e

  pub rising : (c d : ℕ) → h w u ≡ Some c → h w v ≡ Some d → c < d → place_tried w u < place_tried w v
  rising c d p q l = by_cheaper (ap (λ (x : Cost). cheaper x u (h w v) v) p ∙ ap (λ (y : Cost). cheaper (Some c) u y v) q ∙ numbers-put c u d v (inl l))

  pub lower_on_a_tie : h w u ≡ h w v → u < v → place_tried w u < place_tried w v
  lower_on_a_tie e l = by_cheaper (ap (λ (x : Cost). cheaper x u (h w v) v) e ∙ tie (h w v))
    where
      tie : (c : Cost) → cheaper c u c v ≡ true
      tie (Some n) = numbers-put n u n v (inr (refl, l))
      tie None = lt-ltb u v l

  pub without-h-last : (c : ℕ) → h w u ≡ Some c → h w v ≡ None → place_tried w u < place_tried w v
  without-h-last c p q = by_cheaper (ap (λ (x : Cost). cheaper x u (h w v) v) p ∙ ap (λ (y : Cost). cheaper (Some c) u y v) q)

-- so of two values the earlier is the one with the lower place
pub earlier_is : (w : View) → w.order ≡ CheapestFirst → (u v : ℕ) → 1 ≤ u → u ≤ w.dom w.place → 1 ≤ v → v ≤ w.dom w.place → earlier w u v ≡ nat_lt (place_tried w u) (place_tried w v)
earlier_is w cheapest u v u1 u-hi v1 v-hi = go (earlier w u v) refl
  where
    later : (earlier w v u ≡ true) ⊎ (v ≡ u) → place_tried w v ≤ place_tried w u
    later (inl l) = omega (arith, earlier-lower w cheapest v u v1 v-hi u1 l)
    later (inr e) = omega (arith, ap (place_tried w) e)

    other : (t : Bool) → (u == v) ≡ t → earlier w u v ≡ false → (earlier w v u ≡ true) ⊎ (v ≡ u)
    other true q e = inr (sym (eqb-true u v q))
    other false q e = pick (earlier_either w u v (eqb-false u v q))
      where
        pick : (earlier w u v ≡ true) ⊎ (earlier w v u ≡ true) → (earlier w v u ≡ true) ⊎ (v ≡ u)
        pick (inl l) = absurd (false≢true (sym e ∙ l))
        pick (inr l) = inl l

    go : (t : Bool) → earlier w u v ≡ t → t ≡ nat_lt (place_tried w u) (place_tried w v)
    go true e = sym (lt-ltb (place_tried w u) (place_tried w v) (earlier-lower w cheapest u v u1 u-hi v1 e))
    go false e = sym (le-ltb (place_tried w u) (place_tried w v) (later (other (u == v) refl e)))

-- ---- the comparison on numbers, where every h that is a number is below NONE

pub cheaper-numbers : (c : Cost) (u : ℕ) (d : Cost) (v M : ℕ) → M < NONE → AtMost M c → AtMost M d → cheaper c u d v ≡ cond (as_number c == as_number d) (nat_lt u v) (nat_lt (as_number c) (as_number d))
cheaper-numbers (Some c) u (Some d) v M few p q = refl
cheaper-numbers (Some c) u None v M few p q = sym (numbers-put c u NONE v (inl (omega (arith, few, p))))
cheaper-numbers None u (Some d) v M few p q =
    let ne : NONE ≢ d = λ e. absurd (omega (arith, few, q)) in
    let le : d ≤ NONE = omega (arith, few, q) in
    rw (ne_eqb NONE d ne, le-ltb NONE d le)
cheaper-numbers None u None v M few p q = refl
