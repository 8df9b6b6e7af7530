-- What the search picks is the first least of the choices it goes through (`Picked`). Two parts make a whole where each choice of
-- the first comes before each of the second, as those of a value do before those of the next; so by induction on the units left.
-- A forbidden choice counts as NONE, so what is picked below NONE is an assignment, and nothing is where there is none.
-- In order: the parts; the choices; the search picks their first least; places past the units; the whole search.
-- Assumes nothing.
use Prim.Native.Nat.{ℕ, zero, suc, ◌+◌, ◌≤◌, ◌<◌}
use Rattle.std.specs.Prelude.{◌≡◌, refl, Bool, true, false, List, ◌⊎◌, ◌≢◌, eqb, ltb, length, get_or, set, replicate, Some, None}
use Rattle.std.proofs.Common.{sym, ap, ◌∙◌, inl, inr, length-set, get_or-set_same, get_or-set_other, ltb-true, ltb-false, eqb-true}
use native.Mathlib.Omega.{arith}
use Rattle.std.proofs.lemmas.List.{get_or-replicate}
use Rattle.std.proofs.Math.ListN.{get_or-eq_default}
use Rattle.std.proofs.lemmas.Bool.{eqb-false}
use Rattle.base.specs.Limits.{NONE, total_limit}
use Rattle.costs.specs.Cost.{as_number}
use Rattle.costs.specs.Cost.Laws.{number_most, number_below, number_is}
use Rattle.costs.specs.declared.ValueOrder.TheVariants.{Ascending}
use Rattle.costs.specs.Instance.{Instance, View, view_by}
use Rattle.costs.specs.Bounds.{Assignment, total}
use Rattle.costs.specs.Order.Laws.{ascending_place}
use Rattle.costs.specs.Least.{Before, LeastFirst, Padded}
use Rattle.costs.specs.Least.Laws.{Agree, agree_next, before_differs, before_not_after}
use Rattle.costs.proofs.Least.Laws.{alike_total}
use Rattle.costs.specs.Laws.{Sound}
use Rattle.costs.specs.Laws.Prefix.{permitted_total, total_permitted}
use Rattle.costs.proofs.Laws.Prefix.{total_limit_lem}
use Rattle.search.specs.declared.Best.{Best}
use Rattle.search.specs.Best.{nothing, keep, in_turn, best_from, best_of}

-- ---- what a part of the search picks

-- r is of S, lower than b, and the first of its total in S
abbrev Newer : Instance → (List ℕ → Type 0) → Best → Best → Type 0
Newer I S b r = S r.values × (r.total ≡ as_number (total I r.values)) × (r.total < b.total) × ((m : List ℕ) → S m → Before Ascending I m r.values → r.total < as_number (total I m))

-- r is the first least of b and the choices in S, b coming first
pub record Picked (I : Instance) (S : List ℕ → Type 0) (b r : Best) : Type 0 where
  pub below : r.total ≤ b.total
  pub least : (m : List ℕ) → S m → r.total ≤ as_number (total I m)
  pub from : (r ≡ b) ⊎ Newer I S b r

-- the same choices told otherwise
picked_same : (I : Instance) (S T : List ℕ → Type 0) (b r : Best) → ((m : List ℕ) → S m → T m) → ((m : List ℕ) → T m → S m) → Picked I S b r → Picked I T b r
picked_same I S T b r to back k = record { below = k.below; least = λ m x. k.least m (back m x); from = go k.from }
  where
    go : (r ≡ b) ⊎ Newer I S b r → (r ≡ b) ⊎ Newer I T b r
    go (inl e) = inl e
    go (inr f) = inr (to r.values f.0, f.1, f.2, λ m x p. f.3 m (back m x) p)

-- no choice
picked_none : (I : Instance) (S : List ℕ → Type 0) (b : Best) → ((m : List ℕ) → S m → ⊥) → Picked I S b b
picked_none I S b empty = record { below = omega arith; least = λ m x. absurd (empty m x); from = inl refl }

-- S, then T, whose choices come after those of S
module _ (I : Instance) (S T : List ℕ → Type 0) (b a r : Best) (after : (l m : List ℕ) → S l → T m → Before Ascending I l m) (f : Picked I S b a) (g : Picked I T a r) where
  abbrev Either : List ℕ → Type 0
  Either m = S m ⊎ T m

  bounds : (m : List ℕ) → Either m → r.total ≤ as_number (total I m)
  bounds m (inl x) = omega (arith, g.below, f.least m x)
  bounds m (inr y) = g.least m y

  -- r is of T
  first_of_second : Newer I T a r → (m : List ℕ) → Either m → Before Ascending I m r.values → r.total < as_number (total I m)
  first_of_second h m (inl x) p = omega (arith, h.2, f.least m x)
  first_of_second h m (inr y) p = h.3 m y p

  -- r is of S
  first_of_first : Newer I S b r → (m : List ℕ) → Either m → Before Ascending I m r.values → r.total < as_number (total I m)
  first_of_first h m (inl x) p = h.3 m x p
  first_of_first h m (inr y) p = absurd (before_not_after Ascending I m r.values p (after r.values m h.0 y))

  either : (r ≡ a) ⊎ Newer I T a r → (a ≡ b) ⊎ Newer I S b a → (r ≡ b) ⊎ Newer I Either b r
  either (inr h) x = inr (inr h.0, h.1, omega (arith, h.2, f.below), first_of_second h)
  either (inl e) (inl d) = inl (e ∙ d)
  either (inl e) (inr h) = let q : Newer I S b r = rw e h in inr (inl q.0, q.1, q.2, first_of_first q)

  picked_then : Picked I Either b r
  picked_then = record { below = omega (arith, f.below, g.below); least = bounds; from = either g.from f.from }

-- ---- the choices that the search goes through

-- m begins with the first k values of p, and goes on with values of the other units
abbrev Extends : Instance → ℕ → List ℕ → List ℕ → Type 0
Extends I k p m = Agree k m p × ((i : ℕ) → k ≤ i → i < I.n → (1 ≤ get_or m i 0) × (get_or m i 0 ≤ I.dom i))

-- and unit k's value is one of the d from v on
abbrev Among : Instance → ℕ → List ℕ → ℕ → ℕ → List ℕ → Type 0
Among I k p v d m = Extends I k p m × (v ≤ get_or m k 0) × (get_or m k 0 < v + d)

module _ (I : Instance) (k : ℕ) (p : List ℕ) (inside : k < I.n) (room : k < length p) where
  -- unit k's value is v
  with_value : (v : ℕ) (m : List ℕ) → Extends I (suc k) (set p k v) m → get_or m k 0 ≡ v
  with_value v m x = x.0 k (omega arith) ∙ get_or-set_same p k v 0 room

  begins : (v : ℕ) (m : List ℕ) → Extends I (suc k) (set p k v) m → Agree k m p
  begins v m x i h = x.0 i (omega arith) ∙ get_or-set_other p k i v 0 (omega arith)

  extends_value : (v : ℕ) (m : List ℕ) → 1 ≤ v → v ≤ I.dom k → Extends I (suc k) (set p k v) m → Extends I k p m
  extends_value v m v1 vd x = (begins v m x, λ i h l. go i h l (eqb i k) refl)
    where
      go : (i : ℕ) → k ≤ i → i < I.n → (t : Bool) → eqb i k ≡ t → (1 ≤ get_or m i 0) × (get_or m i 0 ≤ I.dom i)
      go i h l true e = rw (eqb-true i k e, with_value v m x) (v1, vd)
      go i h l false e = let q : i ≡ k → ⊥ = eqb-false i k e in x.1 i (omega arith) l

  value_extends : (v : ℕ) (m : List ℕ) → Extends I k p m → get_or m k 0 ≡ v → Extends I (suc k) (set p k v) m
  value_extends v m x e =
      (agree_next k m (set p k v) (λ i h. x.0 i h ∙ sym (get_or-set_other p k i v 0 (omega arith))) (e ∙ sym (get_or-set_same p k v 0 room)), λ i h l. x.1 i (omega arith) l)

  -- v's choices, then those of the d values after it, are those of all of them
  module _ (v d : ℕ) (v1 : 1 ≤ v) (vd : v ≤ I.dom k) where
    joins : (m : List ℕ) → Extends I (suc k) (set p k v) m ⊎ Among I k p (suc v) d m → Among I k p v (suc d) m
    joins m (inl x) = let e = with_value v m x in (extends_value v m v1 vd x, omega arith, omega arith)
    joins m (inr y) = (y.0, omega (arith, y.1), omega (arith, y.2))

    splits : (m : List ℕ) → Among I k p v (suc d) m → Extends I (suc k) (set p k v) m ⊎ Among I k p (suc v) d m
    splits m y = go (eqb (get_or m k 0) v) refl
      where
        go : (t : Bool) → eqb (get_or m k 0) v ≡ t → Extends I (suc k) (set p k v) m ⊎ Among I k p (suc v) d m
        go true e = inl (value_extends v m y.0 (eqb-true (get_or m k 0) v e))
        go false e = let q : get_or m k 0 ≡ v → ⊥ = eqb-false (get_or m k 0) v e in inr (y.0, omega (arith, y.1), omega (arith, y.2))

    ascending : (l m : List ℕ) → Extends I (suc k) (set p k v) l → Among I k p (suc v) d m → Before Ascending I l m
    ascending l m x y =
        let w : View = view_by Ascending I k in
        let e = with_value v l x in
        let a : get_or l k 0 < get_or m k 0 = omega (arith, y.1) in
        record { place = k; inside = inside; same = λ i h. begins v l x i h ∙ sym (y.0.0 i h); sooner = rw (ascending_place w refl (get_or l k 0), ascending_place w refl (get_or m k 0)) a }

  in_turn_keeps : (f : ℕ → Best → Best) → ((v : ℕ) (a : Best) → 1 ≤ v → v ≤ I.dom k → Picked I (Extends I (suc k) (set p k v)) a (f v a))
      → (d v : ℕ) (b : Best) → 1 ≤ v → v + d ≤ suc (I.dom k) → Picked I (Among I k p v d) b (in_turn f v d b)
  unfolding in_turn
  in_turn_keeps f each zero v b v1 vd = picked_none I (Among I k p v 0) b (λ m y. omega (arith, y.1, y.2))
  in_turn_keeps f each (suc d) v b v1 vd =
      let dom : v ≤ I.dom k = omega arith in
      picked_same I (λ m. Extends I (suc k) (set p k v) m ⊎ Among I k p (suc v) d m) (Among I k p v (suc d)) b (in_turn f (suc v) d (f v b)) (joins v d v1 dom) (splits v d v1 dom)
      (picked_then I (Extends I (suc k) (set p k v)) (Among I k p (suc v) d) b (f v b) (in_turn f (suc v) d (f v b)) (ascending v d v1 dom) (each v b v1 dom) (in_turn_keeps f each d (suc v) (f v b) (omega arith) (omega arith)))

-- ---- the search keeps the first least of them

module _ (I : Instance) where
  keep_full : (k : ℕ) (p : List ℕ) (b : Best) → k ≡ I.n → Picked I (Extends I k p) b (keep b (as_number (total I p)) p)
  keep_full k p b e = go (ltb (as_number (total I p)) b.total) refl
    where
      alike_p : (m : List ℕ) → Extends I k p m → as_number (total I m) ≡ as_number (total I p)
      alike_p m x = ap as_number (alike_total I m p (λ i h. x.0 i (omega arith)))

      go : (t : Bool) → ltb (as_number (total I p)) b.total ≡ t → Picked I (Extends I k p) b (keep b (as_number (total I p)) p)
      go true q =
          let h = ltb-true (as_number (total I p)) b.total q in
          rw q
          record {
            below = omega arith;
            least = λ m x. omega (arith, alike_p m x);
            from = inr ((λ i l. refl, λ i l r. absurd (omega arith)), refl, h, λ m x o. absurd (before_differs Ascending I m p o (x.0 o.place (omega (arith, o.inside)))));
          }
      go false q =
          let h = ltb-false (as_number (total I p)) b.total q in
          rw q record { below = omega arith; least = λ m x. omega (arith, alike_p m x); from = inl refl }

  pub best_picks : (left k : ℕ) (p : List ℕ) (b : Best) → k + left ≡ I.n → I.n ≤ length p → Picked I (Extends I k p) b (best_from I left k p b)
  unfolding best_from
  best_picks zero k p b e room = keep_full k p b (omega arith)
  best_picks (suc left) k p b e room =
      picked_same I (Among I k p 1 (I.dom k)) (Extends I k p) b (in_turn (λ (v : ℕ) (a : Best). best_from I left (suc k) (set p k v) a) 1 (I.dom k) b)
      (λ m y. y.0) (λ m x. let h = x.1 k (omega arith) (omega arith) in (x, h.0, omega arith))
      (in_turn_keeps I k p (omega arith) (omega arith) (λ (v : ℕ) (a : Best). best_from I left (suc k) (set p k v) a)
      (λ v a v1 vd. best_picks left (suc k) (set p k v) a (omega arith) (rw (length-set p k v) room)) (I.dom k) 1 b (omega arith) (omega arith))

-- ---- places past the units

padded_set : (n k v : ℕ) (l : List ℕ) → k < n → Padded n l → Padded n (set l k v)
padded_set n k v l h p = record { places = length-set l k v ∙ p.places; zeros = λ i b. get_or-set_other l k i v 0 (omega arith) ∙ p.zeros i b }

no_values : (i : ℕ) → get_or {A = ℕ} (replicate 16 0) i 0 ≡ 0
no_values i = go (ltb i 16) refl
  where
    go : (t : Bool) → ltb i 16 ≡ t → get_or {A = ℕ} (replicate 16 0) i 0 ≡ 0
    go true e = get_or-replicate 16 i 0 0 (ltb-true i 16 e)
    go false e = get_or-eq_default (replicate 16 0) 0 (ltb-false i 16 e)

padded_none : (n : ℕ) → Padded n (replicate 16 0)
padded_none n = record { places = refl; zeros = λ i h. no_values i }

in_turn_padded : (n : ℕ) (f : ℕ → Best → Best) → ((v : ℕ) (a : Best) → Padded n a.values → Padded n (f v a).values) → (d v : ℕ) (b : Best) → Padded n b.values → Padded n (in_turn f v d b).values
unfolding in_turn
in_turn_padded n f each zero v b p = p
in_turn_padded n f each (suc d) v b p = in_turn_padded n f each d (suc v) (f v b) (each v b p)

module _ (I : Instance) where
  keep_padded : (b : Best) (l : List ℕ) → Padded I.n b.values → Padded I.n l → Padded I.n (keep b (as_number (total I l)) l).values
  keep_padded b l p q = go (ltb (as_number (total I l)) b.total) refl
    where
      go : (t : Bool) → ltb (as_number (total I l)) b.total ≡ t → Padded I.n (keep b (as_number (total I l)) l).values
      go true e = rw e q
      go false e = rw e p

  best_padded : (left k : ℕ) (l : List ℕ) (b : Best) → k + left ≡ I.n → Padded I.n l → Padded I.n b.values → Padded I.n (best_from I left k l b).values
  unfolding best_from
  best_padded zero k l b e q p = keep_padded b l p q
  best_padded (suc left) k l b e q p =
      in_turn_padded I.n (λ (v : ℕ) (a : Best). best_from I left (suc k) (set l k v) a)
      (λ v a r. best_padded left (suc k) (set l k v) a (omega arith) (padded_set I.n k v l (omega arith) q) r) (I.dom k) 1 b p

-- ---- the whole search

module _ (I : Instance) (sound : Sound I) where
  best_picked : Picked I (Extends I 0 (replicate 16 0)) nothing (best_of I)
  best_picked = best_picks I I.n 0 (replicate 16 0) nothing (omega arith) sound.n16

  any_extends : (m : List ℕ) → Assignment I m → Extends I 0 (replicate 16 0) m
  any_extends m a = (λ i h. absurd (omega arith), λ i h l. a.0 i l)

  -- a total is a number far below NONE
  none_kept : (best_of I).total ≡ NONE → (m : List ℕ) → Assignment I m → ⊥
  none_kept e m a = omega (arith, best_picked.least m (any_extends m a), number_most total_limit (total I m) (total_limit_lem I sound m) (permitted_total I m a.1))

  pub best_least-first : LeastFirst Ascending I (best_of I).total (best_of I).values
  best_least-first = go best_picked.from
    where
      go : (best_of I ≡ nothing) ⊎ Newer I (Extends I 0 (replicate 16 0)) nothing (best_of I) → LeastFirst Ascending I (best_of I).total (best_of I).values
      go (inl e) =
          let none = none_kept (ap (λ (b : Best). b.total) e) in
          record {
            reported = inl (ap (λ (b : Best). b.total) e, λ k. ap (λ (b : Best). get_or b.values k 0) e ∙ no_values k, none);
            first = λ m a o. absurd (none m a);
          }
      go (inr h) =
          let number : total I (best_of I).values ≢ None = number_below (total I (best_of I).values) (omega (arith, h.1, h.2)) in
          record {
            reported = inr (
              (λ i l. h.0.1 i (omega arith) l, total_permitted I (best_of I).values number),
              number_is (total I (best_of I).values) number ∙ ap Some (sym h.1),
              λ m a. best_picked.least m (any_extends m a),
            );
            first = λ m a o. h.3 m (any_extends m a) o;
          }

  pub best_of_padded : Padded I.n (best_of I).values
  best_of_padded = best_padded I I.n 0 (replicate 16 0) nothing (omega arith) (padded_none I.n) (padded_none I.n)
