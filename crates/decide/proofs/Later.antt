-- The value tried after another: how many are left with it, and how it is found, ascending and by rising h. By the laws of the order
-- (costs/specs/Order/Laws); by rising h, what is found among the first i values is the earliest of those later than v. Assumes nothing.
use Prim.Native.Nat.{ℕ, zero, suc, ◌+◌, ◌-◌, ◌≤◌, ◌<◌}
use native.Mathlib.Omega.{arith}
use native.Mathlib.Numerals.{add-one}
use mathlib.Core.Path.{◌≡◌, refl, sym, ◌∙◌, subst}
use mathlib.Core.Logic.{◌≢◌}
use mathlib.Core.Bool.{Bool, true, false, cond, not, ◌&&◌}
use mathlib.Core.List.{List}
use lib.Dec.{ltb, leb, eqb}
use lib.ListN.{length, get_or, set}
use lib.Seq.{get_or-set_same, get_or-set_other}
use borrow.Author.Tests.{ltb-true, ltb-false, lt-ltb, le-ltb, leb-true, leb-false, eqb-true, eqb-false}
use Rattle.base.specs.Limits.{NONE}
use Rattle.costs.specs.declared.Seat.{Seat}
use Rattle.costs.specs.declared.ValueOrder.TheVariants.{Ascending, CheapestFirst}
use Rattle.costs.specs.Cost.{Cost, as_number}
use Rattle.costs.specs.Cost.Laws.{AtMost}
use Rattle.costs.specs.Instance.{View, view_knowing}
use Rattle.costs.specs.Bounds.{h}
use Rattle.costs.specs.Order.{earlier, place_tried, next, left}
use Rattle.costs.specs.Order.Laws.{place_of_none, place-least, place-most, next_place, next-least, next_is, next_none, ascending_place, earlier_is, cheaper-numbers}
use Rattle.rules.specs.Ready.{Shaped, Keys}
use Rattle.decide.proofs.Lent.{order-lent, dom-lent}

-- ---- how many are left

module _ (w : View) (v : ℕ) where
  -- with a value after v, one fewer is left after that
  pub left_more : (x : ℕ) → x ≡ next w v → 1 ≤ x → left w v ≡ suc (left w x)
  left_more x after some = rw after (go (ltb (place_tried w v) (w.dom w.place)) refl)
    where
      go : (t : Bool) → ltb (place_tried w v) (w.dom w.place) ≡ t → left w v ≡ suc (left w (next w v))
      go true e = let more = ltb-true (place_tried w v) (w.dom w.place) e in omega (arith, more, next_place w v more)
      go false e = let past = ltb-false (place_tried w v) (w.dom w.place) e in absurd (omega (arith, after, some, next_none w v (λ u lo hi. omega (arith, past, place-most w u hi))))

  pub left_none : next w v ≡ 0 → left w v ≡ 0
  left_none none = go (ltb (place_tried w v) (w.dom w.place)) refl
    where
      go : (t : Bool) → ltb (place_tried w v) (w.dom w.place) ≡ t → left w v ≡ 0
      go true e = absurd (omega (arith, none, next-least w v (ltb-true (place_tried w v) (w.dom w.place) e)))
      go false e = omega (arith, ltb-false (place_tried w v) (w.dom w.place) e)

-- ---- ascending

module _ (w : View) (plain : w.order ≡ Ascending) (v : ℕ) where
  pub number_next : v < w.dom w.place → v + 1 ≡ next w v
  number_next more =
      let p = ascending_place w plain in
      sym (next_is w v (v + 1) (omega arith) (omega (arith, p v, p (v + 1))) (λ u lo hi later. omega (arith, later, p v, p (v + 1), p u)))

  pub number_last : w.dom w.place ≤ v → 0 ≡ next w v
  number_last all = let p = ascending_place w plain in sym (next_none w v (λ u lo hi. omega (arith, hi, all, p v, p u)))

-- ---- by rising h: the keys, value by value

-- those of the first i values
abbrev pub Known : View → List ℕ → ℕ → Type 0
Known w keys i = (k : ℕ) → k < i → (get_or keys k 0 ≡ as_number (h w (suc k))) × AtMost 16711425 (h w (suc k))

module _ (w : View) (keys : List ℕ) where
  pub known_none : Known w keys 0
  known_none k l = absurd (omega arith)

  pub known_more : (i x : ℕ) (c : Cost) → i < length keys → Known w keys i → x ≡ as_number c → c ≡ h w (i + 1) → AtMost 16711425 c → Known w (set keys i x) (i + 1)
  known_more i x c long known number e most k l = go (eqb k i) refl
    where
      go : (t : Bool) → eqb k i ≡ t → (get_or (set keys i x) k 0 ≡ as_number (h w (suc k))) × AtMost 16711425 (h w (suc k))
      go true q =
          let f : h w (suc k) ≡ c = rw (eqb-true k i q, ← add-one i) (sym e) in
          (rw (eqb-true k i q, ← add-one i, ← e) (get_or-set_same keys i x 0 long ∙ number), rw f most)
      go false q =
          let ne : k ≢ i = eqb-false k i q in
          let old = known k (omega (arith, l, ne)) in
          (get_or-set_other keys i k x 0 ne ∙ old.0, old.1)

module _ (seat : Seat) (costs ahead keys : List ℕ) where
  pub all_known : Shaped seat → Known (view_knowing seat costs ahead) keys (get_or seat.sizes (seat.own - 1) 0) → Keys (view_knowing seat costs ahead) keys
  all_known s known cheapest k l = known k (omega (arith, l, dom-lent seat costs ahead s.number.first s.within))

  -- ascending, none is asked for
  pub none_asked : seat.order ≡ Ascending → Keys (view_knowing seat costs ahead) keys
  none_asked plain cheapest k l = let z : ◌≡◌ {A = ℕ} 0 1 = cc (order-lent seat costs ahead) in absurd (omega arith)

-- ---- by rising h: two values compared by their keys

module _ (w : View) (cheapest : w.order ≡ CheapestFirst) (keys : List ℕ) (known : Keys w keys) where
  key_is : (v : ℕ) → 1 ≤ v → v ≤ w.dom w.place → (get_or keys (v - 1) 0 ≡ as_number (h w v)) × AtMost 16711425 (h w v)
  key_is v lo hi =
      let e : suc (v - 1) ≡ v = omega arith in
      let k = known cheapest (v - 1) (omega (arith, lo, hi)) in
      (rw e at k.0, rw e at k.1)

  module _ (u v : ℕ) (u1 : 1 ≤ u) (u-hi : u ≤ w.dom w.place) (v1 : 1 ≤ v) (v-hi : v ≤ w.dom w.place) where
    by_keys : cond (eqb (get_or keys (u - 1) 0) (get_or keys (v - 1) 0)) (ltb u v) (ltb (get_or keys (u - 1) 0) (get_or keys (v - 1) 0)) ≡ ltb (place_tried w u) (place_tried w v)
    unfolding earlier
    by_keys =
        let a = key_is u u1 u-hi in
        let b = key_is v v1 v-hi in
        rw (a.0, b.0) (sym (cheaper-numbers (h w u) u (h w v) v 16711425 (omega arith) a.1 b.1) ∙ earlier_is w cheapest u v u1 u-hi v1 v-hi)

-- no value stands before all
none_first : (w : View) (u v : ℕ) → u ≡ 0 → 1 ≤ v → true ≡ ltb (place_tried w u) (place_tried w v)
none_first w u v e lo = rw e (sym (lt-ltb (place_tried w 0) (place_tried w v) (omega (arith, place_of_none w, place-least w v lo))))

-- ---- by rising h: the earliest of those later than v

-- of the first i values; 0 where none of them is later
pub record Earliest (w : View) (v i found : ℕ) : Type 0 where
  pub later : 1 ≤ found → place_tried w v < place_tried w found
  pub first : (u : ℕ) → 1 ≤ u → u ≤ i → place_tried w v < place_tried w u → (1 ≤ found) × (place_tried w found ≤ place_tried w u)

module _ (w : View) (v : ℕ) where
  pub earliest_none : Earliest w v 0 0
  earliest_none = record { later = λ lo. absurd (omega arith); first = λ u lo hi later. absurd (omega arith) }

  -- one value more
  module _ (i found : ℕ) (q : Earliest w v i found) where
    -- those found before it are no later than the one found now, nor is the new one
    earliest_if : (x : ℕ) → (1 ≤ x → place_tried w v < place_tried w x) → (1 ≤ found → (1 ≤ x) × (place_tried w x ≤ place_tried w found))
        → (place_tried w v < place_tried w (i + 1) → (1 ≤ x) × (place_tried w x ≤ place_tried w (i + 1))) → Earliest w v (i + 1) x
    earliest_if x later old new = record { later = later; first = λ u lo hi l. go u lo l (leb u i) refl hi }
      where
        go : (u : ℕ) → 1 ≤ u → place_tried w v < place_tried w u → (t : Bool) → leb u i ≡ t → u ≤ i + 1 → (1 ≤ x) × (place_tried w x ≤ place_tried w u)
        go u lo l true e hi =
            let f = q.first u lo (leb-true u i e) l in
            let o = old f.0 in
            (o.0, omega (arith, f.1, o.1))
        go u lo l false e hi = let y : u ≡ i + 1 = omega (arith, hi, leb-false u i e) in rw y (new (rw y at l))

    pub earliest_more : Earliest w v (i + 1) (cond (ltb (place_tried w v) (place_tried w (i + 1))) (cond (eqb found 0) (i + 1) (cond (ltb (place_tried w found) (place_tried w (i + 1))) found (i + 1))) found)
    earliest_more = go (ltb (place_tried w v) (place_tried w (i + 1))) (eqb found 0) (ltb (place_tried w found) (place_tried w (i + 1))) refl refl refl
      where
        go : (a b c : Bool) → ltb (place_tried w v) (place_tried w (i + 1)) ≡ a → eqb found 0 ≡ b → ltb (place_tried w found) (place_tried w (i + 1)) ≡ c
            → Earliest w v (i + 1) (cond a (cond b (i + 1) (cond c found (i + 1))) found)
        go true true c p r s = earliest_if (i + 1) (λ lo. ltb-true _ _ p) (λ lo. absurd (omega (arith, lo, eqb-true found 0 r))) (λ l. (omega arith, omega arith))
        go true false true p r s =
            let ne : found ≢ 0 = eqb-false found 0 r in
            earliest_if found q.later (λ lo. (lo, omega arith)) (λ l. (omega (arith, ne), omega (arith, ltb-true (place_tried w found) (place_tried w (i + 1)) s)))
        go true false false p r s = earliest_if (i + 1) (λ lo. ltb-true _ _ p) (λ lo. (omega arith, ltb-false _ _ s)) (λ l. (omega arith, omega arith))
        go false b c p r s = earliest_if found q.later (λ lo. (lo, omega arith)) (λ l. absurd (omega (arith, l, ltb-false (place_tried w v) (place_tried w (i + 1)) p)))

  pub earliest_next : (found : ℕ) → found ≤ w.dom w.place → Earliest w v (w.dom w.place) found → found ≡ next w v
  earliest_next zero hi q = sym (next_none w v (λ u lo u-hi. go u lo u-hi (ltb (place_tried w v) (place_tried w u)) refl))
    where
      go : (u : ℕ) → 1 ≤ u → u ≤ w.dom w.place → (t : Bool) → ltb (place_tried w v) (place_tried w u) ≡ t → place_tried w u ≤ place_tried w v
      go u lo u-hi true e = absurd (omega (arith, (q.first u lo u-hi (ltb-true (place_tried w v) (place_tried w u) e)).0))
      go u lo u-hi false e = ltb-false (place_tried w v) (place_tried w u) e
  earliest_next (suc x) hi q = sym (next_is w v (suc x) hi (q.later (omega arith)) (λ u lo u-hi later. (q.first u lo u-hi later).1))

-- ---- by rising h: how one value more is found by its key

-- the key of a value; 0 of none
abbrev pub KeyOf : List ℕ → ℕ → ℕ → Type 0
KeyOf keys v x = (v ≡ 0 → x ≡ 0) × (1 ≤ v → x ≡ get_or keys (v - 1) 0)

-- the key of what was found, above all where nothing was
abbrev pub BestOf : List ℕ → ℕ → ℕ → Type 0
BestOf keys found best = (found ≡ 0 → best ≡ 4294967296) × (1 ≤ found → best ≡ get_or keys (found - 1) 0)

module _ (w : View) (cheapest : w.order ≡ CheapestFirst) (keys : List ℕ) (known : Keys w keys) (v i low key best found : ℕ) (v-hi : v ≤ w.dom w.place) (i-hi : i + 1 ≤ w.dom w.place)
    (low-is : KeyOf keys v low) (key_here : key ≡ get_or keys i 0) (key-most : key ≤ NONE) (best-is : BestOf keys found best) (found-hi : found ≤ i) where
  here : key ≡ get_or keys (i + 1 - 1) 0
  here = let e : i + 1 - 1 ≡ i = omega arith in rw e key_here

  -- it comes after v
  later_by_key : cond (eqb low key) (ltb v (i + 1)) (ltb low key) ≡ ltb (place_tried w v) (place_tried w (i + 1))
  later_by_key = go (eqb v 0) refl
    where
      from_none : (t : Bool) → eqb low key ≡ t → v ≡ 0 → cond t (ltb v (i + 1)) (ltb low key) ≡ true
      from_none true e z = lt-ltb v (i + 1) (omega arith)
      from_none false e z = let ne = eqb-false low key e in lt-ltb low key (omega (arith, ne, low-is.0 z))

      go : (t : Bool) → eqb v 0 ≡ t → cond (eqb low key) (ltb v (i + 1)) (ltb low key) ≡ ltb (place_tried w v) (place_tried w (i + 1))
      go true e = let z = eqb-true v 0 e in from_none (eqb low key) refl z ∙ none_first w v (i + 1) z (omega arith)
      go false e =
          let ne : v ≢ 0 = eqb-false v 0 e in
          let some : 1 ≤ v = omega (arith, ne) in
          rw (low-is.1 some, here) (by_keys w cheapest keys known v (i + 1) some v-hi (omega arith) i-hi)

  -- it comes before what was found, which has a lower number
  before_by_key : 1 ≤ found → ltb key best ≡ not (ltb (place_tried w found) (place_tried w (i + 1)))
  before_by_key some =
      rw (← by_keys w cheapest keys known found (i + 1) some (omega (arith, found-hi, i-hi)) (omega arith) i-hi, ← here, ← best-is.1 some) (go (eqb best key) (ltb best key) refl refl)
    where
      go : (a b : Bool) → eqb best key ≡ a → ltb best key ≡ b → ltb key best ≡ not (cond a (ltb found (i + 1)) b)
      go true b e f = rw (lt-ltb found (i + 1) (omega (arith, found-hi))) (le-ltb key best (omega (arith, eqb-true best key e)))
      go false true e f = le-ltb key best (omega (arith, ltb-true best key f))
      go false false e f = let ne = eqb-false best key e in lt-ltb key best (omega (arith, ne, ltb-false best key f))

  chosen : cond (ltb (place_tried w v) (place_tried w (i + 1))) (cond (eqb found 0) (i + 1) (cond (ltb (place_tried w found) (place_tried w (i + 1))) found (i + 1))) found
      ≡ cond (ltb key best && cond (eqb low key) (ltb v (i + 1)) (ltb low key)) (i + 1) found
  chosen = rw later_by_key (go (ltb (place_tried w v) (place_tried w (i + 1))) (eqb found 0) refl)
    where
      not_later : (b : Bool) → found ≡ cond (b && false) (i + 1) found
      not_later true = refl
      not_later false = refl

      either : (s : Bool) → cond s found (i + 1) ≡ cond (not s && true) (i + 1) found
      either true = refl
      either false = refl

      go : (t z : Bool) → eqb found 0 ≡ z → cond t (cond z (i + 1) (cond (ltb (place_tried w found) (place_tried w (i + 1))) found (i + 1))) found ≡ cond (ltb key best && t) (i + 1) found
      go false z e = not_later (ltb key best)
      go true true e = rw (lt-ltb key best (omega (arith, key-most, best-is.0 (eqb-true found 0 e))))
      go true false e = let ne : found ≢ 0 = eqb-false found 0 e in rw (before_by_key (omega (arith, ne))) (either (ltb (place_tried w found) (place_tried w (i + 1))))

  pub found-next : Earliest w v i found → Earliest w v (i + 1) (cond (ltb key best && cond (eqb low key) (ltb v (i + 1)) (ltb low key)) (i + 1) found)
  found-next q = subst (λ (x : ℕ). Earliest w v (i + 1) x) chosen (earliest_more w v i found q)
