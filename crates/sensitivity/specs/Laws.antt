-- The least totals of two tables of one shape are as far apart as the sums of lowerings and raises allow, and where one cost alone changes, the new
-- least total lies between the ends that the call gives. Every assignment of the one is one of the other, and its two totals differ by at most the
-- sums, as it uses no cost twice; so do the least ones. Where one cost changes, the sums have one term.
-- These theorems are in proofs/Laws; what they go by is here.
-- In order: sums with one term; an assignment's two totals; the same assignments; the least totals; one cost.
-- Assumes nothing.
use Rattle.std.specs.Prelude.{ℕ, zero, suc, ◌+◌, ◌-◌, ◌≤◌, ◌<◌, ◌≡◌, refl, ◌≢◌, Bool, true, false, cond, ◌||◌, List, leb, eqb, get_or, Some, None}
use Rattle.std.proofs.Common.{sym, ap, ◌∙◌, subst, inl, inr, arith}
use borrow.Author.Tests.{le-leb, eqb-true, eqb-false}
use Rattle.base.specs.Limits.{NONE, pair_limit, total_limit}
use Rattle.base.specs.Sums as N
use Rattle.base.specs.Sums.Laws.{sum_from-part, sum_to_sum_from}
use Rattle.costs.specs.Cost.{Cost, ◌⊕◌, sum_to, as_number}
use Rattle.costs.specs.Cost.Laws.{◌⊑◌, le_refl, le_trans, add_mono, add_pairs, number_not_forbidden, number_eq, most_is}
use Rattle.costs.specs.Instance.{Instance}
use Rattle.costs.specs.Bounds.{Valued, Assignment, total, Reported}
use Rattle.costs.specs.Laws.{Sound}
use Rattle.costs.proofs.Laws.Prefix.{total_limit_lem}
use Rattle.sensitivity.specs.Ends.{WithinEnds}
use Rattle.sensitivity.specs.Changes.{Which, Unary, Pair, cost_at, There, SameShape, lowered_by, over_values, over_costs, lowerings, raises, OneCost}

-- ---- sums with one term

zero_sum : (f : ℕ → ℕ) (lo m : ℕ) → ((j : ℕ) → lo ≤ j → j < lo + m → f j ≡ 0) → N.sum_from f lo m ≡ 0
zero_sum f lo zero e = refl
zero_sum f lo (suc m) e = omega (arith, e lo (omega arith) (omega arith), zero_sum f (suc lo) m (λ j a b. e j (omega arith) (omega arith)))

-- only the term at p can be other than zero
one_term : (f : ℕ → ℕ) (p x lo m : ℕ) → ((j : ℕ) → lo ≤ j → j < lo + m → j ≢ p → f j ≡ 0) → (lo ≤ p → p < lo + m → f p ≤ x)
    → N.sum_from f lo m ≤ x
one_term f p x lo zero e h = omega arith
one_term f p x lo (suc m) e h = go (eqb lo p) refl (one_term f p x (suc lo) m (λ j a b. e j (omega arith) (omega arith)) (λ a b. h (omega arith) (omega arith)))
  where
    go : (t : Bool) → eqb lo p ≡ t → N.sum_from f (suc lo) m ≤ x → N.sum_from f lo (suc m) ≤ x
    go true q ih =
        let r : lo ≡ p = eqb-true lo p q in
        let a : f lo ≤ x = subst (λ j. f j ≤ x) (sym r) (h (omega arith) (omega arith)) in
        omega (arith, a, zero_sum f (suc lo) m (λ j a b. e j (omega arith) (omega arith) (λ z. omega arith)))
    go false q ih = let r : lo ≢ p = eqb-false lo p q in omega (arith, e lo (omega arith) (omega arith) r)

-- the same of a sum from 0 on
zero_to : (f : ℕ → ℕ) (m : ℕ) → ((j : ℕ) → j < m → f j ≡ 0) → N.sum_to f m ≡ 0
zero_to f m e = sum_to_sum_from f m ∙ zero_sum f 0 m (λ j a b. e j (omega arith))

one_term_to : (f : ℕ → ℕ) (p x m : ℕ) → ((j : ℕ) → j < m → j ≢ p → f j ≡ 0) → (p < m → f p ≤ x) → N.sum_to f m ≤ x
one_term_to f p x m e h = rw (sum_to_sum_from f m) (one_term f p x 0 m (λ j a b. e j (omega arith)) (λ a b. h (omega arith)))

-- ---- costs told apart by their parts

abbrev last_unit : Which → ℕ
last_unit (Unary k v) = k
last_unit (Pair i u j v) = j

abbrev last_value : Which → ℕ
last_value (Unary k v) = v
last_value (Pair i u j v) = v

abbrev first_unit : Which → ℕ
first_unit (Unary k v) = 0
first_unit (Pair i u j v) = i

abbrev first_value : Which → ℕ
first_value (Unary k v) = 0
first_value (Pair i u j v) = u

abbrev IsPair : Which → Type 0
IsPair (Unary k v) = ⊥
IsPair (Pair i u j v) = Unit {0}

-- ---- the sum over all costs, where only one is other than zero

module _ (I : Instance) (f : Which → ℕ) where
  -- the costs of value v of unit j with all values of the units before
  abbrev backward : ℕ → ℕ → ℕ
  backward j v = N.sum_to (λ i. over_values (λ u. f (Pair i u j v)) (I.dom i)) j

  module _ (w : Which) (zero-else : (x : Which) → There I x → x ≢ w → f x ≡ 0) where
    backward_zero : (j v : ℕ) → j < I.n → 1 ≤ v → v ≤ I.dom j → ((i u : ℕ) → Pair i u j v ≢ w) → backward j v ≡ 0
    backward_zero j v hj v1 vd ne =
        zero_to (λ i. over_values (λ u. f (Pair i u j v)) (I.dom i)) j
        (λ i hi. zero_sum (λ u. f (Pair i u j v)) 1 (I.dom i) (λ u u1 ud. zero-else (Pair i u j v) (hi, hj, u1, omega arith, v1, vd) (ne i u)))

    value_zero : (j v : ℕ) → j < I.n → 1 ≤ v → v ≤ I.dom j → Unary j v ≢ w → ((i u : ℕ) → Pair i u j v ≢ w) → f (Unary j v) + backward j v ≡ 0
    value_zero j v hj v1 vd alone ne = omega (arith, zero-else (Unary j v) (hj, v1, vd) alone, backward_zero j v hj v1 vd ne)

    -- only those of unit j's value v: what these come to is all
    at_value : (j v z : ℕ) → ((x : Which) → x ≡ w → (last_unit x ≡ j) × (last_value x ≡ v)) → (j < I.n → 1 ≤ v → v ≤ I.dom j → f (Unary j v) + backward j v ≤ z) → over_costs I f ≤ z
    at_value j v z last h =
        one_term_to (λ k. over_values (λ x. f (Unary k x) + backward k x) (I.dom k)) j z I.n
        (λ k hk ne. zero_sum (λ x. f (Unary k x) + backward k x) 1 (I.dom k)
        (λ x a b. value_zero k x hk a (omega arith) (λ e. ne (last (Unary k x) e).0) (λ i u e. ne (last (Pair i u k x) e).0)))
        (λ hj. one_term (λ x. f (Unary j x) + backward j x) v z 1 (I.dom j)
        (λ x a b ne. value_zero j x hj a (omega arith) (λ e. ne (last (Unary j x) e).1) (λ i u e. ne (last (Pair i u j x) e).1))
        (λ a b. h hj a (omega arith)))

  one_cost_sum : (w : Which) → ((x : Which) → There I x → x ≢ w → f x ≡ 0) → over_costs I f ≤ f w
  one_cost_sum (Unary k v) zero-else =
      at_value (Unary k v) zero-else k v (f (Unary k v)) (λ x e. (ap last_unit e, ap last_value e))
      (λ hk v1 vd. omega (arith, backward_zero (Unary k v) zero-else k v hk v1 vd (λ i u e. subst IsPair e tt)))
  one_cost_sum (Pair i u j v) zero-else =
      at_value (Pair i u j v) zero-else j v (f (Pair i u j v)) (λ x e. (ap last_unit e, ap last_value e))
      (λ hj v1 vd. omega (
        arith,
        zero-else (Unary j v) (hj, v1, vd) (λ e. subst IsPair (sym e) tt),
        one_term_to (λ a. over_values (λ b. f (Pair a b j v)) (I.dom a)) i (f (Pair i u j v)) j
            (λ a ha ne. zero_sum (λ b. f (Pair a b j v)) 1 (I.dom a) (λ b b1 bd. zero-else (Pair a b j v) (ha, hj, b1, omega arith, v1, vd) (λ e. ne (ap first_unit e))))
            (λ hi. one_term (λ b. f (Pair i b j v)) u (f (Pair i u j v)) 1 (I.dom i)
            (λ b b1 bd ne. zero-else (Pair i b j v) (hi, hj, b1, omega arith, v1, vd) (λ e. ne (ap first_value e)))
            (λ a b. omega arith)),
      ))

-- ---- an assignment's two totals

-- c is at most d and a number more: with a larger number, and of sums
plus_more : (c d : Cost) (a b : ℕ) → a ≤ b → c ⊑ d ⊕ Some a → c ⊑ d ⊕ Some b
plus_more c d a b h p = le_trans c (d ⊕ Some a) (d ⊕ Some b) p (add_mono d (Some a) d (Some b) (le_refl d) h)

both_plus : (a b c d : Cost) (x y : ℕ) → a ⊑ c ⊕ Some x → b ⊑ d ⊕ Some y → a ⊕ b ⊑ c ⊕ d ⊕ Some (x + y)
both_plus a b c d x y p q = subst (λ (z : Cost). a ⊕ b ⊑ z) (add_pairs c (Some x) d (Some y)) (add_mono a b (c ⊕ Some x) (d ⊕ Some y) p q)

sums_plus : (f g : ℕ → Cost) (e : ℕ → ℕ) (m : ℕ) → ((j : ℕ) → j < m → f j ⊑ g j ⊕ Some (e j)) → sum_to f m ⊑ sum_to g m ⊕ Some (N.sum_to e m)
sums_plus f g e zero h = omega arith
sums_plus f g e (suc m) h = both_plus (sum_to f m) (f m) (sum_to g m) (g m) (N.sum_to e m) (e m) (sums_plus f g e m (λ j l. h j (omega arith))) (h m (omega arith))

-- the total, by its costs
abbrev total_by : (Which → Cost) → ℕ → List ℕ → Cost
total_by c n l = sum_to (λ k. c (Unary k (get_or l k 0)) ⊕ sum_to (λ i. c (Pair i (get_or l i 0) k (get_or l k 0))) k) n

total_by_lem : (I : Instance) (l : List ℕ) → total I l ≡ total_by (cost_at I) I.n l
unfolding total
total_by_lem I l = refl

-- where each cost c of a table is at most the cost d and some number f more, so is the total, with the sum of these
module _ (I : Instance) (c d : Which → Cost) (f : Which → ℕ) (near : (w : Which) → There I w → c w ⊑ d w ⊕ Some (f w)) (l : List ℕ) (valued : Valued I l) where
  pair_near : (i k : ℕ) → i < k → k < I.n → c (Pair i (get_or l i 0) k (get_or l k 0)) ⊑ d (Pair i (get_or l i 0) k (get_or l k 0)) ⊕ Some (over_values (λ u. f (Pair i u k (get_or l k 0))) (I.dom i))
  pair_near i k h hk =
      let u : ℕ = get_or l i 0 in
      let v : ℕ = get_or l k 0 in
      let hu = valued i (omega arith) in
      let hv = valued k hk in
      plus_more (c (Pair i u k v)) (d (Pair i u k v)) (f (Pair i u k v)) _ (sum_from-part (λ x. f (Pair i x k v)) 1 (I.dom i) u hu.0 (omega (arith, hu.1)))
      (near (Pair i u k v) (h, hk, hu.0, hu.1, hv.0, hv.1))

  unit_near : (k : ℕ) → k < I.n
      → c (Unary k (get_or l k 0)) ⊕ sum_to (λ i. c (Pair i (get_or l i 0) k (get_or l k 0))) k
      ⊑ d (Unary k (get_or l k 0)) ⊕ sum_to (λ i. d (Pair i (get_or l i 0) k (get_or l k 0))) k ⊕ Some (over_values (λ v. f (Unary k v) + backward I f k v) (I.dom k))
  unit_near k h =
      let v : ℕ = get_or l k 0 in
      let hv = valued k h in
      let cs : Cost = sum_to (λ i. c (Pair i (get_or l i 0) k v)) k in
      let ds : Cost = sum_to (λ i. d (Pair i (get_or l i 0) k v)) k in
      plus_more (c (Unary k v) ⊕ cs) (d (Unary k v) ⊕ ds) (f (Unary k v) + backward I f k v) _ (sum_from-part (λ x. f (Unary k x) + backward I f k x) 1 (I.dom k) v hv.0 (omega (arith, hv.1)))
      (both_plus (c (Unary k v)) cs (d (Unary k v)) ds (f (Unary k v)) (backward I f k v) (near (Unary k v) (h, hv.0, hv.1))
      (sums_plus (λ i. c (Pair i (get_or l i 0) k v)) (λ i. d (Pair i (get_or l i 0) k v)) (λ i. over_values (λ u. f (Pair i u k v)) (I.dom i)) k (λ i q. pair_near i k q h)))

  total_near : total_by c I.n l ⊑ total_by d I.n l ⊕ Some (over_costs I f)
  total_near =
      sums_plus (λ k. c (Unary k (get_or l k 0)) ⊕ sum_to (λ i. c (Pair i (get_or l i 0) k (get_or l k 0))) k)
      (λ k. d (Unary k (get_or l k 0)) ⊕ sum_to (λ i. d (Pair i (get_or l i 0) k (get_or l k 0))) k)
      (λ k. over_values (λ v. f (Unary k v) + backward I f k v) (I.dom k)) I.n unit_near

-- a cost is at most another one, and by how much that was lowered more
near_lowered : (c d : Cost) → (c ≡ None → d ≡ None) → c ⊑ d ⊕ Some (lowered_by c d)
near_lowered (Some x) (Some y) h = omega arith
near_lowered (Some x) None h = tt
near_lowered None (Some y) h = absurd (number_not_forbidden y (h refl))
near_lowered None None h = tt

-- ---- the same assignments

module _ (I J : Instance) (same : SameShape I J) where
  there_back : (w : Which) → There J w → There I w
  there_back (Unary k v) h = let k' : k < I.n = omega (arith, h.0, same.units) in (k', h.1, omega (arith, h.2, same.sizes k k'))
  there_back (Pair i u j v) h =
      let j' : j < I.n = omega (arith, h.1, same.units) in
      let i' : i < I.n = omega (arith, h.0) in
      (h.0, j', h.2, omega (arith, h.3, same.sizes i i'), h.4, omega (arith, h.5, same.sizes j j'))

  pub same_back : SameShape J I
  same_back =
      record {
        units = sym same.units;
        sizes = λ k h. sym (same.sizes k (omega (arith, same.units)));
        forbidden = λ w h. same.only_forbidden w (there_back w h);
        only_forbidden = λ w h. same.forbidden w (there_back w h);
      }

  -- an assignment of the one is one of the other
  pub same_assignments : (l : List ℕ) → Assignment I l → Assignment J l
  same_assignments l a = (valued, permitted)
    where
      valued : Valued J l
      valued k h = let k' : k < I.n = omega (arith, same.units) in ((a.0 k k').0, omega (arith, (a.0 k k').1, same.sizes k k'))

      permitted : (i j : ℕ) → i < j → j < J.n → J.cost i (get_or l i 0) j (get_or l j 0) ≢ None
      permitted i j h hj e =
          let j' : j < I.n = omega (arith, same.units) in
          let i' : i < I.n = omega arith in
          a.1 i j h j' (same.only_forbidden (Pair i (get_or l i 0) j (get_or l j 0)) (h, j', (a.0 i i').0, (a.0 i i').1, (a.0 j j').0, (a.0 j j').1) e)

  total_second : (l : List ℕ) → total J l ≡ total_by (cost_at J) I.n l
  total_second l = total_by_lem J l ∙ ap (λ (n : ℕ). total_by (cost_at J) n l) same.units

  pub raised-total : (l : List ℕ) → Valued I l → total J l ⊑ total I l ⊕ Some (raises I J)
  raised-total l h =
      rw (total_second l, total_by_lem I l)
      (total_near I (cost_at J) (cost_at I) (λ w. lowered_by (cost_at J w) (cost_at I w)) (λ w q. near_lowered (cost_at J w) (cost_at I w) (same.only_forbidden w q)) l h)

  pub lowered-total : (l : List ℕ) → Valued I l → total I l ⊑ total J l ⊕ Some (lowerings I J)
  lowered-total l h =
      rw (total_second l, total_by_lem I l)
      (total_near I (cost_at I) (cost_at J) (λ w. lowered_by (cost_at I w) (cost_at J w)) (λ w q. near_lowered (cost_at I w) (cost_at J w) (same.forbidden w q)) l h)

-- ---- the least totals

-- the least is at most what any assignment has
pub reach : (B x : ℕ) (c : Cost) → B ≤ as_number c → c ⊑ Some x → B ≤ x
reach B x (Some n) h p = omega arith
reach B x None h p = absurd p

-- retests one after the other: what is between one pair of ends, and then between another
pub one_after_another : (t t' t'' down up down' up' : ℕ) → WithinEnds t down up t' → WithinEnds t' down' up' t'' → WithinEnds t (down + down') (up + up') t''
one_after_another t t' t'' down up down' up' p q = go (eqb t NONE) (eqb t' NONE) refl refl p q
  where
    go : (r r' : Bool) → eqb t NONE ≡ r → eqb t' NONE ≡ r' → (cond r NONE (t - down) ≤ t') × (t' ≤ cond r NONE (t + up)) → (cond r' NONE (t' - down') ≤ t'') × (t'' ≤ cond r' NONE (t' + up'))
        → (cond r NONE (t - (down + down')) ≤ t'') × (t'' ≤ cond r NONE (t + (up + up')))
    go true true e e' p q = q
    go true false e e' p q = absurd (eqb-false t' NONE e' (omega (arith, p.0, p.1)))
    go false true e e' p q = let x : t' ≡ NONE = eqb-true t' NONE e' in (omega (arith, p.0, q.0), omega (arith, p.1, q.1))
    go false false e e' p q = (omega (arith, p.0, q.0), omega (arith, p.1, q.1))

-- ---- one cost

-- larger sums leave more between the ends
pub more_within : (t t' down down' up up' : ℕ) → down ≤ down' → up ≤ up' → WithinEnds t down up t' → WithinEnds t down' up' t'
more_within t t' down down' up up' d u p = go (eqb t NONE) p
  where
    go : (r : Bool) → (cond r NONE (t - down) ≤ t') × (t' ≤ cond r NONE (t + up)) → (cond r NONE (t - down') ≤ t') × (t' ≤ cond r NONE (t + up'))
    go true p = p
    go false p = (omega (arith, p.0), omega (arith, p.1))

same_lowers_none : (c d : Cost) → c ≡ d → lowered_by c d ≡ 0
same_lowers_none c d e = rw (← e) (go c)
  where
    go : (c : Cost) → lowered_by c c ≡ 0
    go (Some n) = omega arith
    go None = refl

module _ (I J : Instance) (w : Which) (old new : ℕ) (one : OneCost I J w old new) where
  -- a cost that is forbidden in one of the two is not the one
  pub one_shape : SameShape I J
  one_shape =
      record {
        units = one.units;
        sizes = one.sizes;
        forbidden = λ x h e. one.others x h (λ z. number_not_forbidden old (sym one.was ∙ ap (cost_at I) (sym z) ∙ e)) ∙ e;
        only_forbidden = λ x h e. sym (one.others x h (λ z. number_not_forbidden new (sym one.becomes ∙ ap (cost_at J) (sym z) ∙ e))) ∙ e;
      }

  -- the sums are that change
  pub one_lowering : lowerings I J ≤ old - new
  one_lowering =
      let f : Which → ℕ = λ x. lowered_by (cost_at I x) (cost_at J x) in
      let e : f w ≡ old - new = rw (one.was, one.becomes) in
      omega (arith, e, one_cost_sum I f w (λ x h ne. same_lowers_none (cost_at I x) (cost_at J x) (sym (one.others x h ne))))

  pub one_raise : raises I J ≤ new - old
  one_raise =
      let f : Which → ℕ = λ x. lowered_by (cost_at J x) (cost_at I x) in
      let e : f w ≡ new - old = rw (one.was, one.becomes) in
      omega (arith, e, one_cost_sum I f w (λ x h ne. same_lowers_none (cost_at J x) (cost_at I x) (one.others x h ne)))

-- a cost of a table, as the call takes it
pub cost_limit : (I : Instance) → Sound I → (w : Which) (x : ℕ) → cost_at I w ≡ Some x → x ≤ pair_limit
cost_limit I s (Unary k v) x e = omega (arith, s.unary_small k v, number_eq (I.unary k v) x e)
cost_limit I s (Pair i u j v) x e = most_is pair_limit x (I.cost i u j v) e (s.small i u j v)

-- none, or within the limit
pub total-given : (I : Instance) → Sound I → (t : ℕ) (l : List ℕ) → Reported I t l → (leb t total_limit || eqb t NONE) ≡ true
total-given I s t l (inl p) = rw p.0
total-given I s t l (inr p) = rw (le-leb t total_limit (most_is total_limit t (total I l) p.1 (total_limit_lem I s l)))
