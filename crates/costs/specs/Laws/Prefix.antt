-- The functions of a prefix (a list, last unit first) are specs/Bounds' functions of an array of values (first unit first):
-- `pre k l` is the prefix that the first k places of l are. By induction on k; the view's test on the units falls to one side.
-- Assumes nothing.
use Rattle.std.specs.Prelude.{◌≡◌, ℕ, zero, suc, ◌-◌, ◌<◌, ◌≤◌, Bool, true, false, ◌≢◌, List, [], ◌∷◌, length, ◌==◌, slice_index, slice_index_or, slice_set, refl, Some, None}
use Rattle.std.proofs.Common.{sym, ◌∙◌, subst, inl, inr, arith, get_or-set_same, get_or-set_other, lt-ltb, le-ltb, eqb-true}
use Rattle.std.proofs.Math.Path.{ap}
use Rattle.std.proofs.lemmas.Bool.{eqb-false}
use Rattle.costs.specs.Cost.{Cost, ◌⊕◌, sum_to, least, as_number}
use Rattle.costs.specs.Instance.{Instance, view_by}
use Rattle.costs.specs.declared.ValueOrder.{ValueOrder}
use Rattle.costs.specs.Bounds.{cost_with, h, estimate, Permitted, total, Reported}
use Rattle.costs.specs.Problem.{InDomains}
use Rattle.costs.specs.Cost.Laws.{add_assoc, add_zero, add_comm, sum_from_cong, sum_to_cong, least_cong, number_not_forbidden, sum_right, sum_number, sums_number, sums_part}
use Rattle.costs.specs.Laws.{against, cost_of, h_of, lookahead_of, estimate_of, problem_of}

-- ---- the first k places, the last first

abbrev pub pre : ℕ → List ℕ → List ℕ
pre zero l = []
pre (suc k) l = slice_index l k ∷ pre k l

pub length_pre : (k : ℕ) (l : List ℕ) → length (pre k l) ≡ k
length_pre zero l = refl
length_pre (suc k) l = ap suc (length_pre k l)

-- a place past them set
pub pre_set : (k j : ℕ) (l : List ℕ) (x : ℕ) → k ≤ j → pre k (slice_set l j x) ≡ pre k l
pre_set zero j l x h = refl
pre_set (suc k) j l x h =
    let a : slice_index_or (slice_set l j x) k 0 ≡ slice_index_or l k 0 = get_or-set_other l j k x 0 (omega arith) in
    let b : pre k (slice_set l j x) ≡ pre k l = pre_set k j l x (omega arith) in
    cc

-- the next place set
pub pre_set_next : (k : ℕ) (l : List ℕ) (x : ℕ) → k < length l → pre (suc k) (slice_set l k x) ≡ x ∷ pre k l
pre_set_next k l x h =
    let a : slice_index_or (slice_set l k x) k 0 ≡ x = get_or-set_same l k x 0 h in
    let b : pre k (slice_set l k x) ≡ pre k l = pre_set k k l x (omega arith) in
    cc

-- lists that agree on the first k places
pub pre_cong : (k : ℕ) (l m : List ℕ) → ((i : ℕ) → i < k → slice_index l i ≡ slice_index m i) → pre k l ≡ pre k m
pre_cong zero l m e = refl
pre_cong (suc k) l m e =
    let a : slice_index_or l k 0 ≡ slice_index_or m k 0 = e k (omega arith) in
    let b : pre k l ≡ pre k m = pre_cong k l m (λ i h. e i (omega arith)) in
    cc

-- ---- a unit's view of an instance

module _ (I : Instance) (k : ℕ) where
  -- against an array, unit by unit
  against_sum : (v m : ℕ) (l : List ℕ) → Some (I.unary k v) ⊕ sum_to (λ j. I.cost j (slice_index l j) k v) m ≡ against I k v (pre m l)
  against_sum v zero l = add_zero (Some (I.unary k v))
  against_sum v (suc m) l =
      rw (length_pre m l)
      (sym (add_assoc (Some (I.unary k v)) (sum_to (λ j. I.cost j (slice_index l j) k v) m) (I.cost m (slice_index l m) k v))
      ∙ ap (λ (x : Cost). x ⊕ I.cost m (slice_index l m) k v) (against_sum v m l) ∙ add_comm (against I k v (pre m l)) (I.cost m (slice_index l m) k v))

module _ (o : ValueOrder) (I : Instance) (k : ℕ) where
  -- the view's pair costs are the instance's
  pub pair_before : (j u v : ℕ) → j < k → (view_by o I k).pair j u v ≡ I.cost j u k v
  pair_before j u v l = simp (lt-ltb j k l)

  pub pair_after : (j u v : ℕ) → k < j → (view_by o I k).pair j u v ≡ I.cost k v j u
  pair_after j u v l = let q : k ≤ j = omega arith in simp (le-ltb j k q)

  pub cost_with_prefix : (values : List ℕ) (m v : ℕ) → m ≤ k → cost_with (view_by o I k) values m v ≡ against I k v (pre m values)
  unfolding cost_with
  cost_with_prefix values m v le =
      ap (λ (x : Cost). Some (I.unary k v) ⊕ x)
      (sum_to_cong (λ j. (view_by o I k).pair j (slice_index values j) v) (λ j. I.cost j (slice_index values j) k v) m (λ j l. pair_before j (slice_index values j) v (omega arith)))
      ∙ against_sum I k v m values

  pub h_of_view : (v : ℕ) → h (view_by o I k) v ≡ h_of I k v
  unfolding h
  h_of_view v =
      sum_from_cong (λ j. least (λ u. (view_by o I k).pair j u v) (I.dom j)) (λ j. least (λ u. I.cost k v j u) (I.dom j)) (suc k) (I.n - suc k)
      (λ j l m. least_cong (λ u. (view_by o I k).pair j u v) (λ u. I.cost k v j u) (I.dom j) (λ u. pair_after j u v l))

  pub estimate_prefix : (values : List ℕ) (m : ℕ) → m ≤ k → estimate (view_by o I k) values m ≡ estimate_of I k (pre m values)
  unfolding estimate
  estimate_prefix values m le =
      least_cong (λ v. cost_with (view_by o I k) values m v ⊕ h (view_by o I k) v) (λ v. against I k v (pre m values) ⊕ h_of I k v) (I.dom k)
      (λ v. rw (cost_with_prefix values m v le, h_of_view v))

  -- the cost and the lower bound of the prefix that value v makes of the first k values
  pub cost-next : (values : List ℕ) (v : ℕ) → cost_of I (pre k values) ⊕ cost_with (view_by o I k) values k v ≡ cost_of I (v ∷ pre k values)
  cost-next values v = rw (length_pre k values, cost_with_prefix values k v (omega arith))

  pub lookahead-next : (values : List ℕ) (v : ℕ) → cost_of I (pre k values) ⊕ cost_with (view_by o I k) values k v ⊕ h (view_by o I k) v ≡ lookahead_of I (v ∷ pre k values)
  lookahead-next values v = rw (length_pre k values, cost_with_prefix values k v (omega arith), h_of_view v)

-- ---- assignments

module _ (I : Instance) where
  sum_of_prefix : (k : ℕ) (l : List ℕ) → sum_to (λ j. Some (I.unary j (slice_index l j)) ⊕ sum_to (λ i. I.cost i (slice_index l i) j (slice_index l j)) j) k ≡ cost_of I (pre k l)
  sum_of_prefix zero l = refl
  sum_of_prefix (suc k) l = rw (length_pre k l, sum_of_prefix k l, against_sum I k (slice_index l k) k l)

  pub total_prefix : (l : List ℕ) → total I l ≡ cost_of I (pre I.n l)
  unfolding total
  total_prefix l = sum_of_prefix I.n l

  -- a total is a number just where no pair is forbidden
  pub permitted_total : (l : List ℕ) → Permitted I l → total I l ≢ None
  unfolding total
  permitted_total l p =
      sums_number (λ k. Some (I.unary k (slice_index l k)) ⊕ sum_to (λ i. I.cost i (slice_index l i) k (slice_index l k)) k) I.n
      (λ k b. sum_number (Some (I.unary k (slice_index l k))) (sum_to (λ i. I.cost i (slice_index l i) k (slice_index l k)) k) (number_not_forbidden (I.unary k (slice_index l k)))
      (sums_number (λ i. I.cost i (slice_index l i) k (slice_index l k)) k (λ i a. p i k a b)))

  pub total_permitted : (l : List ℕ) → total I l ≢ None → Permitted I l
  unfolding total
  total_permitted l t i j a b =
      sums_part (λ i. I.cost i (slice_index l i) j (slice_index l j)) j
      (sum_right (Some (I.unary j (slice_index l j))) (sum_to (λ i. I.cost i (slice_index l i) j (slice_index l j)) j)
      (sums_part (λ k. Some (I.unary k (slice_index l k)) ⊕ sum_to (λ i. I.cost i (slice_index l i) k (slice_index l k)) k) I.n t j b)) i a

  pub prefix_in_dom : (k : ℕ) (l : List ℕ) → ((i : ℕ) → i < k → (1 ≤ slice_index l i) × (slice_index l i ≤ I.dom i)) → InDomains (problem_of I) (pre k l)
  prefix_in_dom zero l a = tt
  prefix_in_dom (suc k) l a = ((a k (omega arith)).0, rw (length_pre k l) (a k (omega arith)).1, prefix_in_dom k l (λ i h. a i (omega arith)))

  pub in_dom_prefix : (k : ℕ) (l : List ℕ) → InDomains (problem_of I) (pre k l) → (i : ℕ) → i < k → (1 ≤ slice_index l i) × (slice_index l i ≤ I.dom i)
  in_dom_prefix zero l d i h = absurd (omega arith)
  in_dom_prefix (suc k) l d i h = go (i == k) refl (λ q. in_dom_prefix k l d.2 i q)
    where
      go : (t : Bool) → (i == k) ≡ t → (i < k → (1 ≤ slice_index l i) × (slice_index l i ≤ I.dom i)) → (1 ≤ slice_index l i) × (slice_index l i ≤ I.dom i)
      go true e ih = let q : slice_index_or l k 0 ≤ I.dom k = subst (λ m. slice_index l k ≤ I.dom m) (length_pre k l) d.1 in rw (eqb-true i k e) (d.0, q)
      go false e ih = let q : i ≡ k → ⊥ = eqb-false i k e in ih (omega arith)

-- what two reports share
pub reported_same : (I : Instance) (B C : ℕ) (l m : List ℕ) → Reported I B l → Reported I C m → B ≡ C
reported_same I B C l m (inl p) (inl q) = p.0 ∙ sym q.0
reported_same I B C l m (inl p) (inr q) = absurd (p.2 m q.0)
reported_same I B C l m (inr p) (inl q) = absurd (q.2 l p.0)
reported_same I B C l m (inr p) (inr q) = omega (arith, p.2 m q.0, q.2 l p.0, ap as_number p.1, ap as_number q.1)
