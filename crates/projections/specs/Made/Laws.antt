-- The costs held of an accepted table: each is the table's, so every assignment totals the same by them; and the floor that projecting everything once
-- leaves is a lower bound of the least total. Assumes nothing.
use Prim.Native.Nat.{ℕ, ◌+◌, ◌≤◌, ◌<◌}
use Rattle.std.proofs.Common.{inl, inr, sym, ◌∙◌, arith}
use Rattle.std.specs.Prelude.{◌≡◌, Bool, List, [], ◌∷◌, ◌++◌, length, Some, None}
use Rattle.std.proofs.Math.Path.{refl, ap, subst}
use Rattle.std.proofs.Math.Bool.{true, false, cond}
use Rattle.std.proofs.Math.ListN.{get_or, length-append, get_or-append}
use Rattle.std.proofs.Math.Seq.{get_or-append-add}
use borrow.Author.Tests.{lt-ltb}
use Rattle.base.specs.Limits.{pair_limit}
use Rattle.base.specs.Join.Laws.{length_join, join_at}
use Rattle.base.specs.Shape.Laws.{range_value}
use Rattle.base.specs.Sums.{sum_to}
use Rattle.base.specs.Sums.Laws.{sum_to_same}
use Rattle.table.specs.Stream.{in_form_two, units_of, sizes_of, pairs_in, Accepted}
use Rattle.table.specs.StreamLaws.{accepted_units, accepted-cost}
use Rattle.costs.specs.declared.ValueOrder.{ValueOrder}
use Rattle.costs.specs.Cost.{Cost, ◌⊕◌, sum_to as sumCosts, as_number, pair_cost}
use Rattle.costs.specs.Cost.Laws.{AtMost, sum_to_cong, good_cost, zero_add, number_not_forbidden}
use Rattle.costs.specs.Instance.{Instance, instance_of, cost_number, dom_of, dom_in, pair_start, in_pair, table_unary}
use Rattle.costs.specs.Bounds.{Valued, total, Reported}
use Rattle.costs.specs.Least.{LeastFirst}
use Rattle.costs.specs.Gather.{sizes_in}
use Rattle.costs.specs.Gather.Sizes.{dom_same}
use Rattle.costs.specs.Laws.Stream.{unaries_from, costs_of, row_start, cost_number_at, accepted-there, pair_costs_lem, in_pair_lt, costs_in_stream}
use Rattle.projections.specs.Held.{own_at, pair_at, cost_count, barred, held_cost, instance_by, instance_in}
use Rattle.projections.specs.Held.Laws.{InDom, own_inside}
use Rattle.projections.specs.Moves.{held_by}
use Rattle.projections.specs.Moves.Worth.{Kept}
use Rattle.projections.specs.All.Laws.{project_all_keeps}
use Rattle.projections.specs.Made.{numbers, own_number, pair_number, held_of, projected_of}

-- ---- numbers one by one

pub numbers_length : (f : ℕ → ℕ) (m : ℕ) → length (numbers f m) ≡ m
numbers_length f m = length_join (λ k. f k ∷ []) (λ k. 1) (λ k. refl) m ∙ sum_to_same 1 m ∙ omega arith

numbers_at : (f : ℕ → ℕ) (m k : ℕ) → k < m → get_or (numbers f m) k 0 ≡ f k
numbers_at f m k h =
    let e : k ≡ sum_to (λ j. 1) k + 0 = omega (arith, sum_to_same 1 k) in
    ap (λ (p : ℕ). get_or (numbers f m) p 0) e ∙ join_at (λ j. f j ∷ []) (λ j. 1) (λ j. refl) m k 0 h (omega arith)

-- ---- where each stands

module _ (s : List ℕ) where
  abbrev dom : ℕ → ℕ
  dom = dom_of s

  abbrev n : ℕ
  n = units_of s

  abbrev own : List ℕ
  own = numbers (own_number s) (sum_to dom n)

  abbrev pairs : List ℕ
  pairs = numbers (pair_number s) (row_start dom n n)

  pub held-count : length (held_of s) ≡ cost_count dom n
  unfolding held_of
  held-count = omega (arith, length-append own pairs, numbers_length (own_number s) (sum_to dom n), numbers_length (pair_number s) (row_start dom n n))

  pub own_held : (k : ℕ) → k < sum_to dom n → get_or (held_of s) k 0 ≡ own_number s k
  unfolding held_of
  own_held k h = get_or-append own pairs 0 k (omega (arith, numbers_length (own_number s) (sum_to dom n))) ∙ numbers_at (own_number s) (sum_to dom n) k h

  pub pair_held : (k : ℕ) → k < row_start dom n n → get_or (held_of s) (sum_to dom n + k) 0 ≡ pair_number s k
  unfolding held_of
  pair_held k h =
      ap (λ (p : ℕ). get_or (own ++ pairs) (p + k) 0) (sym (numbers_length (own_number s) (sum_to dom n)))
      ∙ get_or-append-add own pairs k 0 ∙ numbers_at (pair_number s) (row_start dom n n) k h

-- ---- each is the table's

-- a cost that passes check 7, as a number of 32 bits
held_pair : (x : ℕ) → AtMost pair_limit (pair_cost x) → held_cost (as_number (pair_cost x)) ≡ pair_cost x
held_pair x h = go (pair_cost x) h
  where
    go : (c : Cost) → AtMost pair_limit c → held_cost (as_number c) ≡ c
    go (Some a) m = rw (lt-ltb a barred (omega arith))
    go None m = refl

module _ (s : List ℕ) (ok : Accepted s) where
  unary_held : (k v : ℕ) → k < units_of s → InDom (dom_of s k) v → get_or (held_of s) (own_at (dom_of s) k v) 0 ≡ (instance_of s).unary k v
  unfolding instance_of
  unary_held k v h r = own_held s (own_at (dom_of s) k v) (own_inside (dom_of s) (units_of s) k v h r) ∙ go (in_form_two s)
    where
      go : (t : Bool) → cond t (cost_number (unaries_from s) (own_at (dom_of s) k v)) 0 ≡ cond t (table_unary (dom_of s) (unaries_from s) k v) 0
      go true = rw (range_value (dom_of s k) v r.0 r.1)
      go false = refl

  cost-held : (i u j v : ℕ) → i < j → j < units_of s → InDom (dom_of s i) u → InDom (dom_of s j) v
      → held_cost (get_or (held_of s) (pair_at (dom_of s) (units_of s) i u j v) 0) ≡ (instance_of s).cost i u j v
  unfolding instance_of
  cost-held i u j v h m r q =
      let k : ℕ = pair_start (dom_of s) (units_of s) i j + in_pair (dom_of s j) u v in
      let x : ℕ = cost_number (costs_of s) k in
      let inside : k < pairs_in (sizes_of s) = omega (arith, pair_costs_lem s (accepted-there s ok) i j h m, in_pair_lt (dom_of s i) (dom_of s j) u v r.0 r.1 q.0 q.1) in
      let there : k < row_start (dom_of s) (units_of s) (units_of s) = rw (costs_in_stream s (accepted-there s ok)) inside in
      let good : AtMost pair_limit (pair_cost x) = good_cost x (rw (cost_number_at s k) (accepted-cost s ok k inside)) in
      ap held_cost (pair_held s k there) ∙ held_pair x good
      ∙ rw (lt-ltb i j h, lt-ltb j (units_of s) m, range_value (dom_of s i) u r.0 r.1, range_value (dom_of s j) v q.0 q.1)

-- instances that agree on an assignment's terms
totals_same : (I J : Instance) (l : List ℕ) → I.n ≡ J.n → ((k : ℕ) → k < I.n → I.unary k (get_or l k 0) ≡ J.unary k (get_or l k 0))
    → ((i k : ℕ) → i < k → k < I.n → I.cost i (get_or l i 0) k (get_or l k 0) ≡ J.cost i (get_or l i 0) k (get_or l k 0)) → total I l ≡ total J l
unfolding total
totals_same I J l e own pair =
    rw (← e)
    (sum_to_cong (λ k. Some (I.unary k (get_or l k 0)) ⊕ sumCosts (λ i. I.cost i (get_or l i 0) k (get_or l k 0)) k) (λ k. Some (J.unary k (get_or l k 0)) ⊕ sumCosts (λ i. J.cost i (get_or l i 0) k (get_or l k 0)) k) I.n
    (λ k h. rw (own k h, sum_to_cong (λ i. I.cost i (get_or l i 0) k (get_or l k 0)) (λ i. J.cost i (get_or l i 0) k (get_or l k 0)) k (λ i a. pair i k a h))))

module _ (s : List ℕ) (ok : Accepted s) where
  pub same_dom : dom_in (units_of s) (sizes_in s) ≡ dom_of s
  same_dom = dom_same s refl refl (accepted_units s ok).1

  -- every assignment totals what it does in the table
  pub held-total : (l : List ℕ) → Valued (instance_of s) l → total (instance_in (units_of s) (sizes_in s) (held_of s)) l ≡ total (instance_of s) l
  unfolding instance_of
  held-total l valued =
      ap (λ (d : ℕ → ℕ). total (instance_by d (units_of s) (held_of s)) l) same_dom
      ∙ totals_same (instance_by (dom_of s) (units_of s) (held_of s)) (instance_of s) l refl (λ k h. unary_held s ok k (get_or l k 0) h (valued k h))
      (λ i k a h. cost-held s ok i (get_or l i 0) k (get_or l k 0) a h (valued i (omega arith)) (valued k h))

-- ---- the floor

-- what projecting everything once leaves
abbrev pub floor_of : List ℕ → ℕ
floor_of s = (projected_of s).held.floor

part_le : (F t : ℕ) (c : Cost) → Some F ⊕ c ≡ Some t → F ≤ t
part_le F t (Some x) e = omega (arith, ap as_number e)
part_le F t None e = absurd (number_not_forbidden t (sym e))

module _ (s : List ℕ) (ok : Accepted s) where
  kept : Kept (units_of s) (sizes_in s) (held_by 0 (held_of s)) (projected_of s).held
  kept = project_all_keeps (units_of s) (sizes_in s) (held_by 0 (held_of s))

  -- it is at most the total of any assignment
  floor_below : (l : List ℕ) (t : ℕ) → Valued (instance_of s) l → total (instance_of s) l ≡ Some t → floor_of s ≤ t
  unfolding instance_of
  floor_below l t valued e =
      let v : Valued (instance_in (units_of s) (sizes_in s) (held_of s)) l = λ k h.
      subst (λ (d : ℕ → ℕ). (1 ≤ get_or l k 0) × (get_or l k 0 ≤ d k)) (sym (same_dom s ok)) (valued k h) in
      part_le (floor_of s) t (total (instance_in (units_of s) (sizes_in s) (projected_of s).held.costs) l)
      (kept.same l v ∙ zero_add (total (instance_in (units_of s) (sizes_in s) (held_of s)) l) ∙ held-total s ok l valued ∙ e)

  -- so of the least total, none where there is none
  pub floor_bounds : (order : ValueOrder) (t : ℕ) (l : List ℕ) → LeastFirst order (instance_of s) t l → floor_of s ≤ t
  floor_bounds order t l least = go least.reported
    where
      go : Reported (instance_of s) t l → floor_of s ≤ t
      go (inl p) = omega (arith, p.0, kept.small (omega arith))
      go (inr p) = floor_below l t p.0.0 p.1
