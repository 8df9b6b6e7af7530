-- The instance of an accepted stream is sound. How many costs stand before a unit's, or a pair's, is counted unit by unit, as the stream's
-- length is, so each cost of a value, or of a pair of values, is one of the stream's, and those that are numbers are within the limit.
-- Assumes nothing.
use Rattle.std.specs.Prelude.{◌≡◌, ℕ, suc, ◌+◌, ◌-◌, ◌*◌, ◌<◌, ◌≤◌, Bool, true, false, cond, ◌&&◌, List, [], ◌∷◌, length, drop, nat_lt, slice_index, slice_index_or, Some}
use Rattle.std.proofs.Math.Path.{refl, ap}
use Rattle.std.proofs.Common.{◌∙◌, subst, mul-le-mul, mul-add, le_refl, zero-add, length-drop, get_or-drop, get_or-take, length-take-le, ltb-true, ltb-false}
use Rattle.std.proofs.lemmas.Bool.{false≢true}
use native.Mathlib.Omega.{arith}
use Rattle.base.specs.Limits.{pair_limit, unary_limit}
use Rattle.base.specs.Bytes.{u16_at}
use Rattle.base.specs.Sums.{sum_from, sum_to}
use Rattle.table.specs.Stream.{in_form_two, units_of, after_units, sizes_of, sum_list, pairs_in, unaries_at, pairs_at, needed, Accepted}
use Rattle.table.specs.StreamLaws.{unaries_two, stream_unary, stream_cost, accepted_units, accepted_size, accepted_length, accepted_unary, accepted-cost}
use Rattle.base.specs.Shape.{is_value}
use Rattle.base.specs.Shape.Laws.{value_range}
use Rattle.costs.specs.Cost.{pair_cost}
use Rattle.costs.specs.Cost.Laws.{AtMost, good_cost}
use Rattle.costs.specs.Instance.{pair_start, in_pair, cost_number, table_cost, table_unary, unary_of, instance_of, dom_of}
use Rattle.base.specs.Sums.Laws.{sum_to_mono, sum_to_sum_from, sum_from-last, sum_from_split}
use Rattle.costs.specs.Lent.Steps.{dom_past_count}
use Rattle.costs.specs.Laws.{Sound}

-- the unary costs of a stream of form two, and its pair costs
abbrev pub unaries_from : List ℕ → List ℕ
unaries_from s = drop (unaries_at s) s

abbrev pub costs_of : List ℕ → List ℕ
costs_of s = drop (pairs_at s) s

-- how many costs a table has before those of the pairs of unit i
abbrev pub row_start : (ℕ → ℕ) → ℕ → ℕ → ℕ
row_start dom n i = sum_to (λ a. dom a * sum_from dom (suc a) (n - suc a)) i

-- ---- a cost's place

-- among the costs of its pair
pub in_pair_lt : (c d u v : ℕ) → 1 ≤ u → u ≤ c → 1 ≤ v → v ≤ d → in_pair d u v < c * d
in_pair_lt c d u v u1 uc v1 vd =
    let w : suc (u - 1) ≤ c = omega arith in
    omega (arith, mul-le-mul w (le_refl d))

module _ (dom : ℕ → ℕ) (n i j : ℕ) (lt : i < j) (in-n : j < n) where
  sizes_to : sum_from dom (suc i) (j - suc i) + dom j ≤ sum_from dom (suc i) (n - suc i)
  sizes_to =
      let e : n - suc i ≡ suc (j - suc i) + (n - suc j) = omega arith in
      let q : dom (suc i + (j - suc i)) ≡ dom j = ap dom (omega arith) in
      rw e (omega (arith, sum_from_split dom (suc i) (suc (j - suc i)) (n - suc j), sum_from-last dom (suc i) (j - suc i)))

  -- the costs of the pair (i, j) end within those of unit i
  pub pair_end : pair_start dom n i j + dom i * dom j ≤ row_start dom n (suc i)
  pair_end = omega (arith, mul-le-mul (le_refl (dom i)) sizes_to, mul-add (dom i) (sum_from dom (suc i) (j - suc i)) (dom j))

  -- and these within all costs
  pub pair_inside : pair_start dom n i j + dom i * dom j ≤ row_start dom n n
  pair_inside = omega (arith, pair_end, sum_to_mono (λ a. dom a * sum_from dom (suc a) (n - suc a)) (suc i) n (omega arith))

-- ---- how many costs there are

module _ (f : ℕ → ℕ) where
  sum_of_list : (l : List ℕ) (lo : ℕ) → ((k : ℕ) → k < length l → f (lo + k) ≡ slice_index l k) → sum_from f lo (length l) ≡ sum_list l
  unfolding sum_list
  sum_of_list [] lo e = refl
  sum_of_list (x ∷ l) lo e =
      let a : f lo ≡ x = ap f (omega arith) ∙ e 0 (omega arith) in
      omega (arith, a, sum_of_list l (suc lo) (λ k h. ap f (omega arith) ∙ e (suc k) (omega arith)))

  pairs_of_list : (l : List ℕ) (lo n : ℕ) → n ≡ lo + length l → ((k : ℕ) → k < length l → f (lo + k) ≡ slice_index l k)
      → sum_from (λ a. f a * sum_from f (suc a) (n - suc a)) lo (length l) ≡ pairs_in l
  unfolding pairs_in
  pairs_of_list [] lo n q e = refl
  pairs_of_list (x ∷ l) lo n q e =
      let a : f lo ≡ x = ap f (omega arith) ∙ e 0 (omega arith) in
      let more : (k : ℕ) → k < length l → f (suc lo + k) ≡ slice_index_or l k 0 = λ k h. ap f (omega arith) ∙ e (suc k) (omega arith) in
      let r : n - suc lo ≡ length l = omega arith in
      rw (r, a, sum_of_list l (suc lo) more, pairs_of_list l (suc lo) n (omega arith) more)

-- as many as table counts
pub sizes_sum : (l : List ℕ) → sum_to (λ k. slice_index l k) (length l) ≡ sum_list l
sizes_sum l = sum_to_sum_from _ (length l) ∙ sum_of_list (λ k. slice_index l k) l 0 (λ k h. rw (zero-add k) refl)

pub costs_count : (l : List ℕ) → row_start (λ k. slice_index l k) (length l) (length l) ≡ pairs_in l
costs_count l = sum_to_sum_from _ (length l) ∙ pairs_of_list (λ k. slice_index l k) l 0 (length l) (omega arith) (λ k h. rw (zero-add k) refl)

-- ---- tests taken apart

pub all_four : (a b c d : Bool) → (a && b && c && d) ≡ true → (a ≡ true) × (b ≡ true) × (c ≡ true) × (d ≡ true)
all_four true true true true e = (refl, refl, refl, refl)
all_four true true true false e = absurd (false≢true e)
all_four true true false d e = absurd (false≢true e)
all_four true false c d e = absurd (false≢true e)
all_four false b c d e = absurd (false≢true e)

-- ---- an accepted stream

-- cost number k of those that begin at a byte
number_from : (s : List ℕ) (at k : ℕ) → cost_number (drop at s) k ≡ u16_at s (at + 2 * k)
number_from s at k =
    let e : at + (2 * k + 1) ≡ at + 2 * k + 1 = omega arith in
    rw (get_or-drop at s (2 * k) 0, get_or-drop at s (2 * k + 1) 0, e)

pub unary_number_at : (s : List ℕ) (k : ℕ) → cost_number (unaries_from s) k ≡ stream_unary s k
unary_number_at s k = number_from s (unaries_at s) k

pub cost_number_at : (s : List ℕ) (k : ℕ) → cost_number (costs_of s) k ≡ stream_cost s k
cost_number_at s k = number_from s (pairs_at s) k

-- the instance's parts
pub instance_units : (s : List ℕ) → (instance_of s).n ≡ units_of s
unfolding instance_of
instance_units s = refl

pub instance_unary : (s : List ℕ) → (instance_of s).unary ≡ unary_of s
unfolding instance_of
instance_unary s = refl

pub instance_dom : (s : List ℕ) → (instance_of s).dom ≡ dom_of s
unfolding instance_of
instance_dom s = refl

-- a stream that has all its sizes
module _ (s : List ℕ) (there : unaries_at s ≤ length s) where
  pub sizes-there : length (sizes_of s) ≡ units_of s
  sizes-there = length-take-le (units_of s) (after_units s) (simp length-drop (omega arith))

  -- has, in form two, as many unary costs as its units have values
  pub unaries_in_stream : sum_to (dom_of s) (units_of s) ≡ sum_list (sizes_of s)
  unaries_in_stream = subst (λ m. sum_to (dom_of s) m ≡ sum_list (sizes_of s)) sizes-there (sizes_sum (sizes_of s))

  -- those of unit k among them
  pub unary_costs : (k : ℕ) → k < units_of s → sum_to (dom_of s) k + dom_of s k ≤ sum_list (sizes_of s)
  unary_costs k h = rw (← unaries_in_stream) (sum_to_mono (dom_of s) (suc k) (units_of s) h)

  -- needs as many costs as its pairs of units have
  pub costs_in_stream : row_start (dom_of s) (units_of s) (units_of s) ≡ pairs_in (sizes_of s)
  costs_in_stream = subst (λ m. row_start (dom_of s) m m ≡ pairs_in (sizes_of s)) sizes-there (costs_count (sizes_of s))

  -- and those of a pair are among them
  pub pair_costs_lem : (i j : ℕ) → i < j → j < units_of s → pair_start (dom_of s) (units_of s) i j + dom_of s i * dom_of s j ≤ pairs_in (sizes_of s)
  pair_costs_lem i j a b = rw (← costs_in_stream) (pair_inside (dom_of s) (units_of s) i j a b)

pub accepted_fit : (s : List ℕ) → Accepted s → needed s ≤ length s
accepted_fit s ok = omega (arith, accepted_length s ok)

module _ (s : List ℕ) (ok : Accepted s) where
  pub dom_inside : (k : ℕ) → k < units_of s → (1 ≤ dom_of s k) × (dom_of s k ≤ 16)
  dom_inside k h = rw (get_or-take (units_of s) (after_units s) k 0 h) (accepted_size s ok k h)

  pub dom-most : (k : ℕ) → dom_of s k ≤ 16
  dom-most k = go (nat_lt k (units_of s)) refl
    where
      go : (t : Bool) → nat_lt k (units_of s) ≡ t → dom_of s k ≤ 16
      go true e = (dom_inside k (ltb-true k (units_of s) e)).1
      go false e = omega (arith, dom_past_count (units_of s) (after_units s) k (ltb-false k (units_of s) e))

  pub accepted-there : unaries_at s ≤ length s
  accepted-there = omega (arith, accepted_length s ok)

  pub unary_value : (k v : ℕ) → is_value (dom_of s k) v ≡ true → k < units_of s
  unary_value k v e = go (nat_lt k (units_of s)) refl
    where
      go : (t : Bool) → nat_lt k (units_of s) ≡ t → k < units_of s
      go true l = ltb-true k (units_of s) l
      go false l =
          let r = value_range (dom_of s k) v e in
          absurd (omega (arith, r.0, r.1, dom_past_count (units_of s) (after_units s) k (ltb-false k (units_of s) l)))

  table_unary_small : in_form_two s ≡ true → (k v : ℕ) → table_unary (dom_of s) (unaries_from s) k v ≤ unary_limit
  table_unary_small two k v = go (is_value (dom_of s k) v) refl
    where
      go : (t : Bool) → is_value (dom_of s k) v ≡ t → cond t (cost_number (unaries_from s) (sum_to (dom_of s) k + (v - 1))) 0 ≤ unary_limit
      go true e =
          let r = value_range (dom_of s k) v e in
          let x : ℕ = sum_to (dom_of s) k + (v - 1) in
          rw (unary_number_at s x) (accepted_unary s ok x (omega (arith, r.0, r.1, unary_costs s accepted-there k (unary_value k v e), unaries_two s two)))
      go false e = omega arith

  unary_small : (k v : ℕ) → unary_of s k v ≤ unary_limit
  unary_small k v = go (in_form_two s) refl
    where
      go : (t : Bool) → in_form_two s ≡ t → cond t (table_unary (dom_of s) (unaries_from s) k v) 0 ≤ unary_limit
      go true e = table_unary_small e k v
      go false e = omega arith

  table-cost_small : (i u j v : ℕ) → AtMost pair_limit (table_cost (units_of s) (dom_of s) (costs_of s) i u j v)
  table-cost_small i u j v = go (nat_lt i j && nat_lt j (units_of s) && is_value (dom_of s i) u && is_value (dom_of s j) v) refl
    where
      go : (t : Bool) → (nat_lt i j && nat_lt j (units_of s) && is_value (dom_of s i) u && is_value (dom_of s j) v) ≡ t
          → AtMost pair_limit (cond t (pair_cost (cost_number (costs_of s) (pair_start (dom_of s) (units_of s) i j + in_pair (dom_of s j) u v))) (Some 0))
      go true e =
          let q = all_four (nat_lt i j) (nat_lt j (units_of s)) (is_value (dom_of s i) u) (is_value (dom_of s j) v) e in
          let hu = value_range (dom_of s i) u q.2 in
          let hv = value_range (dom_of s j) v q.3 in
          let p = pair_costs_lem s accepted-there i j (ltb-true i j q.0) (ltb-true j (units_of s) q.1) in
          let r = in_pair_lt (dom_of s i) (dom_of s j) u v hu.0 hu.1 hv.0 hv.1 in
          let x : ℕ = pair_start (dom_of s) (units_of s) i j + in_pair (dom_of s j) u v in
          good_cost (cost_number (costs_of s) x) (rw (cost_number_at s x) (accepted-cost s ok x (omega arith)))
      go false e = omega arith

  pub sound_of : Sound (instance_of s)
  unfolding instance_of
  sound_of =
      record {
        n1 = (accepted_units s ok).0;
        n16 = (accepted_units s ok).1;
        dom1 = λ k h. (dom_inside k h).0;
        dom16 = dom-most;
        unary_small = unary_small;
        small = table-cost_small;
      }
