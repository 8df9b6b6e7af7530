-- How the cost of a value, alone and with the values before it, is read straight out of a stream: its unary cost, then where the costs of the next
-- pair start, counted along. By taking the table's definition apart at one value and at one pair. Assumes nothing.
use Rattle.std.specs.Prelude.{◌≡◌, ℕ, suc, ◌+◌, ◌-◌, ◌*◌, ◌<◌, ◌≤◌, Bool, true, false, cond, List, nat_lt, slice_index, refl, Some, None}
use Rattle.std.proofs.Common.{sym, ap, ◌∙◌, add-one, arith, mul-le-mul, lt-ltb, ltb-true, ltb-false}
use Rattle.std.proofs.Math.Bool.{and-false, and-true}
use Rattle.std.proofs.Math.Nat.{sub-zero}
use Rattle.base.specs.Bytes.{u16_at}
use Rattle.base.specs.Sums.{sum_from, sum_to}
use Rattle.base.specs.Sums.Laws.{sum_to_sum_from}
use Rattle.table.specs.Stream.{in_form_two, units_of, after_units, unaries_at, pairs_at}
use Rattle.base.specs.Shape.{is_value}
use Rattle.costs.specs.Cost.{Cost, pair_cost}
use Rattle.costs.specs.Cost.Laws.{sums_zero}
use Rattle.costs.specs.Instance.{in_pair, cost_number, pair_start, table_unary, table_cost, view_of, instance_of, dom_of}
use Rattle.costs.specs.Laws.Stream.{unaries_from, costs_of, row_start, unary_number_at, cost_number_at}
use Rattle.costs.specs.Bounds.{cost_with}
use Rattle.costs.specs.Lent.Steps.{dom_past_count, no_value, cost_none, cost_more, cost_forbidden}

-- a unit with a value is one of the n
pub value_inside : (s : List ℕ) (k v : ℕ) → is_value (dom_of s k) v ≡ true → k < units_of s
value_inside s k v e = go (nat_lt k (units_of s)) refl
  where
    go : (t : Bool) → nat_lt k (units_of s) ≡ t → k < units_of s
    go true q = ltb-true k (units_of s) q
    go false q =
        let z : dom_of s k ≡ 0 = dom_past_count (units_of s) (after_units s) k (ltb-false k (units_of s) q) in
        let none : is_value (dom_of s k) v ≡ false = rw z (no_value v) in
        let c : ◌≡◌ {A = ℕ} 0 1 = ap (λ (b : Bool). cond b 1 0) (sym none ∙ e) in
        omega arith

-- what is no value costs nothing
pub no_own-cost : (s values : List ℕ) (k v : ℕ) → is_value (dom_of s k) v ≡ false → cost_with (view_of (instance_of s) k) values k v ≡ Some 0
unfolding cost_with instance_of
no_own-cost s values k v none = rw (no_unary_lem (in_form_two s), sums_zero (λ j. (view_of (instance_of s) k).pair j (slice_index values j) v) k (λ j. no_pair (nat_lt j k) j))
  where
    no_unary_lem : (t : Bool) → cond t (table_unary (dom_of s) (unaries_from s) k v) 0 ≡ 0
    no_unary_lem true = simp none
    no_unary_lem false = refl

    no_pair : (t : Bool) (j : ℕ)
        → cond t (table_cost (units_of s) (dom_of s) (costs_of s) j (slice_index values j) k v) (table_cost (units_of s) (dom_of s) (costs_of s) k v j (slice_index values j)) ≡ Some 0
    no_pair true j = simp (none, and-false)
    no_pair false j = simp (none, and-false)

-- the unary cost of own value v, where the units before it have `before` values together
pub stream_unary_lem : (s : List ℕ) (k v before : ℕ) → is_value (dom_of s k) v ≡ true → before ≡ sum_from (dom_of s) 0 k
    → (view_of (instance_of s) k).unary v ≡ cond (in_form_two s) (u16_at s (unaries_at s + 2 * (before + (v - 1)))) 0
unfolding instance_of
stream_unary_lem s k v before own sum =
    let e : sum_to (dom_of s) k ≡ before = sum_to_sum_from (dom_of s) k ∙ sym sum in
    rw (own, e, unary_number_at s (before + (v - 1)))

-- the cost of own value v with value u of the unit at place j, before it
pub stream_pair : (s : List ℕ) (k j u v from : ℕ) → is_value (dom_of s k) v ≡ true → j < k → from ≡ pairs_at s + 2 * pair_start (dom_of s) (units_of s) j k
    → (view_of (instance_of s) k).pair j u v ≡ cond (is_value (dom_of s j) u) (pair_cost (u16_at s (from + 2 * in_pair (dom_of s k) u v))) (Some 0)
unfolding instance_of
stream_pair s k j u v from own h start =
    let x : ℕ = pair_start (dom_of s) (units_of s) j k + in_pair (dom_of s k) u v in
    let e : pairs_at s + 2 * x ≡ from + 2 * in_pair (dom_of s k) u v = omega arith in
    let c : cost_number (costs_of s) x ≡ u16_at s (from + 2 * in_pair (dom_of s k) u v) = cost_number_at s x ∙ ap (u16_at s) e in
    simp (lt-ltb j k h, lt-ltb k (units_of s) (value_inside s k v own), own, and-true, c)

-- the sizes from the next place on
pub sizes_after : (f : ℕ → ℕ) (j m : ℕ) → j < m → sum_from f j (m - j) ≡ f j + sum_from f (suc j) (m - suc j)
sizes_after f j m h =
    let e : m - j ≡ suc (m - suc j) = omega arith in
    rw e

-- ---- what is counted along, before the pair with the unit at place j

pub record Running (s values : List ℕ) (place v later between row sum j : ℕ) : Type 0 where
  pub inside : j ≤ place
  pub later_sizes : later ≡ sum_from (dom_of s) j (units_of s - j)
  pub between_sizes : between ≡ sum_from (dom_of s) j (place - j)
  pub row-start : row ≡ row_start (dom_of s) (units_of s) j
  pub cost_so_far : Some sum ≡ cost_with (view_of (instance_of s) place) values j v
  pub later_most : later ≤ 65025
  pub between_most : between ≤ 65025
  pub row-most : row ≤ 16581375 * j
  pub sum_most : sum ≤ 65535 * (j + 1)

module _ (s values : List ℕ) (place v : ℕ) where
  pub running-first : (later between sum : ℕ) → units_of s ≤ 255 → place ≤ 255 → later ≡ sum_from (dom_of s) 0 (units_of s) → between ≡ sum_from (dom_of s) 0 place
      → later ≤ 255 * units_of s → between ≤ 255 * place → (view_of (instance_of s) place).unary v ≡ sum → sum < 65536 → Running s values place v later between 0 sum 0
  running-first later between sum n k a b x y unary small = record {
    inside = omega arith;
    later_sizes = rw sub-zero a;
    between_sizes = rw sub-zero b;
    row-start = refl;
    cost_so_far = sym (cost_none (view_of (instance_of s) place) values v ∙ ap Some unary);
    later_most = omega arith;
    between_most = omega arith;
    row-most = omega arith;
    sum_most = omega arith;
  }

-- what holds in a turn, before the pair with the unit at place j, of e values
pub record Turn (s values : List ℕ) (place v later between row sum j e : ℕ) : Type 0 where
  pub own : is_value (dom_of s place) v ≡ true
  pub now : Running s values place v later between row sum j
  pub more : j < place
  pub size : e ≡ dom_of s j
  pub byte : e ≤ 255

module _ {s values : List ℕ} {place v later between row sum j e : ℕ} (t : Turn s values place v later between row sum j e) where
  pub later_after : later ≡ e + sum_from (dom_of s) (suc j) (units_of s - suc j)
  later_after =
      let inside : j < units_of s = omega (arith, value_inside s place v t.own) in
      t.now.later_sizes ∙ sizes_after (dom_of s) j (units_of s) inside ∙ rw t.size

  pub between_after : between ≡ e + sum_from (dom_of s) (suc j) (place - suc j)
  between_after = t.now.between_sizes ∙ sizes_after (dom_of s) j place t.more ∙ rw t.size

  pub place-most : row + e * (between - e) ≤ 16581375 * place
  place-most =
      let b : between - e ≤ 65025 = omega (arith, t.now.between_most) in
      omega (arith, mul-le-mul t.byte b, t.now.row-most)

  pub row_after : row + e * (later - e) ≤ 16581375 * (j + 1)
  row_after =
      let l : later - e ≤ 65025 = omega (arith, t.now.later_most) in
      omega (arith, t.now.row-most, mul-le-mul t.byte l)

  -- where the costs of the pair start
  pair_begins : row + e * (between - e) ≡ pair_start (dom_of s) (units_of s) j place
  pair_begins =
      let b : between - e ≡ sum_from (dom_of s) (suc j) (place - suc j) = omega (arith, between_after) in
      rw (t.now.row-start, b, t.size)

  -- the cost of the pair
  pub pair_here : (c : Cost)
      → c ≡ cond (is_value e (slice_index values j)) (pair_cost (u16_at s (pairs_at s + 2 * (row + e * (between - e)) + 2 * in_pair (dom_of s place) (slice_index values j) v))) (Some 0)
      → (view_of (instance_of s) place).pair j (slice_index values j) v ≡ c
  pair_here c is =
      let from : pairs_at s + 2 * (row + e * (between - e)) ≡ pairs_at s + 2 * pair_start (dom_of s) (units_of s) j place = ap (λ (x : ℕ). pairs_at s + 2 * x) pair_begins in
      stream_pair s place j (slice_index values j) v (pairs_at s + 2 * (row + e * (between - e))) t.own t.more from
      ∙ ap (λ (x : ℕ). cond (is_value x (slice_index values j)) (pair_cost (u16_at s (pairs_at s + 2 * (row + e * (between - e)) + 2 * in_pair (dom_of s place) (slice_index values j) v))) (Some 0)) (sym t.size)
      ∙ sym is

  -- it is a number
  pub running-next : (paid : ℕ) → paid < 65536 → (view_of (instance_of s) place).pair j (slice_index values j) v ≡ Some paid
      → Running s values place v (later - e) (between - e) (row + e * (later - e)) (sum + paid) (j + 1)
  running-next paid small is =
      let a : later - e ≡ sum_from (dom_of s) (suc j) (units_of s - suc j) = omega (arith, later_after) in
      let b : between - e ≡ sum_from (dom_of s) (suc j) (place - suc j) = omega (arith, between_after) in
      record {
        inside = omega (arith, t.more);
        later_sizes = rw (add-one j) a;
        between_sizes = rw (add-one j) b;
        row-start = rw (add-one j, t.now.row-start, a, t.size);
        cost_so_far = rw (cost_more, is, ← t.now.cost_so_far);
        later_most = omega (arith, t.now.later_most);
        between_most = omega (arith, t.now.between_most);
        row-most = row_after;
        sum_most = omega (arith, t.now.sum_most);
      }

  -- it is forbidden
  pub running_stops : (view_of (instance_of s) place).pair j (slice_index values j) v ≡ None → cost_with (view_of (instance_of s) place) values place v ≡ None
  running_stops is = cost_forbidden (view_of (instance_of s) place) values j place v t.more is
