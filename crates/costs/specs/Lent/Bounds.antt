-- What check 7 gives of the sums over a view: first for any view whose costs keep it, then for costs that were not refused.
-- Each sum has at most so many terms, and each that is a number is within the limit; a cost number past the end is 0.
-- Assumes nothing.
use Rattle.std.specs.Prelude.{◌≡◌, ℕ, pred, ◌+◌, ◌-◌, ◌*◌, ◌≤◌, Bool, true, false, cond, not, ◌&&◌, List, length, ◌==◌, nat_lt, slice_index, Some}
use Rattle.std.proofs.Math.Path.{refl}
use Rattle.std.proofs.Common.{ltb-true, ltb-false, eqb-true}
use Rattle.std.proofs.Math.Nat.{zero-add}
use native.Mathlib.Omega.{arith}
use Rattle.base.specs.Limits.{pair_limit, unary_limit}
use Rattle.base.specs.Bytes.Laws.{u16_past}
use Rattle.base.specs.Shape.{is_value}
use Rattle.base.specs.Shape.Laws.{value_range, and_left, and_right}
use Rattle.table.specs.Stream.{unary_good, pair_good, costs_good}
use Rattle.table.specs.StreamLaws.{costs_at, pair_small, unary_most}
use Rattle.costs.specs.Cost.{Cost, sum_to}
use Rattle.costs.specs.Cost.Laws.{AtMost, good_cost, most_add, most_sum_to}
use Rattle.costs.specs.Instance.{View, lookahead, dom_in, cost_number, lent_view}
use Rattle.costs.specs.declared.ValueOrder.{ValueOrder}
use Rattle.costs.specs.Bounds.{cost_with}
use Rattle.costs.specs.Lent.{unary_count, lent_count, lent_good, lent_refusal}

-- ---- any view

module _ (w : View) (unary-small : (v : ℕ) → w.unary v ≤ unary_limit) (small : (j u v : ℕ) → AtMost pair_limit (w.pair j u v)) where
  pub cost-most : (values : List ℕ) (k v : ℕ) → AtMost (unary_limit + pair_limit * k) (cost_with w values k v)
  unfolding cost_with
  cost-most values k v =
      most_add unary_limit (pair_limit * k) (Some (w.unary v)) (sum_to (λ j. w.pair j (slice_index values j) v) k) (unary-small v)
      (most_sum_to pair_limit (λ j. w.pair j (slice_index values j) v) k (λ j. small j (slice_index values j) v))

-- ---- costs that were not refused

-- the two tests of lent_refusal, taken apart
passed : (a b : Bool) → ◌≡◌ {A = ℕ} (cond a (cond b 0 7) 6) 0 → (a ≡ true) × (b ≡ true)
passed false b e = absurd (omega arith)
passed true false e = absurd (omega arith)
passed true true e = (refl, refl)

cond_most : (t : Bool) (M : ℕ) (c : Cost) → AtMost M c → AtMost M (cond t c (Some 0))
cond_most true M c l = l
cond_most false M c l = omega arith

module _ (own n : ℕ) (sizes costs : List ℕ) (ok : lent_refusal own n sizes costs ≡ 0) where
  tests : ((length costs == 2 * lent_count own n sizes) ≡ true) × (lent_good costs (unary_count own n sizes) (lent_count own n sizes) ≡ true)
  unfolding lent_refusal
  tests = passed (length costs == 2 * lent_count own n sizes) (lent_good costs (unary_count own n sizes) (lent_count own n sizes)) ok

  -- there are as many costs as n and the sizes need
  pub lent_length : length costs ≡ 2 * lent_count own n sizes
  lent_length = eqb-true (length costs) (2 * lent_count own n sizes) tests.0

  pub lent_unary_most : (order : ValueOrder) (v : ℕ) → (lent_view order own n sizes costs).unary v ≤ unary_limit
  unfolding lent_view lent_good
  lent_unary_most order v = go (is_value (unary_count own n sizes) v) refl
    where
      go : (t : Bool) → is_value (unary_count own n sizes) v ≡ t → cond t (cost_number costs (v - 1)) 0 ≤ unary_limit
      go true e =
          let r = value_range (unary_count own n sizes) v e in
          unary_most (cost_number costs (v - 1)) (rw zero-add at (costs_at unary_good costs 0 (unary_count own n sizes) (and_left _ _ tests.1) (v - 1) (omega (arith, r.0, r.1))))
      go false e = omega arith

  pairs_good : costs_good pair_good costs (2 * unary_count own n sizes) (lent_count own n sizes - unary_count own n sizes) ≡ true
  unfolding lent_good
  pairs_good = and_right (costs_good unary_good costs 0 (unary_count own n sizes)) _ tests.1

  -- a number behind the unary costs, also past the end
  lent_number_good : (i : ℕ) → unary_count own n sizes ≤ i → pair_good (cost_number costs i) ≡ true
  lent_number_good i past = go (nat_lt i (lent_count own n sizes)) refl
    where
      go : (t : Bool) → nat_lt i (lent_count own n sizes) ≡ t → pair_good (cost_number costs i) ≡ true
      go true e =
          let d : ℕ = unary_count own n sizes in
          let q : 2 * d + 2 * (i - d) ≡ 2 * i = omega arith in
          rw q at (costs_at pair_good costs (2 * d) (lent_count own n sizes - d) pairs_good (i - d) (omega (arith, ltb-true i (lent_count own n sizes) e)))
      go false e =
          let l : length costs ≤ 2 * i = omega (arith, lent_length, ltb-false i (lent_count own n sizes) e) in
          let z : cost_number costs i ≡ 0 = u16_past costs (2 * i) l in
          rw z (pair_small 0 (omega arith))

  pub lent_looks : (order : ValueOrder) (v : ℕ) → let w = lent_view order own n sizes costs in w.ahead v ≡ lookahead w.place w.n w.dom w.pair v
  unfolding lent_view
  lent_looks order v = refl

  pub lent_pair_most : (order : ValueOrder) (j u v : ℕ) → AtMost pair_limit ((lent_view order own n sizes costs).pair j u v)
  unfolding lent_view
  lent_pair_most order j u v =
      cond_most (not (j == pred own) && nat_lt j n && is_value (dom_in n sizes j) u && is_value (dom_in n sizes (pred own)) v) pair_limit _
      (good_cost _ (lent_number_good _ (omega arith)))
