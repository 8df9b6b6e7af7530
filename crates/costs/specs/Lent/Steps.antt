-- How the sums, least values and counts over lent costs grow by one turn of a loop. Each by taking a definition's tests apart.
-- In order: domain sizes; sums and least values in general; a pair's cost; the cost with a prefix; h; the estimate; the order tried.
-- Assumes nothing.
use Rattle.std.specs.Prelude.{◌≡◌, ℕ, zero, suc, pred, ◌+◌, ◌-◌, ◌*◌, ◌<◌, ◌≤◌, Bool, true, false, cond, List, [], length, take, ◌==◌, ◌≢◌, nat_lt, slice_index, refl, Some, None}
use Rattle.std.proofs.Common.{sym, ap, ◌∙◌, add_assoc, add-sub_cancel, length-take, get_or-take, lt-ltb, le-ltb, ltb-true, ltb-false, eq-eqb, ne_eqb}
use Rattle.std.proofs.Math.Bool.{and-true, and-false}
use Rattle.std.proofs.Math.Numerals.{add-one}
use native.Mathlib.Omega.{arith}
use Rattle.std.proofs.Math.ListN.{get_or-eq_default}
use Rattle.std.proofs.lemmas.Bool.{lt-leb}
use Rattle.base.specs.Sums as Number
use Rattle.base.specs.Sums.Laws.{sum_to_cong, sum_to_sum_from}
use Rattle.base.specs.Shape.{is_value}
use Rattle.base.specs.Shape.Laws.{range_value}
use Rattle.costs.specs.Cost.{Cost, ◌⊕◌, sum_to, lesser, least, pair_cost}
use Rattle.costs.specs.Cost.Laws.{add_assoc as sum-assoc, add_zero, sum_from_cong, sum_forbidden}
use Rattle.costs.specs.Instance.{View, dom_in, in_pair, cost_number, lent_unary, lent_cost, lent_view, view_from, knowing, view_knowing}
use Rattle.costs.specs.declared.Seat.{Seat}
use Rattle.costs.specs.Bounds.{cost_with, h, estimate}
use Rattle.costs.specs.declared.ValueOrder.TheVariants.{CheapestFirst}
use Rattle.costs.specs.Order.{cheaper, earlier, place_by, place_tried}
use Rattle.costs.specs.Lent.Parts.{others_before, pair_from, least_run, run_start, runs_from, least_cost, earlier_up_to, dom_from}

-- ---- domain sizes

-- a unit past the count or past the list has no values
pub dom_past_count : (n : ℕ) (sizes : List ℕ) (k : ℕ) → n ≤ k → dom_in n sizes k ≡ 0
dom_past_count n sizes k h = get_or-eq_default (take n sizes) 0 (simp length-take (omega arith))

pub dom_past_list : (n : ℕ) (sizes : List ℕ) (k : ℕ) → length sizes ≤ k → dom_in n sizes k ≡ 0
dom_past_list n sizes k h = get_or-eq_default (take n sizes) 0 (simp length-take (omega arith))

pub dom_at : (n : ℕ) (sizes : List ℕ) (k : ℕ) → k < n → dom_in n sizes k ≡ slice_index sizes k
dom_at n sizes k h = get_or-take n sizes k 0 h

pub no_value : (v : ℕ) → is_value 0 v ≡ false
no_value zero = refl
no_value (suc v) = simp (lt-leb (suc v) 0 (omega arith), and-false)

-- ---- sums and least values

pub sum_to_more : (f : ℕ → ℕ) (i : ℕ) → Number.sum_to f (i + 1) ≡ Number.sum_to f i + f i
sum_to_more f i = rw add-one

pub least_more : (f : ℕ → Cost) (d : ℕ) → least f (d + 1) ≡ lesser (least f d) (f (d + 1))
least_more f d = rw add-one

-- equal at every value, the least is equal
least_same : (f g : ℕ → Cost) (d : ℕ) → ((v : ℕ) → 1 ≤ v → v ≤ d → f v ≡ g v) → least f d ≡ least g d
least_same f g zero e = refl
least_same f g (suc d) e = rw (e (suc d) (omega arith) (omega arith), least_same f g d (λ v l h. e v l (omega arith)))

-- one cost more in a run
pub run_more : (costs : List ℕ) (start u : ℕ) → least_run costs start (u + 1) ≡ lesser (least_run costs start u) (pair_cost (cost_number costs (start + u)))
run_more costs start u = least_more (λ i. pair_cost (cost_number costs (start + (i - 1)))) u ∙ rw add-sub_cancel

-- ---- a pair's cost

module _ (costs : List ℕ) (k j d e before u v : ℕ) where
  pub pair_self : j ≡ k → pair_from costs k j d e before u v ≡ Some 0
  pair_self h = simp (eq-eqb j k h)

  pub pair_no_other : (j ≢ k) → is_value e u ≡ false → pair_from costs k j d e before u v ≡ Some 0
  pair_no_other h a = rw (ne_eqb j k h, a)

  pub pair_no_own : (j ≢ k) → is_value e u ≡ true → is_value d v ≡ false → pair_from costs k j d e before u v ≡ Some 0
  pair_no_own h a b = rw (ne_eqb j k h, a, b)

  pub pair_lower : j < k → is_value e u ≡ true → is_value d v ≡ true → pair_from costs k j d e before u v ≡ pair_cost (cost_number costs (d + d * before + in_pair d u v))
  pair_lower h a b = rw (ne_eqb j k (λ q. omega arith), a, b, lt-ltb j k h)

  pub pair_higher : k < j → is_value e u ≡ true → is_value d v ≡ true → pair_from costs k j d e before u v ≡ pair_cost (cost_number costs (d + d * before + in_pair e v u))
  pair_higher h a b = rw (ne_eqb j k (λ q. omega arith), a, b, le-ltb j k (omega arith))

-- the view's pair cost is made of these
pub pair_from_lem : (seat : Seat) (costs : List ℕ) (j u v : ℕ)
    → (view_from seat costs).pair j u v ≡ pair_from costs (pred seat.own) j (dom_from seat (pred seat.own)) (dom_from seat j) (others_before seat j) u v
unfolding lent_view
pair_from_lem seat costs j u v = go (nat_lt j seat.n) refl
  where
    go : (t : Bool) → nat_lt j seat.n ≡ t → lent_cost seat.n (dom_from seat) (pred seat.own) costs j u v ≡ pair_from costs (pred seat.own) j (dom_from seat (pred seat.own)) (dom_from seat j) (others_before seat j) u v
    go true e = simp (e, and-true)
    go false e =
        let z : dom_from seat j ≡ 0 = dom_past_count seat.n seat.sizes j (ltb-false j seat.n e) in
        let w : is_value (dom_from seat j) u ≡ false = rw z (no_value u) in
        simp (e, w, and-false)

-- ---- the cost with a prefix

pub unary_from : (seat : Seat) (costs : List ℕ) (v : ℕ) → (view_from seat costs).unary v ≡ lent_unary (dom_from seat (pred seat.own)) costs v
unfolding lent_view
unary_from seat costs v = refl

-- a prefix of no units leaves the unary cost
pub cost_none : (w : View) (values : List ℕ) (v : ℕ) → cost_with w values 0 v ≡ Some (w.unary v)
unfolding cost_with
cost_none w values v = add_zero (Some (w.unary v))

pub cost_more : (w : View) (values : List ℕ) (j v : ℕ) → cost_with w values (j + 1) v ≡ cost_with w values j v ⊕ w.pair j (slice_index values j) v
unfolding cost_with
cost_more w values j v = rw add-one (sym (sum-assoc (Some (w.unary v)) (sum_to (λ i. w.pair i (slice_index values i) v) j) (w.pair j (slice_index values j) v)))

-- forbidden as soon as one pair is
pub cost_forbidden : (w : View) (values : List ℕ) (j k v : ℕ) → j < k → w.pair j (slice_index values j) v ≡ None → cost_with w values k v ≡ None
unfolding cost_with
cost_forbidden w values j k v l e = rw (sum_forbidden (λ i. w.pair i (slice_index values i) v) j k l e)

-- ---- h

-- a sum with the term at place k left out: the same before k, and less by that term after it
sum_before : (f : ℕ → ℕ) (k j : ℕ) → j ≤ k → Number.sum_to (λ b. cond (b == k) 0 (f b)) j ≡ Number.sum_to f j
sum_before f k j h = sum_to_cong _ f j (λ b l. rw (ne_eqb b k (λ e. omega arith)))

sum_without : (f : ℕ → ℕ) (k j : ℕ) → k < j → Number.sum_to (λ b. cond (b == k) 0 (f b)) j + f k ≡ Number.sum_to f j
sum_without f k zero h = absurd (omega arith)
sum_without f k (suc j) h = go (nat_lt k j) refl (λ l. sum_without f k j l)
  where
    go : (t : Bool) → nat_lt k j ≡ t → (k < j → Number.sum_to (λ b. cond (b == k) 0 (f b)) j + f k ≡ Number.sum_to f j) → Number.sum_to (λ b. cond (b == k) 0 (f b)) (suc j) + f k ≡ Number.sum_to f (suc j)
    go true e ih = let l = ltb-true k j e in rw (ne_eqb j k (λ q. omega arith)) (omega (arith, ih l))
    go false e ih =
        let q : j ≡ k = omega (arith, ltb-false k j e) in
        rw (eq-eqb j k q) (omega (arith, sum_before f k j (omega arith), ap f q))

module _ (seat : Seat) where
  pub others_none : (j : ℕ) → j ≤ pred seat.own → Number.sum_from (dom_from seat) 0 j ≡ others_before seat j
  others_none j h = sym (sum_to_sum_from (dom_from seat) j) ∙ sym (sum_before (dom_from seat) (pred seat.own) j h)

  pub others_all : (j : ℕ) → pred seat.own < j → Number.sum_from (dom_from seat) 0 j ≡ others_before seat j + dom_from seat (pred seat.own)
  others_all j h = sym (sum_to_sum_from (dom_from seat) j) ∙ sym (sum_without (dom_from seat) (pred seat.own) j h)

  -- the others before the next place, up to the own
  pub others-earlier : (j : ℕ) → j < pred seat.own → others_before seat (j + 1) ≡ others_before seat j + dom_from seat j
  others-earlier j l = rw (add-one, ne_eqb j (pred seat.own) (λ q. omega arith))

  -- and once past it
  pub others_later : (j : ℕ) → pred seat.own < j → others_before seat (j + 1) ≡ others_before seat j + dom_from seat j
  others_later j l = rw (add-one, ne_eqb j (pred seat.own) (λ q. omega arith))

  module _ (costs : List ℕ) (v : ℕ) where
    -- the costs of v with the values of a later unit are a run
    later_run : (j : ℕ) → pred seat.own < j → is_value (dom_from seat (pred seat.own)) v ≡ true
        → least (λ u. (view_from seat costs).pair j u v) (dom_from seat j) ≡ least_run costs (run_start seat v j) (dom_from seat j)
    later_run j a c =
        let d : ℕ = dom_from seat (pred seat.own) in
        let start : ℕ = d + d * others_before seat j in
        least_same (λ u. (view_from seat costs).pair j u v) (λ u. pair_cost (cost_number costs (start + (v - 1) * dom_from seat j + (u - 1)))) (dom_from seat j)
        (λ u lo hi. pair_from_lem seat costs j u v
        ∙ pair_higher costs (pred seat.own) j d (dom_from seat j) (others_before seat j) u v a (range_value (dom_from seat j) u lo hi) c
        ∙ ap (λ (x : ℕ). pair_cost (cost_number costs x)) (sym (add_assoc start ((v - 1) * dom_from seat j) (u - 1))))

    -- h of a value is in its runs
    pub later_value : is_value (dom_from seat (pred seat.own)) v ≡ true → h (view_from seat costs) v ≡ runs_from seat costs v (pred seat.own + 1)
    unfolding h runs_from lent_view
    later_value c =
        rw add-one
        (sum_from_cong (λ j. least (λ u. (view_from seat costs).pair j u v) (dom_from seat j))
        (λ j. least_run costs (run_start seat v j) (dom_from seat j)) (suc (pred seat.own)) (seat.n - suc (pred seat.own))
        (λ j l m. later_run j l c))

    -- what is no value costs nothing, as in runs of no bytes
    pub later_no_value : (x : ℕ) → is_value (dom_from seat (pred seat.own)) v ≡ false → h (view_from seat costs) v ≡ runs_from seat [] x (pred seat.own + 1)
    unfolding h runs_from lent_view
    later_no_value x c =
        rw add-one
        (sum_from_cong (λ j. least (λ u. (view_from seat costs).pair j u v) (dom_from seat j))
        (λ j. least_run [] (run_start seat x j) (dom_from seat j)) (suc (pred seat.own)) (seat.n - suc (pred seat.own))
        (λ j l m. least_same (λ u. (view_from seat costs).pair j u v) (λ u. pair_cost (cost_number [] (run_start seat x j + (u - 1)))) (dom_from seat j)
        (λ u lo hi. simp (c, and-false))))

    -- the runs, unit by unit
    pub runs_done : (j : ℕ) → seat.n ≤ j → runs_from seat costs v j ≡ Some 0
    unfolding runs_from
    runs_done j l = let e : seat.n - j ≡ 0 = omega arith in rw e

    pub runs_step : (j : ℕ) → j < seat.n
        → runs_from seat costs v j ≡ least_run costs (run_start seat v j) (dom_from seat j) ⊕ runs_from seat costs v (j + 1)
    unfolding runs_from
    runs_step j b = let e : seat.n - j ≡ suc (seat.n - (j + 1)) = omega arith in rw (e, add-one)

-- ---- the estimate

pub estimate-least : (seat : Seat) (costs ahead values : List ℕ) (m : ℕ) → estimate (view_knowing seat costs ahead) values m ≡ least_cost (view_knowing seat costs ahead) values m (dom_from seat (pred seat.own))
unfolding estimate knowing lent_view least_cost
estimate-least seat costs ahead values m = refl

pub least_cost_none : (w : View) (values : List ℕ) (m : ℕ) → least_cost w values m 0 ≡ None
unfolding least_cost
least_cost_none w values m = refl

pub least_cost_more : (w : View) (values : List ℕ) (m v : ℕ) → least_cost w values m (v + 1) ≡ lesser (least_cost w values m v) (cost_with w values m (v + 1) ⊕ h w (v + 1))
unfolding least_cost
least_cost_more w values m v = least_more (λ i. cost_with w values m i ⊕ h w i) v

-- ---- the order tried

pub earlier_none : (w : View) (v : ℕ) → earlier_up_to w v 0 ≡ 0
unfolding earlier_up_to
earlier_none w v = refl

-- one value more
pub earlier_more : (w : View) (v u : ℕ) → earlier_up_to w v (u + 1) ≡ earlier_up_to w v u + cond (cheaper (h w (u + 1)) (u + 1) (h w v) v) 1 0
unfolding earlier_up_to earlier
earlier_more w v u = rw add-one

pub order_from : (seat : Seat) (costs ahead : List ℕ) → (view_knowing seat costs ahead).order ≡ seat.order
unfolding knowing lent_view
order_from seat costs ahead = refl

pub cheapest_place : (seat : Seat) (costs ahead : List ℕ) (v : ℕ) → seat.order ≡ CheapestFirst → 1 ≤ v
    → place_tried (view_knowing seat costs ahead) v ≡ suc (earlier_up_to (view_knowing seat costs ahead) v (dom_from seat (pred seat.own)))
unfolding place_tried knowing lent_view earlier_up_to
cheapest_place seat costs ahead zero e lo = absurd (omega arith)
cheapest_place seat costs ahead (suc v) e lo = ap (λ o. place_by o (view_knowing seat costs ahead) (suc v)) e
