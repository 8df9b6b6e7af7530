-- What a unit sees in the costs gathered for it is what the stream says, and they pass the checks of lent costs. By the place of each cost: the bytes
-- of a pair stand together in the stream and together among those gathered.
-- In order: which of two units comes first; a unit's unary costs; a pair's bytes; where they stand among those gathered; `gathered-view`;
-- `gathered_good`; how many they are.
-- Assumes nothing.
use Rattle.std.specs.Prelude.{◌≡◌, ℕ, zero, suc, pred, ◌+◌, ◌-◌, ◌*◌, ◌<◌, ◌≤◌, Bool, true, false, cond, ◌&&◌, List, [], ◌++◌, length, take, drop, replicate, ◌==◌, ◌≢◌, nat_lt, slice_index, refl, Some}
use Rattle.std.proofs.Math.Path.{sym, fun_ext}
use Rattle.std.proofs.Common.{ap, ◌∙◌, subst, mul-add, mul_comm, mul-le-mul, add_assoc, zero-add, length-append, length-drop, get_or-drop, get_or-take, get_or-append-add, length-take-le}
use native.Mathlib.Omega.{arith}
use Rattle.std.proofs.lemmas.List.{length-replicate, get_or-replicate}
use Rattle.std.proofs.Math.ListN.{get_or-append}
use Rattle.std.proofs.Math.Seq.{take-append_seam}
use borrow.Author.Tests.{lt-ltb, le-ltb, ltb-true, ltb-false, eq-eqb, ne_eqb}
use Rattle.base.specs.Limits.{costs_size}
use Rattle.base.specs.Join.{join_to}
use Rattle.base.specs.Join.Laws.{join_byte}
use Rattle.base.specs.Sums.{sum_to}
use Rattle.table.specs.Stream.{in_form_two, units_of, sizes_of, unaries_in, unaries_at, pairs_at, needed, unary_good, pair_good, costs_good, Accepted}
use Rattle.table.specs.StreamLaws.{unaries_two, stream_unary, stream_cost, costs_each, accepted_units, accepted_unary, accepted-cost, unary_small as unary_good_lem, pair_small as pair_good_lem}
use Rattle.base.specs.Shape.{is_value}
use Rattle.base.specs.Shape.Laws.{range_value, value_range}
use Rattle.costs.specs.Cost.{Cost, pair_cost}
use Rattle.costs.specs.Instance.{View, view_of, view_by, pair_start, in_pair, cost_number, instance_of, other_start, lent_unary, lent_cost, lent_view, lookahead, dom_of, unary_of}
use Rattle.costs.specs.declared.ValueOrder.{ValueOrder}
use Rattle.costs.specs.Laws.Stream.{unaries_from, costs_of, in_pair_lt, unary_number_at, cost_number_at, unary_costs, pair_costs_lem, accepted_fit, dom-most}
use Rattle.costs.specs.Lent.{unary_count, lent_count, lent_refusal}
use Rattle.costs.specs.Lent.Checks.{refusal_none}
use Rattle.base.specs.Sums.Laws.{sum_to_le}
use Rattle.costs.specs.Gather.{gather_refusal, gather_of, gather_into}
use Rattle.costs.specs.Gathered.{unary_bytes, pair_bytes, with_other, gather_to, gathered}

-- ---- which of two units comes first

by_order : {P : Type 0} (j k : ℕ) → (j < k → P) → (j ≡ k → P) → (k < j → P) → P
by_order {P} j k before same after = go (nat_lt j k) (nat_lt k j) refl refl
  where
    go : (t r : Bool) → nat_lt j k ≡ t → nat_lt k j ≡ r → P
    go true r e f = before (ltb-true j k e)
    go false true e f = after (ltb-true k j f)
    go false false e f = let a = ltb-false j k e in let b = ltb-false k j f in same (omega arith)

pub with_before : (s : List ℕ) (k j : ℕ) → j < k → with_other s k j ≡ pair_bytes s j k
with_before s k j h = let ne : j ≡ k → ⊥ = λ e. omega arith in rw (ne_eqb j k ne, lt-ltb j k h)

pub with_own : (s : List ℕ) (k : ℕ) → with_other s k k ≡ []
with_own s k = rw (eq-eqb k k refl)

pub with_after : (s : List ℕ) (k j : ℕ) → k < j → with_other s k j ≡ pair_bytes s k j
with_after s k j h =
    let ne : j ≡ k → ⊥ = λ e. omega arith in
    let le : k ≤ j = omega arith in
    rw (ne_eqb j k ne, le-ltb j k le)

-- how many values the unit at place j has beside unit k
other_size : (dom : ℕ → ℕ) (k j : ℕ) → (j ≢ k) → cond (j == k) 0 (dom j) ≡ dom j
other_size dom k j ne = rw (ne_eqb j k ne)

-- costs of the same two bytes
same_number : (l m : List ℕ) (x y : ℕ) → slice_index l (2 * x) ≡ slice_index m (2 * y) → slice_index l (2 * x + 1) ≡ slice_index m (2 * y + 1) → cost_number l x ≡ cost_number m y
same_number l m x y a b = rw (a, b)

-- costs that agree where both values are values
both_values : (a b : Bool) (x y : ℕ) → (a ≡ true → b ≡ true → x ≡ y) → cond (true && true && a && b) (pair_cost x) (Some 0) ≡ cond (true && true && a && b) (pair_cost y) (Some 0)
both_values true true x y e = ap pair_cost (e refl refl)
both_values true false x y e = refl
both_values false b x y e = refl

both_swapped : (t a b : Bool) (x y : ℕ) → (t ≡ true → a ≡ true → b ≡ true → x ≡ y) → cond (true && t && a && b) (pair_cost x) (Some 0) ≡ cond (true && t && b && a) (pair_cost y) (Some 0)
both_swapped true true true x y e = ap pair_cost (e refl refl refl)
both_swapped true true false x y e = refl
both_swapped true false true x y e = refl
both_swapped true false false x y e = refl
both_swapped false a b x y e = refl

module _ (s : List ℕ) (fit : needed s ≤ length s) where
  there : unaries_at s ≤ length s
  there = omega arith

  -- ---- a unit's unary costs

  -- how many stand before them, and they themselves, are within the stream's
  unary_room : (k : ℕ) → k < units_of s → in_form_two s ≡ true → sum_to (dom_of s) k + dom_of s k ≤ unaries_in s
  unary_room k h two = rw (unaries_two s two) (unary_costs s there k h)

  pub unary_in_stream : (k : ℕ) → k < units_of s → in_form_two s ≡ true → unaries_at s + 2 * sum_to (dom_of s) k + 2 * dom_of s k ≤ length s
  unary_in_stream k h two = omega (arith, unary_room k h two)

  pub length_unary_bytes : (k : ℕ) → k < units_of s → length (unary_bytes s k) ≡ 2 * dom_of s k
  length_unary_bytes k h = go (in_form_two s) refl
    where
      go : (t : Bool) → in_form_two s ≡ t → length (cond t (take (2 * dom_of s k) (drop (unaries_at s + 2 * sum_to (dom_of s) k) s)) (replicate (2 * dom_of s k) 0)) ≡ 2 * dom_of s k
      go true e = length-take-le (2 * dom_of s k) (drop (unaries_at s + 2 * sum_to (dom_of s) k) s) (simp length-drop (omega (arith, unary_in_stream k h e)))
      go false e = length-replicate (2 * dom_of s k) 0

  -- unary cost number x of unit k
  unary_number : (k x : ℕ) → x < dom_of s k → cost_number (unary_bytes s k) x ≡ cond (in_form_two s) (stream_unary s (sum_to (dom_of s) k + x)) 0
  unary_number k x h = go (in_form_two s)
    where
      part : (y : ℕ) → y < 2 * dom_of s k → slice_index (take (2 * dom_of s k) (drop (unaries_at s + 2 * sum_to (dom_of s) k) s)) y ≡ slice_index s (unaries_at s + 2 * sum_to (dom_of s) k + y)
      part y l =
          get_or-take (2 * dom_of s k) (drop (unaries_at s + 2 * sum_to (dom_of s) k) s) y 0 l
          ∙ get_or-drop (unaries_at s + 2 * sum_to (dom_of s) k) s y 0

      go : (t : Bool) → cost_number (cond t (take (2 * dom_of s k) (drop (unaries_at s + 2 * sum_to (dom_of s) k) s)) (replicate (2 * dom_of s k) 0)) x ≡ cond t (stream_unary s (sum_to (dom_of s) k + x)) 0
      go true =
          let p : ℕ = sum_to (dom_of s) k in
          let a : unaries_at s + 2 * p + 2 * x ≡ unaries_at s + 2 * (p + x) = omega arith in
          let b : unaries_at s + 2 * p + (2 * x + 1) ≡ unaries_at s + 2 * (p + x) + 1 = omega arith in
          rw (part (2 * x) (omega arith), part (2 * x + 1) (omega arith), a, b)
      go false =
          omega (arith, get_or-replicate {A = ℕ} (2 * dom_of s k) (2 * x) 0 0 (omega arith), get_or-replicate {A = ℕ} (2 * dom_of s k) (2 * x + 1) 0 0 (omega arith))

  -- ---- a pair's bytes

  pub length_pair_bytes : (i j : ℕ) → i < j → j < units_of s → length (pair_bytes s i j) ≡ 2 * (dom_of s i * dom_of s j)
  length_pair_bytes i j a b =
      length-take-le (2 * (dom_of s i * dom_of s j)) (drop (pairs_at s + 2 * pair_start (dom_of s) (units_of s) i j) s) (simp length-drop (omega (arith, pair_costs_lem s there i j a b)))

  pair_byte : (i j y : ℕ) → y < 2 * (dom_of s i * dom_of s j) → slice_index (pair_bytes s i j) y ≡ slice_index s (pairs_at s + 2 * pair_start (dom_of s) (units_of s) i j + y)
  pair_byte i j y h =
      get_or-take (2 * (dom_of s i * dom_of s j)) (drop (pairs_at s + 2 * pair_start (dom_of s) (units_of s) i j) s) y 0 h
      ∙ get_or-drop (pairs_at s + 2 * pair_start (dom_of s) (units_of s) i j) s y 0

  -- cost number x of a pair
  pair_number_lem : (i j x : ℕ) → x < dom_of s i * dom_of s j → cost_number (pair_bytes s i j) x ≡ stream_cost s (pair_start (dom_of s) (units_of s) i j + x)
  pair_number_lem i j x h =
      let p : ℕ = pair_start (dom_of s) (units_of s) i j in
      let a : pairs_at s + 2 * p + 2 * x ≡ pairs_at s + 2 * (p + x) = omega arith in
      let b : pairs_at s + 2 * p + (2 * x + 1) ≡ pairs_at s + 2 * (p + x) + 1 = omega arith in
      rw (pair_byte i j (2 * x) (omega arith), pair_byte i j (2 * x + 1) (omega arith), a, b)

  -- ---- those of unit k with another

  module _ (k : ℕ) (in-n : k < units_of s) where
    length_with : (j : ℕ) → j < units_of s → length (with_other s k j) ≡ 2 * (dom_of s k * cond (j == k) 0 (dom_of s j))
    length_with j h =
        by_order j k
        (λ l. ap length (with_before s k j l) ∙ length_pair_bytes j k l in-n ∙ rw (other_size (dom_of s) k j (λ e. omega arith)) (ap (λ x. 2 * x) (mul_comm (dom_of s j) (dom_of s k))))
        (λ e. rw e (ap length (with_own s k) ∙ rw (eq-eqb k k refl) (omega arith)))
        (λ l. ap length (with_after s k j l) ∙ length_pair_bytes k j l h ∙ rw (other_size (dom_of s) k j (λ e. omega arith)))

    -- where they begin, behind the unary costs
    length_others : (m : ℕ) → m ≤ units_of s → length (join_to (with_other s k) m) ≡ 2 * (dom_of s k * sum_to (λ b. cond (b == k) 0 (dom_of s b)) m)
    length_others zero h = omega arith
    length_others (suc m) h =
        let a : length (join_to (with_other s k) m ++ with_other s k m) ≡ length (join_to (with_other s k) m) + length (with_other s k m) = length-append (join_to (with_other s k) m) (with_other s k m) in
        omega (arith, a, length_with m h, length_others m (omega arith), mul-add (dom_of s k) (sum_to (λ b. cond (b == k) 0 (dom_of s b)) m) (cond (m == k) 0 (dom_of s m)))

    pub length_gather : (m : ℕ) → m ≤ units_of s → length (gather_to s k m) ≡ 2 * other_start (dom_of s) k m
    length_gather m h = length-append (unary_bytes s k) (join_to (with_other s k) m) ∙ omega (arith, length_unary_bytes k in-n, length_others m h)

    -- ---- and what stands there

    -- the unary costs, in front
    front_number : (m x : ℕ) → x < dom_of s k → cost_number (gather_to s k m) x ≡ cost_number (unary_bytes s k) x
    front_number m x h =
        same_number (gather_to s k m) (unary_bytes s k) x x
        (get_or-append (unary_bytes s k) (join_to (with_other s k) m) 0 (2 * x) (omega (arith, length_unary_bytes k in-n)))
        (get_or-append (unary_bytes s k) (join_to (with_other s k) m) 0 (2 * x + 1) (omega (arith, length_unary_bytes k in-n)))

    -- and the pair costs behind them
    behind_number : (m x : ℕ) → cost_number (gather_to s k m) (dom_of s k + x) ≡ cost_number (join_to (with_other s k) m) x
    behind_number m x =
        same_number (gather_to s k m) (join_to (with_other s k) m) (dom_of s k + x) x (byte (2 * (dom_of s k + x)) (2 * x) (omega (arith, length_unary_bytes k in-n)))
        (byte (2 * (dom_of s k + x) + 1) (2 * x + 1) (omega (arith, length_unary_bytes k in-n)))
      where
        byte : (p q : ℕ) → p ≡ length (unary_bytes s k) + q → slice_index (gather_to s k m) p ≡ slice_index (join_to (with_other s k) m) q
        byte p q e = rw e (get_or-append-add (unary_bytes s k) (join_to (with_other s k) m) q 0)

    others_number : (j m x : ℕ) → j < m → m ≤ units_of s → x < dom_of s k * cond (j == k) 0 (dom_of s j)
        → cost_number (join_to (with_other s k) m) (dom_of s k * sum_to (λ b. cond (b == k) 0 (dom_of s b)) j + x) ≡ cost_number (with_other s k j) x
    others_number j m x h le b =
        let start : ℕ = dom_of s k * sum_to (λ b. cond (b == k) 0 (dom_of s b)) j in
        let g : length (join_to (with_other s k) j) ≡ 2 * start = length_others j (omega arith) in
        let w : length (with_other s k j) ≡ 2 * (dom_of s k * cond (j == k) 0 (dom_of s j)) = length_with j (omega arith) in
        same_number (join_to (with_other s k) m) (with_other s k j) (start + x) x
        (ap (λ p. slice_index (join_to (with_other s k) m) p) (omega arith) ∙ join_byte (with_other s k) m j (2 * x) h (omega arith))
        (ap (λ p. slice_index (join_to (with_other s k) m) p) (omega arith) ∙ join_byte (with_other s k) m j (2 * x + 1) h (omega arith))

    gather_number : (j m x : ℕ) → j < m → m ≤ units_of s → x < dom_of s k * cond (j == k) 0 (dom_of s j)
        → cost_number (gather_to s k m) (other_start (dom_of s) k j + x) ≡ cost_number (with_other s k j) x
    gather_number j m x h le b =
        let start : ℕ = dom_of s k * sum_to (λ b. cond (b == k) 0 (dom_of s b)) j in
        ap (cost_number (gather_to s k m)) (add_assoc (dom_of s k) start x) ∙ behind_number m (start + x) ∙ others_number j m x h le b

    -- a unit before k, and one after it
    number_before : (j x : ℕ) → j < k → x < dom_of s j * dom_of s k
        → cost_number (gather_to s k (units_of s)) (other_start (dom_of s) k j + x) ≡ stream_cost s (pair_start (dom_of s) (units_of s) j k + x)
    number_before j x l b =
        let e : cond (j == k) 0 (dom_of s j) ≡ dom_of s j = other_size (dom_of s) k j (λ e. omega arith) in
        let c : dom_of s k * dom_of s j ≡ dom_of s j * dom_of s k = mul_comm (dom_of s k) (dom_of s j) in
        gather_number j (units_of s) x (omega arith) (omega arith) (rw (e, c) b)
        ∙ ap (λ w. cost_number w x) (with_before s k j l)
        ∙ pair_number_lem j k x b

    number_after : (j x : ℕ) → k < j → j < units_of s → x < dom_of s k * dom_of s j
        → cost_number (gather_to s k (units_of s)) (other_start (dom_of s) k j + x) ≡ stream_cost s (pair_start (dom_of s) (units_of s) k j + x)
    number_after j x l h b =
        let e : cond (j == k) 0 (dom_of s j) ≡ dom_of s j = other_size (dom_of s) k j (λ e. omega arith) in
        gather_number j (units_of s) x h (omega arith) (rw e b)
        ∙ ap (λ w. cost_number w x) (with_after s k j l)
        ∙ pair_number_lem k j x b

    -- ---- so a unit sees what the stream says

    pair_seen : (j u v : ℕ) → lent_cost (units_of s) (dom_of s) k (gather_to s k (units_of s)) j u v ≡ (view_of (instance_of s) k).pair j u v
    unfolding instance_of
    pair_seen j u v = by_order j k before same after
      where
        before : j < k → lent_cost (units_of s) (dom_of s) k (gather_to s k (units_of s)) j u v ≡ (view_of (instance_of s) k).pair j u v
        before l =
            let ne : j ≡ k → ⊥ = λ e. omega arith in
            let h : j < units_of s = omega arith in
            let x : ℕ = in_pair (dom_of s k) u v in
            rw (ne_eqb j k ne, lt-ltb j k l, lt-ltb j (units_of s) h, lt-ltb k (units_of s) in-n)
            (both_values (is_value (dom_of s j) u) (is_value (dom_of s k) v) (cost_number (gather_to s k (units_of s)) (other_start (dom_of s) k j + x)) (cost_number (costs_of s) (pair_start (dom_of s) (units_of s) j k + x))
            (λ a b.
            let hu = value_range (dom_of s j) u a in
            let hv = value_range (dom_of s k) v b in
            number_before j x l (in_pair_lt (dom_of s j) (dom_of s k) u v hu.0 hu.1 hv.0 hv.1) ∙ sym (cost_number_at s (pair_start (dom_of s) (units_of s) j k + x))))

        same : j ≡ k → lent_cost (units_of s) (dom_of s) k (gather_to s k (units_of s)) j u v ≡ (view_of (instance_of s) k).pair j u v
        same e =
            let le : k ≤ k = omega arith in
            rw (e, eq-eqb k k refl, le-ltb k k le)

        after : k < j → lent_cost (units_of s) (dom_of s) k (gather_to s k (units_of s)) j u v ≡ (view_of (instance_of s) k).pair j u v
        after l =
            let ne : j ≡ k → ⊥ = λ e. omega arith in
            let le : k ≤ j = omega arith in
            let x : ℕ = in_pair (dom_of s j) v u in
            rw (ne_eqb j k ne, le-ltb j k le, lt-ltb k j l)
            (both_swapped (nat_lt j (units_of s)) (is_value (dom_of s j) u) (is_value (dom_of s k) v) (cost_number (gather_to s k (units_of s)) (other_start (dom_of s) k j + x)) (cost_number (costs_of s) (pair_start (dom_of s) (units_of s) k j + x))
            (λ t a b.
            let hu = value_range (dom_of s j) u a in
            let hv = value_range (dom_of s k) v b in
            number_after j x l (ltb-true j (units_of s) t) (in_pair_lt (dom_of s k) (dom_of s j) v u hv.0 hv.1 hu.0 hu.1) ∙ sym (cost_number_at s (pair_start (dom_of s) (units_of s) k j + x))))

    unary_seen : (v : ℕ) → lent_unary (dom_of s k) (gather_to s k (units_of s)) v ≡ unary_of s k v
    unary_seen v = go (is_value (dom_of s k) v) refl (in_form_two s) refl
      where
        go : (a : Bool) → is_value (dom_of s k) v ≡ a → (t : Bool) → in_form_two s ≡ t
            → cond a (cost_number (gather_to s k (units_of s)) (v - 1)) 0 ≡ cond t (cond a (cost_number (unaries_from s) (sum_to (dom_of s) k + (v - 1))) 0) 0
        go false e true f = refl
        go false e false f = refl
        go true e t f =
            let r = value_range (dom_of s k) v e in
            front_number (units_of s) (v - 1) (omega (arith, r.0, r.1)) ∙ unary_number k (v - 1) (omega (arith, r.0, r.1))
            ∙ rw (f, unary_number_at s (sum_to (dom_of s) k + (v - 1)))

-- What unit `own` sees in the costs gathered for it, with any array whose first n places are the sizes.
pub gathered-view : (order : ValueOrder) (s : List ℕ) → Accepted s → (own : ℕ) → 1 ≤ own → own ≤ units_of s → (sizes : List ℕ) → take (units_of s) sizes ≡ sizes_of s
    → lent_view order own (units_of s) sizes (gathered s own) ≡ view_by order (instance_of s) (pred own)
unfolding lent_view gathered instance_of
gathered-view order s ok own lo hi sizes e = same_sizes ∙ same_costs
  where
    costs : List ℕ
    costs = gather_to s (pred own) (units_of s)

    seen : List ℕ → View
    seen t =
        record { order = order; place = pred own; n = units_of s; dom = λ k. slice_index t k; unary = lent_unary (slice_index t (pred own)) costs; pair = lent_cost (units_of s) (λ k. slice_index t k) (pred own) costs; ahead = lookahead (pred own) (units_of s) (λ k. slice_index t k) (lent_cost (units_of s) (λ k. slice_index t k) (pred own) costs) }

    same_sizes : lent_view order own (units_of s) sizes (gathered s own) ≡ seen (sizes_of s)
    same_sizes = ap seen e

    same_costs : seen (sizes_of s) ≡ view_by order (instance_of s) (pred own)
    same_costs =
        ap (λ (f : ℕ → ℕ). record { order = order; place = pred own; n = units_of s; dom = dom_of s; unary = f; pair = lent_cost (units_of s) (dom_of s) (pred own) costs; ahead = lookahead (pred own) (units_of s) (dom_of s) (lent_cost (units_of s) (dom_of s) (pred own) costs) })
        (fun_ext (λ v. unary_seen s (accepted_fit s ok) (pred own) (omega arith) v))
        ∙ ap (λ (p : ℕ → ℕ → ℕ → Cost). record { order = order; place = pred own; n = units_of s; dom = dom_of s; unary = unary_of s (pred own); pair = p; ahead = lookahead (pred own) (units_of s) (dom_of s) p })
        (fun_ext (λ j. fun_ext (λ u. fun_ext (λ v. pair_seen s (accepted_fit s ok) (pred own) (omega arith) j u v))))

-- ---- and they pass the checks of lent costs

module _ (s : List ℕ) (ok : Accepted s) (k : ℕ) (in-n : k < units_of s) where
  unary_small : (x : ℕ) → x < dom_of s k → unary_good (cost_number (unary_bytes s k) x) ≡ true
  unary_small x h = rw (unary_number s (accepted_fit s ok) k x h) (go (in_form_two s) refl)
    where
      go : (t : Bool) → in_form_two s ≡ t → unary_good (cond t (stream_unary s (sum_to (dom_of s) k + x)) 0) ≡ true
      go true e =
          unary_good_lem (stream_unary s (sum_to (dom_of s) k + x)) (accepted_unary s ok (sum_to (dom_of s) k + x) (omega (arith, unary_room s (accepted_fit s ok) k in-n e)))
      go false e = unary_good_lem 0 (omega arith)

  pair_small : (i j x : ℕ) → i < j → j < units_of s → x < dom_of s i * dom_of s j → pair_good (cost_number (pair_bytes s i j) x) ≡ true
  pair_small i j x l h b =
      rw (pair_number_lem s (accepted_fit s ok) i j x b) (accepted-cost s ok (pair_start (dom_of s) (units_of s) i j + x) (omega (arith, pair_costs_lem s (there s (accepted_fit s ok)) i j l h)))

  with_small : (j x : ℕ) → j < units_of s → x < dom_of s k * cond (j == k) 0 (dom_of s j) → pair_good (cost_number (with_other s k j) x) ≡ true
  with_small j x h b =
      by_order j k
      (λ l. rw (with_before s k j l) (pair_small j k x l in-n (omega (arith, rw (other_size (dom_of s) k j (λ e. omega arith)) at b, mul_comm (dom_of s j) (dom_of s k)))))
      (λ e. rw (e, with_own s k) (pair_good_lem 0 (omega arith)))
      (λ l. rw (with_after s k j l) (pair_small k j x l h (rw (other_size (dom_of s) k j (λ e. omega arith)) at b)))

  others_small : (m x : ℕ) → m ≤ units_of s → x < dom_of s k * sum_to (λ b. cond (b == k) 0 (dom_of s b)) m → pair_good (cost_number (join_to (with_other s k) m) x) ≡ true
  others_small zero x h b = absurd (omega arith)
  others_small (suc m) x h b = go (nat_lt x start) refl (λ l. others_small m x (omega arith) l)
    where
      start : ℕ
      start = dom_of s k * sum_to (λ b. cond (b == k) 0 (dom_of s b)) m

      len : length (join_to (with_other s k) m) ≡ 2 * start
      len = length_others s (accepted_fit s ok) k in-n m (omega arith)

      go : (t : Bool) → nat_lt x start ≡ t → (x < start → pair_good (cost_number (join_to (with_other s k) m) x) ≡ true) → pair_good (cost_number (join_to (with_other s k) (suc m)) x) ≡ true
      go true e ih =
          let l = ltb-true x start e in
          subst (λ c. pair_good c ≡ true)
          (same_number (join_to (with_other s k) m) (join_to (with_other s k) (suc m)) x x
          (sym (get_or-append (join_to (with_other s k) m) (with_other s k m) 0 (2 * x) (omega (arith, len))))
          (sym (get_or-append (join_to (with_other s k) m) (with_other s k m) 0 (2 * x + 1) (omega (arith, len)))))
          (ih l)
      go false e ih =
          let y : ℕ = x - start in
          let q : start + y ≡ x = omega (arith, ltb-false x start e) in
          let small : y < dom_of s k * cond (m == k) 0 (dom_of s m) =
          omega (arith, mul-add (dom_of s k) (sum_to (λ b. cond (b == k) 0 (dom_of s b)) m) (cond (m == k) 0 (dom_of s m))) in
          subst (λ c. pair_good (cost_number (join_to (with_other s k) (suc m)) c) ≡ true) q
          (rw (others_number s (accepted_fit s ok) k in-n m (suc m) y (omega arith) h small) (with_small m y h small))

  -- those gathered, the unary costs and the pair costs
  unaries_pass : (m : ℕ) → costs_good unary_good (gather_to s k m) 0 (dom_of s k) ≡ true
  unaries_pass m = costs_each unary_good (gather_to s k m) 0 (dom_of s k) (λ x h. rw (zero-add (2 * x), front_number s (accepted_fit s ok) k in-n m x h) (unary_small x h))

  others_pass : costs_good pair_good (gather_to s k (units_of s)) (2 * dom_of s k) (dom_of s k * sum_to (λ b. cond (b == k) 0 (dom_of s b)) (units_of s)) ≡ true
  others_pass =
      costs_each pair_good (gather_to s k (units_of s)) (2 * dom_of s k) (dom_of s k * sum_to (λ b. cond (b == k) 0 (dom_of s b)) (units_of s))
      (λ x h. rw (← mul-add 2 (dom_of s k) x, behind_number s (accepted_fit s ok) k in-n (units_of s) x) (others_small (units_of s) x (omega arith) h))

pub gathered_good : (s : List ℕ) → Accepted s → (own : ℕ) → 1 ≤ own → own ≤ units_of s → (sizes : List ℕ) → take (units_of s) sizes ≡ sizes_of s
    → lent_refusal own (units_of s) sizes (gathered s own) ≡ 0
unfolding gathered
gathered_good s ok own lo hi sizes e =
    let k : ℕ = pred own in
    let h : k < units_of s = omega arith in
    let m : ℕ = other_start (dom_of s) k (units_of s) in
    let unaries : dom_of s k ≡ unary_count own (units_of s) sizes = ap (λ (t : List ℕ). slice_index t k) (sym e) in
    let all : m ≡ lent_count own (units_of s) sizes = ap (λ (t : List ℕ). other_start (λ j. slice_index t j) (pred own) (units_of s)) (sym e) in
    let rest : m - dom_of s k ≡ dom_of s k * sum_to (λ b. cond (b == k) 0 (dom_of s b)) (units_of s) = omega arith in
    refusal_none own (units_of s) sizes (gather_to s k (units_of s)) (dom_of s k) m unaries all (length_gather s (accepted_fit s ok) k h (units_of s) (omega arith))
    (unaries_pass s ok k h (units_of s)) (rw rest (others_pass s ok k h))

-- ---- how many they are

-- a sum of terms of at most M, one of them 0
sum_without : (f : ℕ → ℕ) (M k m : ℕ) → ((b : ℕ) → f b ≤ M) → f k ≡ 0 → k < m → sum_to f m + M ≤ M * m
sum_without f M k zero most none h = absurd (omega arith)
sum_without f M k (suc m) most none h = by_order k m (λ l. omega (arith, most m, sum_without f M k m most none l)) (λ e. let z : f m ≡ 0 = rw e at none in omega (arith, sum_to_le f M m most)) (λ l. absurd (omega arith))

none_or : (t : Bool) (x M : ℕ) → x ≤ M → cond t 0 x ≤ M
none_or true x M h = omega arith
none_or false x M h = h

module _ (s : List ℕ) (ok : Accepted s) (own : ℕ) (lo : 1 ≤ own) (hi : own ≤ units_of s) where
  pub gathered_length : length (gathered s own) ≡ 2 * other_start (dom_of s) (pred own) (units_of s)
  unfolding gathered
  gathered_length = length_gather s (accepted_fit s ok) (pred own) (omega arith) (units_of s) (omega arith)

  -- 16 own values, alone and with 15 other units of 16 values, two bytes each
  pub gathered-most : length (gathered s own) ≤ costs_size
  gathered-most =
      let k : ℕ = pred own in
      let rest : sum_to (λ b. cond (b == k) 0 (dom_of s b)) (units_of s) + 16 ≤ 16 * units_of s =
      sum_without (λ b. cond (b == k) 0 (dom_of s b)) 16 k (units_of s) (λ b. none_or (b == k) (dom_of s b) 16 (dom-most s ok b)) (rw (eq-eqb k k refl)) (omega arith) in
      let others : sum_to (λ b. cond (b == k) 0 (dom_of s b)) (units_of s) ≤ 240 = omega (arith, accepted_units s ok) in
      omega (arith, gathered_length, dom-most s ok k, mul-le-mul (dom-most s ok k) others)

  -- so many bytes are room enough
  enough : (room : ℕ) → costs_size ≤ room → gather_refusal s own room ≡ 0
  unfolding gather_refusal Accepted
  enough room h = simp (ok, range_value (units_of s) own lo hi, le-ltb room (length (gathered s own)) (omega (arith, gathered-most)))

  pub gather_enough : (room : ℕ) → costs_size ≤ room → gather_of s own room ≡ record { refusal = 0; length = length (gathered s own) }
  gather_enough room h = rw (enough room h)

  -- so the bytes in front are those gathered
  pub gather_front : (l : List ℕ) → costs_size ≤ length l → take (gather_of s own (length l)).length (gather_into s own l) ≡ gathered s own
  gather_front l h = rw (enough (length l) h) (take-append_seam (gathered s own) (drop (length (gathered s own)) l))
