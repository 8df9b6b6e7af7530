-- Two accepted tables whose bytes differ in one number differ in one cost, unless it is forbidden in one of them; so what branch and bound finds of the
-- second lies between the ends. In order: each number stands alone, as numbers stand in blocks one behind the other; each cost by its number; the
-- rest is the same; the two tables; any two of one shape. Assumes nothing.
use Prim.Native.Nat.{ℕ, suc, ◌+◌, ◌*◌, ◌-◌, ◌≤◌, ◌<◌}
use Rattle.std.specs.Prelude.{◌≡◌, ◌≢◌, Bool, ◌&&◌, List, ltb, length, get_or, Some}
use Rattle.std.proofs.Math.Path.{refl}
use Rattle.std.proofs.Common.{sym, ap, ◌∙◌, subst, arith, ext_get_or, get_or-take, get_or-drop, ltb-true, ltb-false, lt-ltb, ne_eqb}
use Rattle.std.proofs.Math.Bool.{true, false}
use Rattle.base.specs.Limits.{NONE, forbidden_pair}
use Rattle.base.specs.Bytes.{u16_at}
use Rattle.base.specs.Shape.{is_value}
use Rattle.base.specs.Shape.Laws.{and_left, and_right, value_range, range_value}
use Rattle.base.specs.Sums.{sum_from, sum_to}
use Rattle.base.specs.Sums.Laws.{sum_to_mono, sum_to_same, sum_to_scaled, sum_to_shifted}
use Rattle.table.specs.Stream.{in_form_two, opening, units_of, after_units, sizes_of, sum_list, unaries_in, unaries_at, pairs_at, Accepted}
use Rattle.table.specs.StreamLaws.{unaries_by, unaries_two, accepted-sizes_length}
use Rattle.costs.specs.Cost.{pair_cost}
use Rattle.costs.specs.Instance.{instance_of, dom_of, pair_start, in_pair}
use Rattle.costs.specs.Laws.Stream.{in_pair_lt, pair_end, all_four, unary_number_at, cost_number_at, unary_costs, accepted-there, instance_units, instance_dom, sound_of}
use Rattle.search.specs.Search.{branch_and_bound_of}
use Rattle.search.specs.Laws.{bounded_least-first}
use Rattle.sensitivity.specs.Ends.{ends_of, WithinEnds, Between}
use Rattle.sensitivity.specs.Changes.{Which, Unary, Pair, cost_at, There, SameShape, lowerings, raises, OneCost}
use Rattle.sensitivity.proofs.Laws.{ends_add_up, keeps_none, one_retest}
use Rattle.sensitivity.specs.Streams.{number_index, number_at, has_number, OneNumber}

-- ---- each number stands alone

-- one of the blocks of f 0, f 1, .. numbers, and a place in it: from how many stand before it these are known
in_block : (f : ℕ → ℕ) (j k a b : ℕ) → a < f j → b < f k → sum_to f j + a ≡ sum_to f k + b → (j ≡ k) × (a ≡ b)
in_block f j k a b p q e = go (ltb j k) (ltb k j) refl refl
  where
    go : (t r : Bool) → ltb j k ≡ t → ltb k j ≡ r → (j ≡ k) × (a ≡ b)
    go true r x y = absurd (omega (arith, sum_to_mono f (suc j) k (ltb-true j k x)))
    go false true x y = absurd (omega (arith, sum_to_mono f (suc k) j (ltb-true k j y)))
    go false false x y =
        let h : j ≡ k = omega (arith, ltb-false j k x, ltb-false k j y) in
        let g : sum_to f j ≡ sum_to f k = ap (sum_to f) h in
        (h, omega arith)

-- among the costs of a pair
in_pair_one : (d u v u' v' : ℕ) → 1 ≤ u → 1 ≤ u' → 1 ≤ v → v ≤ d → 1 ≤ v' → v' ≤ d → in_pair d u v ≡ in_pair d u' v' → (u ≡ u') × (v ≡ v')
in_pair_one d u v u' v' u1 u1' v1 vd v1' vd' e =
    let q = in_block (λ _. d) (u - 1) (u' - 1) (v - 1) (v' - 1) (omega arith) (omega arith) (omega (arith, sum_to_same d (u - 1), sum_to_same d (u' - 1))) in
    (omega (arith, q.0), omega (arith, q.1))

-- among those of a unit's pairs, in front of which `sum_from` units stand
row_blocks : (dom : ℕ → ℕ) (i b : ℕ) → sum_to (λ x. dom i * dom (suc i + x)) b ≡ dom i * sum_from dom (suc i) b
row_blocks dom i b = sum_to_scaled (dom i) (λ x. dom (suc i + x)) b ∙ ap (λ (m : ℕ). dom i * m) (sum_to_shifted dom (suc i) b)

in_row : (dom : ℕ → ℕ) (i j j' a a' : ℕ) → i < j → i < j' → a < dom i * dom j → a' < dom i * dom j'
    → dom i * sum_from dom (suc i) (j - suc i) + a ≡ dom i * sum_from dom (suc i) (j' - suc i) + a' → (j ≡ j') × (a ≡ a')
in_row dom i j j' a a' h h' p p' e =
    let x : suc i + (j - suc i) ≡ j = omega arith in
    let x' : suc i + (j' - suc i) ≡ j' = omega arith in
    let q =
    in_block (λ b. dom i * dom (suc i + b)) (j - suc i) (j' - suc i) a a' (subst (λ (m : ℕ). a < dom i * dom m) (sym x) p) (subst (λ (m : ℕ). a' < dom i * dom m) (sym x') p')
    (rw (row_blocks dom i (j - suc i), row_blocks dom i (j' - suc i)) e)
    in
    (omega (arith, q.0), q.1)

-- one of the table's, and in form one no unary cost
abbrev pub Stored : List ℕ → Which → Type 0
Stored s (Unary k v) = There (instance_of s) (Unary k v) × (in_form_two s ≡ true)
Stored s (Pair i u j v) = There (instance_of s) (Pair i u j v)

module _ (s : List ℕ) (ok : Accepted s) where
  pair_one : (i u j v i' u' j' v' : ℕ) → Stored s (Pair i u j v) → Stored s (Pair i' u' j' v')
      → pair_start (dom_of s) (units_of s) i j + in_pair (dom_of s j) u v ≡ pair_start (dom_of s) (units_of s) i' j' + in_pair (dom_of s j') u' v' → Pair i u j v ≡ Pair i' u' j' v'
  unfolding instance_of
  pair_one i u j v i' u' j' v' h h' e =
      let dom : ℕ → ℕ = dom_of s in
      let n : ℕ = units_of s in
      let a : ℕ = in_pair (dom j) u v in
      let a' : ℕ = in_pair (dom j') u' v' in
      let p : a < dom i * dom j = in_pair_lt (dom i) (dom j) u v h.2 h.3 h.4 h.5 in
      let p' : a' < dom i' * dom j' = in_pair_lt (dom i') (dom j') u' v' h'.2 h'.3 h'.4 h'.5 in
      let row : ℕ → ℕ = λ x. dom x * sum_from dom (suc x) (n - suc x) in
      let b : ℕ = dom i * sum_from dom (suc i) (j - suc i) in
      let b' : ℕ = dom i' * sum_from dom (suc i') (j' - suc i') in
      let q = in_block row i i' (b + a) (b' + a') (omega (arith, p, pair_end dom n i j h.0 h.1)) (omega (arith, p', pair_end dom n i' j' h'.0 h'.1)) (omega arith) in
      let r = in_row dom i j j' a a' h.0 (subst (λ (x : ℕ). x < j') (sym q.0) h'.0) p (subst (λ (x : ℕ). a' < dom x * dom j') (sym q.0) p')
      (subst (λ (x : ℕ). b + a ≡ dom x * sum_from dom (suc x) (j' - suc x) + a') (sym q.0) q.1) in
      let z = in_pair_one (dom j) u v u' v' h.2 h'.2 h.4 h.5 h'.4 (subst (λ (x : ℕ). v' ≤ dom x) (sym r.0) h'.5)
      (subst (λ (x : ℕ). a ≡ in_pair (dom x) u' v') (sym r.0) r.1) in
      rw (q.0, r.0, z.0, z.1)

  index_one : (w x : Which) → Stored s w → Stored s x → number_index s w ≡ number_index s x → w ≡ x
  unfolding instance_of
  index_one (Unary k v) (Unary k' v') h h' e =
      let q = in_block (dom_of s) k k' (v - 1) (v' - 1) (omega (arith, h.0.1, h.0.2)) (omega (arith, h'.0.1, h'.0.2)) e in
      let y : v ≡ v' = omega (arith, q.1, h.0.1, h'.0.1) in
      rw (q.0, y)
  index_one (Unary k v) (Pair i u j x) h h' e = absurd (omega (arith, h.0.1, h.0.2, unary_costs s (accepted-there s ok) k h.0.0, unaries_two s h.1))
  index_one (Pair i u j x) (Unary k v) h h' e = absurd (omega (arith, h'.0.1, h'.0.2, unary_costs s (accepted-there s ok) k h'.0.0, unaries_two s h'.1))
  index_one (Pair i u j v) (Pair i' u' j' v') h h' e = pair_one i u j v i' u' j' v' h h' (omega arith)

-- ---- each cost by its number

pub stored_of : (s : List ℕ) (w : Which) → has_number s w ≡ true → Stored s w
unfolding instance_of
stored_of s (Unary k v) e =
    let first = and_left (in_form_two s && ltb k (units_of s)) (is_value (dom_of s k) v) e in
    let v' = value_range (dom_of s k) v (and_right (in_form_two s && ltb k (units_of s)) (is_value (dom_of s k) v) e) in
    ((ltb-true k (units_of s) (and_right (in_form_two s) (ltb k (units_of s)) first), v'.0, v'.1), and_left (in_form_two s) (ltb k (units_of s)) first)
stored_of s (Pair i u j v) e =
    let q = all_four (ltb i j) (ltb j (units_of s)) (is_value (dom_of s i) u) (is_value (dom_of s j) v) e in
    let u' = value_range (dom_of s i) u q.2 in
    let v' = value_range (dom_of s j) v q.3 in
    (ltb-true i j q.0, ltb-true j (units_of s) q.1, u'.0, u'.1, v'.0, v'.1)

number_there : (s : List ℕ) (w : Which) → Stored s w → has_number s w ≡ true
unfolding instance_of
number_there s (Unary k v) h = rw (h.1, lt-ltb k (units_of s) h.0.0, range_value (dom_of s k) v h.0.1 h.0.2)
number_there s (Pair i u j v) h = rw (lt-ltb i j h.0, lt-ltb j (units_of s) h.1, range_value (dom_of s i) u h.2 h.3, range_value (dom_of s j) v h.4 h.5)

unary_number : (s : List ℕ) (k v : ℕ) → Stored s (Unary k v) → (instance_of s).unary k v ≡ u16_at s (number_at s (Unary k v))
unfolding instance_of
unary_number s k v h = rw (h.1, range_value (dom_of s k) v h.0.1 h.0.2) (unary_number_at s (sum_to (dom_of s) k + (v - 1)))

pair_number_lem : (s : List ℕ) (i u j v : ℕ) → Stored s (Pair i u j v) → (instance_of s).cost i u j v ≡ pair_cost (u16_at s (number_at s (Pair i u j v)))
unfolding instance_of
pair_number_lem s i u j v h =
    let x : ℕ = pair_start (dom_of s) (units_of s) i j + in_pair (dom_of s j) u v in
    let e : pairs_at s + 2 * x ≡ unaries_at s + 2 * (unaries_in s + x) = omega arith in
    rw (lt-ltb i j h.0, lt-ltb j (units_of s) h.1, range_value (dom_of s i) u h.2 h.3, range_value (dom_of s j) v h.4 h.5, cost_number_at s x, e)

number_cost : (s : List ℕ) (w : Which) → Stored s w → u16_at s (number_at s w) ≢ forbidden_pair → cost_at (instance_of s) w ≡ Some (u16_at s (number_at s w))
number_cost s (Unary k v) h ne = ap Some (unary_number s k v h)
number_cost s (Pair i u j v) h ne = pair_number_lem s i u j v h ∙ rw (ne_eqb (u16_at s (number_at s (Pair i u j v))) forbidden_pair ne)

-- ---- two streams that differ in one number: the rest is the same

-- where a number stands, by what comes before all numbers
abbrev at_by : ℕ → ℕ → List ℕ → ℕ → Which → ℕ
at_by o n sizes m (Unary k v) = o + 1 + n + 2 * (sum_to (λ x. get_or sizes x 0) k + (v - 1))
at_by o n sizes m (Pair i u j v) = o + 1 + n + 2 * (m + (pair_start (λ x. get_or sizes x 0) n i j + in_pair (get_or sizes j 0) u v))

at_by_lem : (s : List ℕ) (x : Which) → number_at s x ≡ at_by (opening s) (units_of s) (sizes_of s) (unaries_in s) x
at_by_lem s (Unary k v) = refl
at_by_lem s (Pair i u j v) = refl

module _ (s s' : List ℕ) (w : Which) (elsewhere : (i : ℕ) → i ≢ number_at s w → i ≢ number_at s w + 1 → get_or s' i 0 ≡ get_or s i 0) where
  early : (i : ℕ) → i < unaries_at s → get_or s' i 0 ≡ get_or s i 0
  early i h = elsewhere i (λ e. omega arith) (λ e. omega arith)

  same_form_lem : in_form_two s' ≡ in_form_two s
  same_form_lem = rw (early 0 (omega arith))

  pub same_opening : opening s' ≡ opening s
  unfolding opening
  same_opening = rw same_form_lem

  pub same_units : units_of s' ≡ units_of s
  same_units = ap (λ (k : ℕ). get_or s' k 0) same_opening ∙ early (opening s) (omega arith)

  module _ (sized : length (sizes_of s') ≡ units_of s') (ok : Accepted s) where
    pub same_sizes : sizes_of s' ≡ sizes_of s
    same_sizes = ext_get_or 0 (sizes_of s') (sizes_of s) (sized ∙ same_units ∙ sym (accepted-sizes_length s ok)) each
      where
        each : (i : ℕ) → i < length (sizes_of s') → get_or (sizes_of s') i 0 ≡ get_or (sizes_of s) i 0
        each i h =
            let i' : i < units_of s' = omega (arith, sized) in
            let i'' : i < units_of s = omega (arith, same_units) in
            get_or-take (units_of s') (after_units s') i 0 i'
            ∙ get_or-drop (opening s' + 1) s' i 0
            ∙ ap (λ (k : ℕ). get_or s' (k + 1 + i) 0) same_opening
            ∙ early (opening s + 1 + i) (omega arith)
            ∙ sym (get_or-take (units_of s) (after_units s) i 0 i'' ∙ get_or-drop (opening s + 1) s i 0)

    same_dom : dom_of s' ≡ dom_of s
    same_dom = let f : List ℕ → ℕ → ℕ = λ l k. get_or l k 0 in ap f same_sizes

    pub same_unaries : unaries_in s' ≡ unaries_in s
    same_unaries = unaries_by s' ∙ ap (λ (o : ℕ). o * sum_list (sizes_of s')) same_opening ∙ ap (λ (l : List ℕ). opening s * sum_list l) same_sizes ∙ sym (unaries_by s)

    same_at : (x : Which) → number_at s' x ≡ number_at s x
    same_at x =
        at_by_lem s' x
        ∙ ap (λ (o : ℕ). at_by o (units_of s') (sizes_of s') (unaries_in s') x) same_opening
        ∙ ap (λ (n : ℕ). at_by (opening s) n (sizes_of s') (unaries_in s') x) same_units
        ∙ ap (λ (l : List ℕ). at_by (opening s) (units_of s) l (unaries_in s') x) same_sizes
        ∙ ap (λ (m : ℕ). at_by (opening s) (units_of s) (sizes_of s) m x) same_unaries
        ∙ sym (at_by_lem s x)

    same_there : (x : Which) → has_number s' x ≡ has_number s x
    same_there (Unary k v) = rw (same_sizes, same_units, same_form_lem)
    same_there (Pair i u j v) = rw (same_sizes, same_units)

module _ (s s' : List ℕ) (w : Which) (one : OneNumber s s' w) where
  sized : length (sizes_of s') ≡ units_of s'
  sized = accepted-sizes_length s' one.accepted'

  at_same : (x : Which) → number_at s' x ≡ number_at s x
  at_same x = same_at s s' w one.elsewhere sized one.accepted x

  same_number : (x : Which) → Stored s x → x ≢ w → u16_at s' (number_at s x) ≡ u16_at s (number_at s x)
  same_number x h ne =
      let apart : number_index s x ≢ number_index s w = λ e. ne (index_one s one.accepted x w h (stored_of s w one.number) e) in
      omega (arith, one.elsewhere (number_at s x) (λ e. apart (omega arith)) (λ e. omega arith), one.elsewhere (number_at s x + 1) (λ e. omega arith) (λ e. apart (omega arith)))

  kept : (x : Which) → Stored s x → Stored s' x
  kept x h = stored_of s' x (same_there s s' w one.elsewhere sized one.accepted x ∙ number_there s x h)

  -- a cost that is not the one
  stored-cost : (x : Which) → Stored s x → x ≢ w → cost_at (instance_of s') x ≡ cost_at (instance_of s) x
  stored-cost (Unary k v) h ne =
      let x : Which = Unary k v in
      ap Some (unary_number s' k v (kept x h) ∙ ap (λ (at : ℕ). u16_at s' at) (at_same x) ∙ same_number x h ne ∙ sym (unary_number s k v h))
  stored-cost (Pair i u j v) h ne =
      let x : Which = Pair i u j v in
      pair_number_lem s' i u j v (kept x h) ∙ ap (λ (at : ℕ). pair_cost (u16_at s' at)) (at_same x) ∙ ap pair_cost (same_number x h ne) ∙ sym (pair_number_lem s i u j v h)

  same_cost : (x : Which) → There (instance_of s) x → x ≢ w → cost_at (instance_of s') x ≡ cost_at (instance_of s) x
  unfolding instance_of
  same_cost (Unary k v) h ne = go (in_form_two s) refl
    where
      go : (t : Bool) → in_form_two s ≡ t → cost_at (instance_of s') (Unary k v) ≡ cost_at (instance_of s) (Unary k v)
      go true e = stored-cost (Unary k v) (h, e) ne
      go false e = rw (same_form_lem s s' w one.elsewhere, e)
  same_cost (Pair i u j v) h ne = stored-cost (Pair i u j v) h ne

  -- ---- the two tables differ in one cost, unless it is forbidden in one of them

  module _ (was : u16_at s (number_at s w) ≢ forbidden_pair) (is : u16_at s' (number_at s w) ≢ forbidden_pair) where
    pub one_number : OneCost (instance_of s) (instance_of s') w (u16_at s (number_at s w)) (u16_at s' (number_at s w))
    one_number =
        let h : Stored s w = stored_of s w one.number in
        let e : u16_at s' (number_at s' w) ≡ u16_at s' (number_at s w) = ap (λ (at : ℕ). u16_at s' at) (at_same w) in
        record {
          units = instance_units s' ∙ same_units s s' w one.elsewhere ∙ sym (instance_units s);
          sizes = λ k q. ap (λ (f : ℕ → ℕ). f k) (instance_dom s' ∙ same_dom s s' w one.elsewhere sized one.accepted ∙ sym (instance_dom s));
          was = number_cost s w h was;
          becomes = number_cost s' w (kept w h) (λ z. is (sym e ∙ z)) ∙ ap Some e;
          others = same_cost;
        }

    -- what branch and bound finds of the second lies between the ends that the call gives of what it found of the first
    pub retest_found : Between (ends_of (branch_and_bound_of s).total (u16_at s (number_at s w)) (u16_at s' (number_at s w))) (branch_and_bound_of s').total
    retest_found =
        one_retest (instance_of s) (instance_of s') (sound_of s one.accepted) (sound_of s' one.accepted') w _ _ one_number _ _ _ _
        (bounded_least-first s one.accepted).reported (bounded_least-first s' one.accepted').reported

-- ---- any two accepted tables of one shape, by what branch and bound finds of them

module _ (s s' : List ℕ) (ok : Accepted s) (ok' : Accepted s') (same : SameShape (instance_of s) (instance_of s')) where
  pub found_add_up : WithinEnds (branch_and_bound_of s).total (lowerings (instance_of s) (instance_of s')) (raises (instance_of s) (instance_of s')) (branch_and_bound_of s').total
  found_add_up = ends_add_up (instance_of s) (instance_of s') same _ _ _ _ (bounded_least-first s ok).reported (bounded_least-first s' ok').reported (sound_of s ok)

  pub found_none : ((branch_and_bound_of s).total ≡ NONE → (branch_and_bound_of s').total ≡ NONE) × ((branch_and_bound_of s').total ≡ NONE → (branch_and_bound_of s).total ≡ NONE)
  found_none = keeps_none (instance_of s) (instance_of s') same (sound_of s ok) (sound_of s' ok') _ _ _ _ (bounded_least-first s ok).reported (bounded_least-first s' ok').reported
