-- The stream of an instance is accepted, and its instance is that one. By where each cost stands among the joined lists; that it is within its
-- limit goes list by list.
-- In order: a cost as a number; lengths; the place of a cost; tests of joined lists; `stream-accepted`; `stream-dom`, `stream-cost`.
-- Assumes nothing.
use Rattle.std.specs.Prelude.{◌≡◌, ℕ, zero, suc, ◌+◌, ◌-◌, ◌*◌, ◌<◌, ◌≤◌, Bool, true, false, List, [], ◌∷◌, ◌++◌, length, take, drop, nat_lt, slice_index, slice_index_or, Some, None}
use Rattle.std.proofs.Math.Path.{refl, sym, ap, fun_ext}
use Rattle.std.proofs.Common.{◌∙◌, mul_comm, mul_assoc, suc-mul, zero-add, add-zero, le_refl, mul-le-mul, get_or-drop, get_or-append-add}
use native.Mathlib.Omega.{arith}
use Rattle.std.proofs.Math.ListN.{length-append, get_or-append, get_or-eq_default}
use Rattle.std.proofs.Math.Seq.{take_at, drop_at}
use borrow.Author.Tests.{lt-ltb, ltb-true, ltb-false, ne_eqb}
use Rattle.base.specs.Limits.{form_two, pair_limit}
use Rattle.base.specs.Bytes.{le16}
use Rattle.base.specs.Bytes.Laws.{u16_of_le16}
use Rattle.base.specs.Join.{join_to}
use Rattle.base.specs.Join.Laws.{length_join, join_at}
use Rattle.base.specs.Shape.{is_value, all_in_sixteen}
use Rattle.base.specs.Shape.Laws.{in_sixteen, and_left, and_right, value_range, range_value}
use Rattle.base.specs.Sums.{sum_from, sum_to}
use Rattle.base.specs.Sums.Laws.{sum_to_same, sum_to_scaled, sum_to_shifted}
use Rattle.table.specs.Stream.{in_form_two, opening, units_of, after_units, sizes_of, unaries_in, pairs_in, unaries_at, pairs_at, pair_good, unary_good, costs_good, Accepted}
use Rattle.table.specs.StreamLaws.{opening_one, unaries_one, costs_same, costs_split, pair_small, pair_forbidden as forbidden-good, accepted_by_tests}
use Rattle.costs.specs.Cost.{Cost, pair_cost}
use Rattle.costs.specs.Cost.Laws.{AtMost, pair_forbidden, pair_number_lem}
use Rattle.costs.specs.Instance.{Instance, pair_start, cost_number, table_cost, instance_of, dom_of}
use Rattle.costs.specs.Streamed.{pair_number, row_costs, pair_costs, later_costs, sizes_for, stream_for}
use Rattle.costs.specs.Laws.{Sound}
use Rattle.costs.specs.Laws.Stream.{row_start, pair_end, costs_count}

-- ---- a cost as a number of a table

number_small : (c : Cost) → AtMost pair_limit c → pair_number c < 65536
number_small (Some x) h = omega arith
number_small None h = omega arith

-- it passes check 7
number_good : (c : Cost) → AtMost pair_limit c → pair_good (pair_number c) ≡ true
number_good (Some x) h = pair_small x h
number_good None h = forbidden-good

-- and stands for that cost
number_cost : (c : Cost) → AtMost pair_limit c → pair_cost (pair_number c) ≡ c
number_cost (Some x) h = pair_number_lem x (omega arith)
number_cost None h = pair_forbidden

-- ---- lengths

twice : (a b : ℕ) → a * (2 * b) ≡ 2 * (a * b)
twice a b = sym (mul_assoc a 2 b) ∙ ap (λ (x : ℕ). x * b) (mul_comm a 2) ∙ mul_assoc 2 a b

module _ (I : Instance) where
  row_length : (i j u : ℕ) → length (row_costs I i j u) ≡ 2 * I.dom j
  row_length i j u = length_join _ (λ v. 2) (λ v. refl) (I.dom j) ∙ sum_to_same 2 (I.dom j) ∙ mul_comm (I.dom j) 2

  pub pair_length : (i j : ℕ) → length (pair_costs I i j) ≡ 2 * (I.dom i * I.dom j)
  pair_length i j = length_join _ (λ u. 2 * I.dom j) (row_length i j) (I.dom i) ∙ sum_to_same (2 * I.dom j) (I.dom i) ∙ twice (I.dom i) (I.dom j)

  -- the costs of unit i with the k units after it
  later_sum : (i k : ℕ) → sum_to (λ m. 2 * (I.dom i * I.dom (suc i + m))) k ≡ 2 * (I.dom i * sum_from I.dom (suc i) k)
  later_sum i k =
      sum_to_scaled 2 (λ m. I.dom i * I.dom (suc i + m)) k
      ∙ ap (λ x. 2 * x) (sum_to_scaled (I.dom i) (λ m. I.dom (suc i + m)) k ∙ ap (λ x. I.dom i * x) (sum_to_shifted I.dom (suc i) k))

  later_length : (i : ℕ) → length (later_costs I i) ≡ 2 * (I.dom i * sum_from I.dom (suc i) (I.n - suc i))
  later_length i = length_join _ (λ m. 2 * (I.dom i * I.dom (suc i + m))) (λ m. pair_length i (suc i + m)) (I.n - suc i) ∙ later_sum i (I.n - suc i)

  all_sum : (k : ℕ) → sum_to (λ i. 2 * (I.dom i * sum_from I.dom (suc i) (I.n - suc i))) k ≡ 2 * row_start I.dom I.n k
  all_sum k = sum_to_scaled 2 (λ i. I.dom i * sum_from I.dom (suc i) (I.n - suc i)) k

  costs_length : length (join_to (later_costs I) I.n) ≡ 2 * row_start I.dom I.n I.n
  costs_length = length_join (later_costs I) _ later_length I.n ∙ all_sum I.n

  sizes_length : length (sizes_for I) ≡ I.n
  sizes_length = length_join _ (λ k. 1) (λ k. refl) I.n ∙ sum_to_same 1 I.n ∙ omega arith

-- ---- the place of a cost

module _ (I : Instance) (i j u v : ℕ) (order : i < j) (inside : j < I.n) (lower : u < I.dom i) (higher : v < I.dom j) where
  -- among the costs of its pair, byte by byte
  row_byte : (b : ℕ) → b < 2 → slice_index (row_costs I i j u) (2 * v + b) ≡ slice_index (le16 (pair_number (I.cost i (suc u) j (suc v)))) b
  row_byte b h =
      let p : 2 * v + b ≡ sum_to (λ w. 2) v + b = omega (arith, sum_to_same 2 v) in
      ap (λ x. slice_index (row_costs I i j u) x) p ∙ join_at _ (λ w. 2) (λ w. refl) (I.dom j) v b higher h

  pair_byte : (x : ℕ) → x < 2 * I.dom j → slice_index (pair_costs I i j) (2 * (u * I.dom j) + x) ≡ slice_index (row_costs I i j u) x
  pair_byte x h =
      let p : 2 * (u * I.dom j) + x ≡ sum_to (λ w. 2 * I.dom j) u + x = ap (λ y. y + x) (sym (sum_to_same (2 * I.dom j) u ∙ twice u (I.dom j))) in
      ap (λ y. slice_index (pair_costs I i j) y) p ∙ join_at (row_costs I i j) (λ w. 2 * I.dom j) (row_length I i j) (I.dom i) u x lower h

  later_byte : (x : ℕ) → x < 2 * (I.dom i * I.dom j) → slice_index (later_costs I i) (2 * (I.dom i * sum_from I.dom (suc i) (j - suc i)) + x) ≡ slice_index (pair_costs I i j) x
  later_byte x h =
      let q : suc i + (j - suc i) ≡ j = omega arith in
      let p = later_sum I i (j - suc i) in
      let l : x < 2 * (I.dom i * I.dom (suc i + (j - suc i))) = rw q h in
      rw (← p) (join_at (λ k. pair_costs I i (suc i + k)) (λ m. 2 * (I.dom i * I.dom (suc i + m))) (λ m. pair_length I i (suc i + m)) (I.n - suc i) (j - suc i) x (omega arith) l)
      ∙ ap (λ y. slice_index (pair_costs I i y) x) q

  all_byte : (x : ℕ) → x < 2 * (I.dom i * sum_from I.dom (suc i) (I.n - suc i)) → slice_index (join_to (later_costs I) I.n) (2 * row_start I.dom I.n i + x) ≡ slice_index (later_costs I i) x
  all_byte x h = rw (← all_sum I i) (join_at (later_costs I) (λ k. 2 * (I.dom k * sum_from I.dom (suc k) (I.n - suc k))) (later_length I) I.n i x (omega arith) h)

  cost_byte_lem : (b : ℕ) → b < 2 → slice_index (join_to (later_costs I) I.n) (2 * (pair_start I.dom I.n i j + (u * I.dom j + v)) + b) ≡ slice_index (le16 (pair_number (I.cost i (suc u) j (suc v)))) b
  cost_byte_lem b h =
      let e : I.dom j ≡ I.dom j = refl in
      let in_row : 2 * v + b < 2 * I.dom j = omega arith in
      let rows : suc u * I.dom j ≤ I.dom i * I.dom j = mul-le-mul lower (le_refl (I.dom j)) in
      let in_pair : 2 * (u * I.dom j) + (2 * v + b) < 2 * (I.dom i * I.dom j) = omega (arith, suc-mul u (I.dom j)) in
      let start : ℕ = 2 * (I.dom i * sum_from I.dom (suc i) (j - suc i)) in
      let in-later : start + (2 * (u * I.dom j) + (2 * v + b)) < 2 * (I.dom i * sum_from I.dom (suc i) (I.n - suc i)) = omega (arith, pair_end I.dom I.n i j order inside) in
      let p : 2 * (pair_start I.dom I.n i j + (u * I.dom j + v)) + b ≡ 2 * row_start I.dom I.n i + (start + (2 * (u * I.dom j) + (2 * v + b))) = omega arith in
      ap (λ x. slice_index (join_to (later_costs I) I.n) x) p ∙ all_byte (start + (2 * (u * I.dom j) + (2 * v + b))) in-later ∙ later_byte (2 * (u * I.dom j) + (2 * v + b)) in_pair ∙ pair_byte (2 * v + b) in_row ∙ row_byte b h

  pub cost-there : pair_number (I.cost i (suc u) j (suc v)) < 65536
      → cost_number (join_to (later_costs I) I.n) (pair_start I.dom I.n i j + (u * I.dom j + v)) ≡ pair_number (I.cost i (suc u) j (suc v))
  cost-there small =
      let x : ℕ = 2 * (pair_start I.dom I.n i j + (u * I.dom j + v)) in
      let a : slice_index_or (join_to (later_costs I) I.n) x 0 ≡ slice_index_or (le16 (pair_number (I.cost i (suc u) j (suc v)))) 0 0 = ap (λ y. slice_index (join_to (later_costs I) I.n) y) (sym (add-zero x)) ∙ cost_byte_lem 0 (omega arith) in
      rw (a, cost_byte_lem 1 (omega arith)) (u16_of_le16 (pair_number (I.cost i (suc u) j (suc v))) small)

-- ---- tests of joined lists

-- costs within the limit, one list behind the other
good_append : (a b : List ℕ) (m k : ℕ) → length a ≡ 2 * m → costs_good pair_good a 0 m ≡ true → costs_good pair_good b 0 k ≡ true → costs_good pair_good (a ++ b) 0 (m + k) ≡ true
good_append a b m k l p q =
    let x : costs_good pair_good (a ++ b) 0 m ≡ costs_good pair_good a 0 m = costs_same pair_good (a ++ b) a 0 0 m (λ i h. rw (zero-add i) (get_or-append a b 0 i (omega arith))) in
    let y : costs_good pair_good (a ++ b) (0 + 2 * m) k ≡ costs_good pair_good b 0 k = costs_same pair_good (a ++ b) b (0 + 2 * m) 0 k (λ i h. rw (zero-add i, zero-add (2 * m), ← l) (get_or-append-add a b i 0)) in
    costs_split pair_good (a ++ b) 0 m k ∙ rw (x, y, p, q)

good_join : (f : ℕ → List ℕ) (count : ℕ → ℕ) → ((k : ℕ) → length (f k) ≡ 2 * count k) → ((k : ℕ) → costs_good pair_good (f k) 0 (count k) ≡ true) → (m : ℕ) → costs_good pair_good (join_to f m) 0 (sum_to count m) ≡ true
unfolding costs_good
good_join f count sized good zero = refl
good_join f count sized good (suc m) =
    good_append (join_to f m) (f m) (sum_to count m) (count m) (length_join f (λ k. 2 * count k) sized m ∙ sum_to_scaled 2 count m) (good_join f count sized good m) (good m)

good_one : (c : Cost) → AtMost pair_limit c → costs_good pair_good (le16 (pair_number c)) 0 1 ≡ true
unfolding costs_good
good_one c h = rw (u16_of_le16 (pair_number c) (number_small c h), number_good c h)

module _ (I : Instance) (small : (i u j v : ℕ) → AtMost pair_limit (I.cost i u j v)) where
  row_good : (i j u : ℕ) → costs_good pair_good (row_costs I i j u) 0 (I.dom j) ≡ true
  row_good i j u =
      let e : sum_to (λ v. 1) (I.dom j) ≡ I.dom j = sum_to_same 1 (I.dom j) ∙ omega arith in
      rw e at (good_join (λ v. le16 (pair_number (I.cost i (suc u) j (suc v)))) (λ v. 1) (λ v. refl) (λ v. good_one (I.cost i (suc u) j (suc v)) (small i (suc u) j (suc v))) (I.dom j))

  pair_good_lem : (i j : ℕ) → costs_good pair_good (pair_costs I i j) 0 (I.dom i * I.dom j) ≡ true
  pair_good_lem i j = rw (sum_to_same (I.dom j) (I.dom i)) at (good_join (row_costs I i j) (λ u. I.dom j) (row_length I i j) (row_good i j) (I.dom i))

  later_good : (i : ℕ) → costs_good pair_good (later_costs I i) 0 (I.dom i * sum_from I.dom (suc i) (I.n - suc i)) ≡ true
  later_good i =
      let e : sum_to (λ k. I.dom i * I.dom (suc i + k)) (I.n - suc i) ≡ I.dom i * sum_from I.dom (suc i) (I.n - suc i) =
      sum_to_scaled (I.dom i) (λ k. I.dom (suc i + k)) (I.n - suc i) ∙ ap (λ x. I.dom i * x) (sum_to_shifted I.dom (suc i) (I.n - suc i)) in
      rw e at (good_join (λ k. pair_costs I i (suc i + k)) (λ k. I.dom i * I.dom (suc i + k)) (λ k. pair_length I i (suc i + k)) (λ k. pair_good_lem i (suc i + k)) (I.n - suc i))

  all_good_lem : costs_good pair_good (join_to (later_costs I) I.n) 0 (row_start I.dom I.n I.n) ≡ true
  all_good_lem = good_join (later_costs I) (λ i. I.dom i * sum_from I.dom (suc i) (I.n - suc i)) (later_length I) later_good I.n

-- sizes in range, one list behind the other
all_append : (a b : List ℕ) → all_in_sixteen a ≡ true → all_in_sixteen b ≡ true → all_in_sixteen (a ++ b) ≡ true
unfolding all_in_sixteen
all_append [] b p q = q
all_append (x ∷ a) b p q = rw (and_left (in_sixteen x) (all_in_sixteen a) p) (all_append a b (and_right (in_sixteen x) (all_in_sixteen a) p) q)

-- ---- the stream of a sound instance, in which what is no unit has no values

module _ (I : Instance) (s : Sound I) (past : (k : ℕ) → I.n ≤ k → I.dom k ≡ 0) where
  sizes_in_lem : (m : ℕ) → m ≤ I.n → all_in_sixteen (join_to (λ k. I.dom k ∷ []) m) ≡ true
  unfolding all_in_sixteen
  sizes_in_lem zero h = refl
  sizes_in_lem (suc m) h = all_append (join_to (λ k. I.dom k ∷ []) m) (I.dom m ∷ []) (sizes_in_lem m (omega arith)) (rw (range_value 16 (I.dom m) (s.dom1 m h) (s.dom16 m)))

  size_at : (k : ℕ) → slice_index (sizes_for I) k ≡ I.dom k
  size_at k = go (nat_lt k I.n) refl
    where
      go : (t : Bool) → nat_lt k I.n ≡ t → slice_index (sizes_for I) k ≡ I.dom k
      go true e =
          let p : k ≡ sum_to (λ m. 1) k + 0 = omega (arith, sum_to_same 1 k) in
          ap (λ (x : ℕ). slice_index (sizes_for I) x) p ∙ join_at (λ m. I.dom m ∷ []) (λ m. 1) (λ m. refl) I.n k 0 (ltb-true k I.n e) (omega arith)
      go false e =
          let h = ltb-false k I.n e in
          get_or-eq_default (sizes_for I) 0 {n = k} (omega (arith, sizes_length I)) ∙ sym (past k h)

  pairs-there : pairs_in (sizes_for I) ≡ row_start I.dom I.n I.n
  pairs-there =
      sym (costs_count (sizes_for I)) ∙ ap (λ (f : ℕ → ℕ). row_start f (length (sizes_for I)) (length (sizes_for I))) (fun_ext size_at)
      ∙ ap (λ (m : ℕ). row_start I.dom m m) (sizes_length I)

  -- it is of form one
  pub stream_form : in_form_two (stream_for I) ≡ false
  unfolding stream_for
  stream_form = ne_eqb I.n form_two (λ e. omega (arith, s.n16))

  begins : opening (stream_for I) ≡ 0
  begins = opening_one (stream_for I) stream_form

  -- its parts
  pub stream_units : units_of (stream_for I) ≡ I.n
  unfolding stream_for
  stream_units = ap (λ (o : ℕ). slice_index (I.n ∷ (sizes_for I ++ join_to (later_costs I) I.n)) o) begins

  first-sizes : take I.n (drop 1 (stream_for I)) ≡ sizes_for I
  unfolding stream_for
  first-sizes = take_at (sizes_for I) (join_to (later_costs I) I.n) I.n (sizes_length I)

  sizes-there : sizes_of (stream_for I) ≡ sizes_for I
  sizes-there = ap (λ (m : ℕ). take m (after_units (stream_for I))) stream_units ∙ ap (λ (o : ℕ). take I.n (drop (o + 1) (stream_for I))) begins ∙ first-sizes

  unaries_begin : unaries_at (stream_for I) ≡ suc I.n
  unaries_begin = omega (arith, begins, stream_units)

  pairs-begin : pairs_at (stream_for I) ≡ suc I.n
  pairs-begin = omega (arith, unaries_begin, unaries_one (stream_for I) stream_form)

  last_costs : drop (suc I.n) (stream_for I) ≡ join_to (later_costs I) I.n
  unfolding stream_for
  last_costs = drop_at (sizes_for I) (join_to (later_costs I) I.n) I.n (sizes_length I)

  costs_there : drop (pairs_at (stream_for I)) (stream_for I) ≡ join_to (later_costs I) I.n
  costs_there = ap (λ (k : ℕ). drop k (stream_for I)) pairs-begin ∙ last_costs

  pub stream_length : length (stream_for I) ≡ 1 + I.n + 2 * row_start I.dom I.n I.n
  unfolding stream_for
  stream_length = omega (arith, length-append (sizes_for I) (join_to (later_costs I) I.n), sizes_length I, costs_length I)

  good_there : costs_good pair_good (stream_for I) (pairs_at (stream_for I)) (row_start I.dom I.n I.n) ≡ true
  good_there =
      costs_same pair_good (stream_for I) (join_to (later_costs I) I.n) (pairs_at (stream_for I)) 0 (row_start I.dom I.n I.n)
      (λ i h. rw (zero-add i) (sym (get_or-drop (pairs_at (stream_for I)) (stream_for I) i 0) ∙ ap (λ (l : List ℕ). slice_index l i) costs_there))
      ∙ all_good_lem I s.small

  unaries_there : costs_good unary_good (stream_for I) (unaries_at (stream_for I)) (unaries_in (stream_for I)) ≡ true
  unfolding costs_good
  unaries_there = rw (unaries_one (stream_for I) stream_form)

  pub stream-accepted : Accepted (stream_for I)
  unfolding Accepted
  stream-accepted =
      let count : pairs_in (sizes_of (stream_for I)) ≡ row_start I.dom I.n I.n = ap pairs_in sizes-there ∙ pairs-there in
      sym
      (accepted_by_tests (stream_for I) (omega (arith, begins, stream_length)) (rw stream_units (range_value 16 I.n s.n1 s.n16))
      (rw sizes-there (sizes_in_lem I.n (le_refl I.n))) (rw (pairs-begin, count) (omega (arith, stream_length))) unaries_there (rw count good_there))

  -- its instance
  pub stream-dom : dom_of (stream_for I) ≡ I.dom
  stream-dom = fun_ext (λ k. ap (λ (l : List ℕ). slice_index l k) sizes-there ∙ size_at k)

  pub stream_unary_lem : (k v : ℕ) → (instance_of (stream_for I)).unary k v ≡ 0
  unfolding instance_of
  stream_unary_lem k v = rw stream_form

  pub stream-cost : (i u j v : ℕ) → i < j → j < I.n → is_value (I.dom i) u ≡ true → is_value (I.dom j) v ≡ true → (instance_of (stream_for I)).cost i u j v ≡ I.cost i u j v
  unfolding instance_of
  stream-cost i u j v order inside p q =
      let a = value_range (I.dom i) u p in
      let b = value_range (I.dom j) v q in
      let x : suc (u - 1) ≡ u = omega arith in
      let y : suc (v - 1) ≡ v = omega arith in
      let small : pair_number (I.cost i (suc (u - 1)) j (suc (v - 1))) < 65536 = number_small (I.cost i (suc (u - 1)) j (suc (v - 1))) (s.small i (suc (u - 1)) j (suc (v - 1))) in
      let there = cost-there I i j (u - 1) (v - 1) order inside (omega arith) (omega arith) small in
      ap (λ (f : ℕ → ℕ). table_cost (units_of (stream_for I)) f (drop (pairs_at (stream_for I)) (stream_for I)) i u j v) stream-dom
      ∙ ap (λ (m : ℕ). table_cost m I.dom (drop (pairs_at (stream_for I)) (stream_for I)) i u j v) stream_units ∙ ap (λ (l : List ℕ). table_cost I.n I.dom l i u j v) costs_there
      ∙ rw (lt-ltb i j order, lt-ltb j I.n inside, p, q) (ap pair_cost (rw (x, y) at there) ∙ number_cost (I.cost i u j v) (s.small i u j v))
