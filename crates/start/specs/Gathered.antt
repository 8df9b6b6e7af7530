-- The runs that are kept of a table's pair costs are those that gathering joins: `rows_gathered`. Rows before the unit's own give a run each, its own
-- row all that is left of them. By the place where a run stands among the costs. Assumes nothing.
use Rattle.std.specs.Prelude.{ℕ, zero, suc, ◌+◌, ◌*◌, ◌-◌, ◌≤◌, ◌<◌, ◌≡◌, refl, Bool, true, false, cond, List, [], ◌∷◌, ◌++◌, ltb, eqb, length, get_or, take, drop, replicate}
use Rattle.std.proofs.Common.{sym, ap, ◌∙◌, append_assoc, append-nil, arith, mul-add, mul-zero, length-drop, get_or-drop, drop-drop, drop-cons, take-add, take_all, take-take, lt-ltb, le-ltb, eq-eqb, ne_eqb}
use Rattle.base.specs.Sums.{sum_from}
use Rattle.base.specs.Sums.Laws.{sum_from-last, sum_to_mono}
use Rattle.base.specs.Join.{join_to}
use Rattle.table.specs.Stream.{sum_list, pairs_in, units_of, sizes_of, pairs_at, Accepted}
use Rattle.table.specs.StreamLaws.{accepted_length, accepted-sizes_length}
use Rattle.costs.specs.Instance.{pair_start, dom_of}
use Rattle.costs.specs.Laws.Stream.{row_start, pair_end, costs_count}
use Rattle.costs.specs.Gathered.{pair_bytes, with_other}
use Rattle.start.specs.Runs.{row_kept, rows_kept}
use Rattle.start.specs.Kept.{sizes_kept, row_before, rows_own}

-- ---- parts of a list

pub take_within : (a b k : ℕ) (l : List ℕ) → b + a ≤ k → take a (drop b (take k l)) ≡ take a (drop b l)
take_within a zero k l h = take-take a k l (omega arith)
take_within a (suc b) zero l h = absurd (omega arith)
take_within a (suc b) (suc k) [] h = refl
take_within a (suc b) (suc k) (x ∷ l) h = take_within a b k l (omega arith)

pub part_sum : (l : List ℕ) (lo j : ℕ) → lo + j ≤ length l → sum_list (take j (drop lo l)) ≡ sum_from (λ k. get_or l k 0) lo j
unfolding sum_list
part_sum l lo zero h = refl
part_sum l lo (suc j) h = rw (drop-cons l lo 0 (omega arith)) (ap (λ (x : ℕ). get_or l lo 0 + x) (part_sum l (suc lo) j (omega arith)))

rest_sum : (l : List ℕ) (lo : ℕ) → lo ≤ length l → sum_list (drop lo l) ≡ sum_from (λ k. get_or l k 0) lo (length l - lo)
rest_sum l lo h = ap sum_list (sym (take_all (length l - lo) (drop lo l) (rw length-drop (omega arith)))) ∙ part_sum l lo (length l - lo) (omega arith)

-- ---- runs

module _ (ds c : List ℕ) where
  abbrev dom : ℕ → ℕ
  dom j = get_or ds j 0

  abbrev n : ℕ
  n = length ds

  -- the bytes of the run of two places, and those of place k with place j
  abbrev pub run_bytes : ℕ → ℕ → List ℕ
  run_bytes i j = take (2 * (dom i * dom j)) (drop (2 * pair_start dom n i j) c)

  abbrev pub run_with : ℕ → ℕ → List ℕ
  run_with k j = cond (eqb j k) [] (cond (ltb j k) (run_bytes j k) (run_bytes k j))

  module _ (k : ℕ) (in-n : k < n) where
    -- a row before the unit's
    row_step : (i : ℕ) → i < k → rows_kept (suc k) (suc i) (drop i ds) (drop (2 * row_start dom n i) c) ≡ run_with k i ++ rows_kept (suc k) (suc (suc i)) (drop (suc i) ds) (drop (2 * row_start dom n (suc i)) c)
    row_step i h =
        ap (λ (y : List ℕ). rows_kept (suc k) (suc i) y l) (drop-cons ds i 0 (omega arith)) ∙ ap (λ (y : List ℕ). y ++ rows_kept (suc k) (suc i + 1) E (drop X l)) (A ∙ piece)
        ∙ ap (λ (y : List ℕ). run_with k i ++ y) rest
      where
        E : List ℕ
        E = drop (suc i) ds

        l : List ℕ
        l = drop (2 * row_start dom n i) c

        X : ℕ
        X = 2 * (dom i * sum_list E)

        j : ℕ
        j = k - suc i

        at : ℕ
        at = 2 * (dom i * sum_from dom (suc i) j)

        all : dom i * sum_list E ≡ dom i * sum_from dom (suc i) (n - suc i)
        all = ap (λ (x : ℕ). dom i * x) (rest_sum ds (suc i) (omega arith))

        A : row_kept (suc k) (suc i) (dom i) (suc i + 1) E (take X l) ≡ take (2 * (dom i * get_or E j 0)) (drop (2 * (dom i * sum_list (take j E))) (take X l))
        A = row_before (suc k) (suc i) (dom i) E (suc i + 1) j (take X l) (λ q. omega (arith, q)) (omega arith) (rw length-drop (omega arith))

        size : get_or E j 0 ≡ dom k
        size = let e : suc i + j ≡ k = omega arith in get_or-drop (suc i) ds j 0 ∙ ap dom e

        place : drop at l ≡ drop (2 * pair_start dom n i k) c
        place = let e : 2 * row_start dom n i + at ≡ 2 * pair_start dom n i k = omega arith in drop-drop at (2 * row_start dom n i) c ∙ ap (λ (x : ℕ). drop x c) e

        piece : take (2 * (dom i * get_or E j 0)) (drop (2 * (dom i * sum_list (take j E))) (take X l)) ≡ run_with k i
        piece =
            rw (size, part_sum ds (suc i) j (omega arith), ne_eqb i k (λ q. omega (arith, q)), lt-ltb i k h)
            (take_within (2 * (dom i * dom k)) at X l (omega (arith, all, pair_end dom n i k h in-n)) ∙ ap (take (2 * (dom i * dom k))) place)

        rest : rows_kept (suc k) (suc i + 1) E (drop X l) ≡ rows_kept (suc k) (suc (suc i)) E (drop (2 * row_start dom n (suc i)) c)
        rest =
            let e : suc i + 1 ≡ suc (suc i) = omega arith in
            let m : 2 * row_start dom n i + X ≡ 2 * row_start dom n (suc i) = omega (arith, all) in
            rw (e, drop-drop X (2 * row_start dom n i) c, m) refl

    -- its own
    own_row : (t : ℕ) → suc k + t ≤ n → join_to (run_with k) k ++ take (2 * (dom k * sum_from dom (suc k) t)) (drop (2 * row_start dom n k) c) ≡ join_to (run_with k) (suc k + t)
    own_row zero h = let e : suc k + 0 ≡ suc k = omega arith in rw (mul-zero (dom k), e, eq-eqb k k refl) refl
    own_row (suc t) h =
        let x : List ℕ = drop (2 * row_start dom n k) c in
        let a : ℕ = 2 * (dom k * sum_from dom (suc k) t) in
        let b : ℕ = 2 * (dom k * dom (suc k + t)) in
        let e : suc k + suc t ≡ suc (suc k + t) = omega arith in
        let q : suc k + t - suc k ≡ t = omega arith in
        let m : 2 * (dom k * sum_from dom (suc k) (suc t)) ≡ a + b = omega (arith, ap (λ (y : ℕ). dom k * y) (sum_from-last dom (suc k) t), mul-add (dom k) (sum_from dom (suc k) t) (dom (suc k + t))) in
        let p : 2 * row_start dom n k + a ≡ 2 * (row_start dom n k + dom k * sum_from dom (suc k) t) = omega arith in
        let last : take b (drop a x) ≡ run_with k (suc k + t)
        = rw (ne_eqb (suc k + t) k (λ z. omega (arith, z)), le-ltb (suc k + t) k (omega arith), q, drop-drop a (2 * row_start dom n k) c, p) refl in
        ap (λ (y : ℕ). join_to (run_with k) k ++ take y x) m ∙ ap (λ (y : List ℕ). join_to (run_with k) k ++ y) (take-add a b x)
        ∙ sym (append_assoc (join_to (run_with k) k) (take a x) (take b (drop a x))) ∙ ap (λ (y : List ℕ). y ++ take b (drop a x)) (own_row t (omega arith))
        ∙ ap (λ (y : List ℕ). join_to (run_with k) (suc k + t) ++ y) last ∙ ap (join_to (run_with k)) (sym e)

    rows_before : (i : ℕ) → i ≤ k → rows_kept (suc k) 1 ds c ≡ join_to (run_with k) i ++ rows_kept (suc k) (suc i) (drop i ds) (drop (2 * row_start dom n i) c)
    rows_before zero h = refl
    rows_before (suc i) h =
        rows_before i (omega arith) ∙ ap (λ (y : List ℕ). join_to (run_with k) i ++ y) (row_step i (omega arith))
        ∙ sym (append_assoc (join_to (run_with k) i) (run_with k i) (rows_kept (suc k) (suc (suc i)) (drop (suc i) ds) (drop (2 * row_start dom n (suc i)) c)))

    -- all that is kept of the pair costs c
    pub rows_gathered : 2 * row_start dom n n ≤ length c → rows_kept (suc k) 1 ds c ≡ join_to (run_with k) n
    rows_gathered long =
        let E : List ℕ = drop (suc k) ds in
        let x : List ℕ = drop (2 * row_start dom n k) c in
        let all : dom k * sum_list E ≡ dom k * sum_from dom (suc k) (n - suc k) = ap (λ (y : ℕ). dom k * y) (rest_sum ds (suc k) (omega arith)) in
        let most : row_start dom n (suc k) ≤ row_start dom n n = sum_to_mono (λ a. dom a * sum_from dom (suc a) (n - suc a)) (suc k) n (omega arith) in
        let e : suc k + (n - suc k) ≡ n = omega arith in
        rows_before k (omega arith) ∙ ap (λ (y : List ℕ). join_to (run_with k) k ++ rows_kept (suc k) (suc k) y x) (drop-cons ds k 0 (omega arith))
        ∙ ap (λ (y : List ℕ). join_to (run_with k) k ++ y) (rows_own (suc k) (dom k) E x (rw length-drop (omega (arith, all, most))) ∙ ap (λ (y : ℕ). take (2 * y) x) all)
        ∙ own_row (n - suc k) (omega arith) ∙ ap (join_to (run_with k)) e

-- ---- of a stream

join_same : (f g : ℕ → List ℕ) (m : ℕ) → ((j : ℕ) → f j ≡ g j) → join_to f m ≡ join_to g m
join_same f g zero e = refl
join_same f g (suc m) e = rw (join_same f g m e, e m) refl

-- runs among the pair costs of an accepted stream are its runs
module _ (s : List ℕ) (ok : Accepted s) where
  run_of : (i j : ℕ) → run_bytes (sizes_of s) (drop (pairs_at s) s) i j ≡ pair_bytes s i j
  run_of i j = rw (accepted-sizes_length s ok) (ap (take (2 * (dom_of s i * dom_of s j))) (drop-drop (2 * pair_start (dom_of s) (units_of s) i j) (pairs_at s) s))

  with_other_lem : (k j : ℕ) → run_with (sizes_of s) (drop (pairs_at s) s) k j ≡ with_other s k j
  with_other_lem k j = go (eqb j k) (ltb j k)
    where
      go : (a b : Bool) → cond a [] (cond b (run_bytes (sizes_of s) (drop (pairs_at s) s) j k) (run_bytes (sizes_of s) (drop (pairs_at s) s) k j)) ≡ cond a [] (cond b (pair_bytes s j k) (pair_bytes s k j))
      go true b = refl
      go false true = run_of j k
      go false false = run_of k j

  pub pairs-gathered : (k : ℕ) → k < units_of s → rows_kept (suc k) 1 (sizes_of s) (drop (pairs_at s) s) ≡ join_to (with_other s k) (units_of s)
  pairs-gathered k h =
      let l : length (sizes_of s) ≡ units_of s = accepted-sizes_length s ok in
      let c : length (drop (pairs_at s) s) ≡ 2 * pairs_in (sizes_of s) = rw length-drop (omega (arith, accepted_length s ok)) in
      rows_gathered (sizes_of s) (drop (pairs_at s) s) k (omega arith) (omega (arith, costs_count (sizes_of s)))
      ∙ join_same (run_with (sizes_of s) (drop (pairs_at s) s) k) (with_other s k) (length (sizes_of s)) (with_other_lem k) ∙ ap (join_to (with_other s k)) l

-- ---- unary costs

zeros_past : (ds : List ℕ) (unit own : ℕ) → own ≤ unit → sizes_kept own 1 unit ds ≡ []
zeros_past [] unit own h = refl
zeros_past (d ∷ ds) unit own h = rw (ne_eqb (unit + 1) own (λ q. omega (arith, q))) (zeros_past ds (unit + 1) own (omega arith))

-- in form one, the zeros that stand for them
pub zeros-kept : (ds : List ℕ) (unit j own : ℕ) → unit + suc j ≡ own → j < length ds → sizes_kept own 1 unit ds ≡ replicate (2 * get_or ds j 0) 0
zeros-kept [] unit j own u h = absurd (omega arith)
zeros-kept (d ∷ ds) unit zero own u h = rw (eq-eqb (unit + 1) own (omega arith), zeros_past ds (unit + 1) own (omega arith)) (append-nil _)
zeros-kept (d ∷ ds) unit (suc j) own u h = rw (ne_eqb (unit + 1) own (λ q. omega (arith, q))) (zeros-kept ds (unit + 1) j own (omega arith) (omega arith))

-- in form two none
pub none_kept : (ds : List ℕ) (unit own : ℕ) → sizes_kept own 0 unit ds ≡ []
none_kept [] unit own = refl
none_kept (d ∷ ds) unit own = none_kept ds (unit + 1) own
