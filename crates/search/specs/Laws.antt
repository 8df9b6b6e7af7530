-- What the answers of the two searches are: the least total with its first assignment in ascending order, or NONE, where it isn't refused, and only
-- the number where it is; and that they are the same where both are given. Each by taking the definition's tests apart; the rest is in Picked.
-- In order: an answer, whatever its refusal; the exhaustive search; branch and bound; how the code comes by them.
-- Assumes nothing.
use Rattle.std.specs.Prelude.{ℕ, ◌≤◌, ◌≡◌, Bool, true, cond, ◌&&◌, List, ltb, leb, length}
use Rattle.std.proofs.Math.Path.{refl, sym, ap}
use Rattle.std.proofs.Common.{◌∙◌, arith}
use Rattle.std.proofs.Math.Bool.{false}
use Rattle.std.proofs.Math.Dec.{eqb}
use borrow.Author.Tests.{ltb-false, eq-eqb, ne_eqb, eqb-true, eqb-false}
use Rattle.base.specs.Limits.{search_limit}
use Rattle.base.specs.Shape.{shape_good}
use Rattle.table.specs.Stream.{opening, units_of, after_units, needed, unaries_at, unaries_in, pairs_at, pairs_in, sizes_of, costs_good, unary_good, pair_good, stream_refusal, Accepted}
use Rattle.costs.specs.declared.ValueOrder.TheVariants.{Ascending}
use Rattle.costs.specs.Instance.{instance_of}
use Rattle.costs.specs.Least.{LeastFirst, Padded}
use Rattle.costs.specs.Least.Laws.{least_unique, first_unique}
use Rattle.costs.specs.Laws.Stream.{sound_of}
use Rattle.search.specs.Search.{refused_by, found_best, answer_by, assignment_count, search_refusal, search_of, branch_and_bound_of}
use Rattle.search.specs.Best.{best_of}
use Rattle.search.specs.Picked.{best_least-first, best_of_padded}

-- ---- an answer, whatever its refusal

module _ (s : List ℕ) (k : ℕ) where
  answer_refusal : (answer_by k s).refusal ≡ k
  answer_refusal = go (eqb k 0) refl
    where
      go : (t : Bool) → eqb k 0 ≡ t → (cond t (found_best (best_of (instance_of s))) (refused_by k)).refusal ≡ k
      go true e = sym (eqb-true k 0 e)
      go false e = refl

  answer-refused : (k ≡ 0 → ⊥) → answer_by k s ≡ refused_by k
  answer-refused h = rw (ne_eqb k 0 h)

  answer-found : k ≡ 0 → answer_by k s ≡ found_best (best_of (instance_of s))
  answer-found h = rw (eq-eqb k 0 h)

  module _ (h : k ≡ 0) (ok : Accepted s) where
    answer-least-first : LeastFirst Ascending (instance_of s) (answer_by k s).total (answer_by k s).values
    answer-least-first = rw (answer-found h) (best_least-first (instance_of s) (sound_of s ok))

    answer_padded : Padded (instance_of s).n (answer_by k s).values
    answer_padded = rw (answer-found h) (best_of_padded (instance_of s) (sound_of s ok))

    answer_is_least-first : (t : ℕ) (l : List ℕ) → LeastFirst Ascending (instance_of s) t l → Padded (instance_of s).n l → answer_by k s ≡ record { refusal = 0; total = t; values = l }
    answer_is_least-first t l f p =
        let I = instance_of s in
        let found = best_least-first I (sound_of s ok) in
        let e : (best_of I).total ≡ t = least_unique Ascending Ascending I (best_of I).total t (best_of I).values l found f in
        let g : (best_of I).values ≡ l = first_unique Ascending I (best_of I).total t (best_of I).values l found f (best_of_padded I (sound_of s ok)) p in
        answer-found h ∙ rw (e, g)

-- ---- the exhaustive search

not_refused : (t r : Bool) (k : ℕ) → eqb k 0 ≡ t → ◌≡◌ {A = ℕ} (cond t (cond r 16 0) k) 0 → (k ≡ 0) × (r ≡ false)
not_refused true true k e h = absurd (omega arith)
not_refused true false k e h = (eqb-true k 0 e, refl)
not_refused false r k e h = absurd (eqb-false k 0 e h)

module _ (s : List ℕ) where
  -- a stream that is searched passes 5, 6 and 7 and has at most 1,048,576 assignments
  pub searched : search_refusal s ≡ 0 → Accepted s × (assignment_count (instance_of s) ≤ search_limit)
  unfolding search_refusal Accepted
  searched h = let q = not_refused (eqb (stream_refusal s) 0) (ltb search_limit (assignment_count (instance_of s))) (stream_refusal s) refl h in (q.0, ltb-false search_limit (assignment_count (instance_of s)) q.1)

  -- the number in the answer
  pub search_refusal_lem : (search_of s).refusal ≡ search_refusal s
  unfolding search_of
  search_refusal_lem = answer_refusal s (search_refusal s)

  -- nothing beside it
  pub search_refused : (search_refusal s ≡ 0 → ⊥) → search_of s ≡ refused_by (search_refusal s)
  unfolding search_of
  search_refused h = answer-refused s (search_refusal s) h

  module _ (h : search_refusal s ≡ 0) where
    -- an assignment that totals what is reported, every one at least that and each before it more; or NONE, with no assignment
    pub search_least-first : LeastFirst Ascending (instance_of s) (search_of s).total (search_of s).values
    unfolding search_of
    search_least-first = answer-least-first s (search_refusal s) h (searched h).0

    pub search_padded : Padded (instance_of s).n (search_of s).values
    unfolding search_of
    search_padded = answer_padded s (search_refusal s) h (searched h).0

    -- and there is no other such answer
    pub search_is_least-first : (t : ℕ) (l : List ℕ) → LeastFirst Ascending (instance_of s) t l → Padded (instance_of s).n l → search_of s ≡ record { refusal = 0; total = t; values = l }
    unfolding search_of
    search_is_least-first t l f p = answer_is_least-first s (search_refusal s) h (searched h).0 t l f p

-- ---- branch and bound

-- 5, 6 and 7 are the only refusals of a stream
few_refusals : (a b c d : Bool) → ◌≡◌ {A = ℕ} (cond a 6 (cond b (cond c (cond d 0 7) 6) 5)) 16 → ⊥
few_refusals true b c d e = omega arith
few_refusals false true true true e = omega arith
few_refusals false true true false e = omega arith
few_refusals false true false d e = omega arith
few_refusals false false c d e = omega arith

module _ (s : List ℕ) where
  pub bounded_refusal : (branch_and_bound_of s).refusal ≡ stream_refusal s
  unfolding branch_and_bound_of
  bounded_refusal = answer_refusal s (stream_refusal s)

  -- 02: "so 16 isn't given here"
  pub bounded_never_sixteen : (branch_and_bound_of s).refusal ≡ 16 → ⊥
  unfolding stream_refusal
  bounded_never_sixteen e =
      few_refusals (leb (length s) (opening s)) (shape_good (units_of s) (after_units s)) (eqb (length s) (needed s))
      (costs_good unary_good s (unaries_at s) (unaries_in s) && costs_good pair_good s (pairs_at s) (pairs_in (sizes_of s))) (sym bounded_refusal ∙ e)

  pub bounded_refused : (Accepted s → ⊥) → branch_and_bound_of s ≡ refused_by (stream_refusal s)
  unfolding branch_and_bound_of Accepted
  bounded_refused h = answer-refused s (stream_refusal s) h

  module _ (ok : Accepted s) where
    -- "On every accepted table it gives the least total with its first lotting in ascending order"
    pub bounded_least-first : LeastFirst Ascending (instance_of s) (branch_and_bound_of s).total (branch_and_bound_of s).values
    unfolding branch_and_bound_of Accepted
    bounded_least-first = answer-least-first s (stream_refusal s) ok ok

    pub bounded_padded : Padded (instance_of s).n (branch_and_bound_of s).values
    unfolding branch_and_bound_of Accepted
    bounded_padded = answer_padded s (stream_refusal s) ok ok

    pub bounded_is_least-first : (t : ℕ) (l : List ℕ) → LeastFirst Ascending (instance_of s) t l → Padded (instance_of s).n l → branch_and_bound_of s ≡ record { refusal = 0; total = t; values = l }
    unfolding branch_and_bound_of Accepted
    bounded_is_least-first t l f p = answer_is_least-first s (stream_refusal s) ok ok t l f p

  -- "as the full search does where it takes the table"
  pub bounded_is_search : search_refusal s ≡ 0 → branch_and_bound_of s ≡ search_of s
  bounded_is_search h = bounded_is_least-first (searched s h).0 _ _ (search_least-first s h) (search_padded s h) ∙ sym (search_is_least-first s h _ _ (search_least-first s h) (search_padded s h))

  -- ---- the answers, as each of the code's ways out gives them

  module _ (k : ℕ) (e : k ≡ stream_refusal s) (h : k ≡ 0 → ⊥) where
    pub search_stream-refused : refused_by k ≡ search_of s
    unfolding search_refusal search_of
    search_stream-refused =
        let q : eqb (stream_refusal s) 0 ≡ false = ne_eqb (stream_refusal s) 0 (λ z. h (e ∙ z)) in
        simp (e, q)

    pub bounded_stream-refused : refused_by k ≡ branch_and_bound_of s
    unfolding Accepted
    bounded_stream-refused = ap refused_by e ∙ sym (bounded_refused (λ z. h (e ∙ z)))

  pub search_too_many : stream_refusal s ≡ 0 → ltb search_limit (assignment_count (instance_of s)) ≡ true → refused_by 16 ≡ search_of s
  unfolding search_refusal search_of
  search_too_many e h = simp (eq-eqb (stream_refusal s) 0 e, h)

  pub search_found : stream_refusal s ≡ 0 → ltb search_limit (assignment_count (instance_of s)) ≡ false → found_best (best_of (instance_of s)) ≡ search_of s
  unfolding search_refusal search_of
  search_found e h = simp (eq-eqb (stream_refusal s) 0 e, h)

  pub bounded_found : stream_refusal s ≡ 0 → found_best (best_of (instance_of s)) ≡ branch_and_bound_of s
  unfolding branch_and_bound_of
  bounded_found e = sym (answer-found s (stream_refusal s) e)
