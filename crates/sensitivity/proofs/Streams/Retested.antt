-- A stream with another number for one cost: it is accepted again, and what branch and bound finds of it lies between the ends. Two bytes are put in
-- the number's place, so all others stay, and so does every check. Assumes nothing.
use Rattle.std.specs.Prelude.{ℕ, ◌+◌, ◌*◌, ◌≤◌, ◌/◌, ◌%◌, ◌≡◌, refl, ◌≢◌, Bool, true, false, List, eqb, length, get_or, set}
use Rattle.std.proofs.Math.Path.{sym, ap}
use Rattle.std.proofs.Common.{◌∙◌, subst, arith, length-set, get_or-set_same, get_or-set_other, eqb-true}
use Rattle.std.proofs.lemmas.Bool.{eqb-false}
use Rattle.base.specs.Limits.{pair_limit, forbidden_pair}
use Rattle.base.specs.Bytes.{u16_at}
use Rattle.base.specs.Put.Laws.{put_two}
use Rattle.table.specs.Stream.{opening, units_of, sizes_of, unaries_in, unaries_at, pairs_in, pairs_at, costs_good, unary_good, pair_good, Accepted}
use Rattle.table.specs.StreamLaws.{pair_small, unary_small, costs_each, unaries_two, accepted_by_tests, accepted_units, accepted_all, accepted_length, accepted_unary, accepted-cost}
use Rattle.costs.specs.Instance.{dom_of, instance_of}
use Rattle.costs.specs.Laws.Stream.{in_pair_lt, unary_costs, pair_costs_lem, sizes-there, accepted-there}
use Rattle.base.specs.Shape.Laws.{range_value}
use Rattle.search.specs.Search.{branch_and_bound_of}
use Rattle.sensitivity.specs.Ends.{ends_of, Between}
use Rattle.sensitivity.specs.Changes.{Which, Unary, Pair}
use Rattle.sensitivity.specs.Streams.{number_index, number_at, has_number, OneNumber, retested}
use Rattle.sensitivity.proofs.Streams.Laws.{Stored, stored_of, same_opening, same_units, same_sizes, same_unaries, retest_found}

-- the number's two bytes are in the stream
inside : (s : List ℕ) → Accepted s → (w : Which) → Stored s w → number_at s w + 2 ≤ length s
unfolding instance_of
inside s ok (Unary k v) h = omega (arith, h.0.1, h.0.2, unary_costs s (accepted-there s ok) k h.0.0, unaries_two s h.1, accepted_length s ok)
inside s ok (Pair i u j v) h =
    omega (arith, in_pair_lt (dom_of s i) (dom_of s j) u v h.2 h.3 h.4 h.5, pair_costs_lem s (accepted-there s ok) i j h.0 h.1, accepted_length s ok)

module _ (s : List ℕ) (ok : Accepted s) (w : Which) (there : has_number s w ≡ true) (x : ℕ) (small : x ≤ pair_limit) where
  room : number_at s w + 2 ≤ length s
  room = inside s ok w (stored_of s w there)

  by_bytes : retested s w x ≡ set (set s (number_at s w) (x % 256)) (number_at s w + 1) (x / 256 % 256)
  by_bytes = sym (put_two s (number_at s w) (x % 256) (x / 256 % 256) room)

  as_long : length (retested s w x) ≡ length s
  as_long = rw (by_bytes, length-set, length-set)

  elsewhere : (i : ℕ) → i ≢ number_at s w → i ≢ number_at s w + 1 → get_or (retested s w x) i 0 ≡ get_or s i 0
  elsewhere i p q =
      let a : ℕ = number_at s w in
      ap (λ (l : List ℕ). get_or l i 0) by_bytes
      ∙ get_or-set_other (set s a (x % 256)) (a + 1) i (x / 256 % 256) 0 (λ e. q e)
      ∙ get_or-set_other s a i (x % 256) 0 (λ e. p e)

  pub new_number : u16_at (retested s w x) (number_at s w) ≡ x
  new_number =
      let a : ℕ = number_at s w in
      let low : get_or (retested s w x) a 0 ≡ x % 256 =
      ap (λ (l : List ℕ). get_or l a 0) by_bytes ∙ get_or-set_other (set s a (x % 256)) (a + 1) a (x / 256 % 256) 0 (λ e. omega arith) ∙ get_or-set_same s a (x % 256) 0 (omega (arith, room)) in
      let high : get_or (retested s w x) (a + 1) 0 ≡ x / 256 % 256 =
      ap (λ (l : List ℕ). get_or l (a + 1) 0) by_bytes ∙ get_or-set_same (set s a (x % 256)) (a + 1) (x / 256 % 256) 0 (rw (length-set s a (x % 256)) (omega (arith, room))) in
      omega (arith, low, high)

  -- each number is the new one or as it was, so each passes that did
  unchanged : (j : ℕ) → j ≢ number_index s w → u16_at (retested s w x) (unaries_at s + 2 * j) ≡ u16_at s (unaries_at s + 2 * j)
  unchanged j ne =
      omega (arith, elsewhere (unaries_at s + 2 * j) (λ e. ne (omega arith)) (λ e. omega arith), elsewhere (unaries_at s + 2 * j + 1) (λ e. omega arith) (λ e. ne (omega arith)))

  passes : (good : ℕ → Bool) (j : ℕ) → good x ≡ true → good (u16_at s (unaries_at s + 2 * j)) ≡ true → good (u16_at (retested s w x) (unaries_at s + 2 * j)) ≡ true
  passes good j p q = go (eqb j (number_index s w)) refl
    where
      go : (t : Bool) → eqb j (number_index s w) ≡ t → good (u16_at (retested s w x) (unaries_at s + 2 * j)) ≡ true
      go true e = ap good (ap (λ (k : ℕ). u16_at (retested s w x) (unaries_at s + 2 * k)) (eqb-true j (number_index s w) e) ∙ new_number) ∙ p
      go false e = ap good (unchanged j (eqb-false j (number_index s w) e)) ∙ q

  opening_same : opening (retested s w x) ≡ opening s
  opening_same = same_opening s (retested s w x) w elsewhere

  units_same : units_of (retested s w x) ≡ units_of s
  units_same = same_units s (retested s w x) w elsewhere

  sized : length (sizes_of (retested s w x)) ≡ units_of (retested s w x)
  sized = sizes-there (retested s w x) (omega (arith, opening_same, units_same, as_long, accepted-there s ok))

  sizes_same : sizes_of (retested s w x) ≡ sizes_of s
  sizes_same = same_sizes s (retested s w x) w elsewhere sized ok

  unaries_same : unaries_in (retested s w x) ≡ unaries_in s
  unaries_same = same_unaries s (retested s w x) w elsewhere sized ok

  at_same : unaries_at (retested s w x) ≡ unaries_at s
  at_same = omega (arith, opening_same, units_same)

  unaries_good : costs_good unary_good (retested s w x) (unaries_at (retested s w x)) (unaries_in (retested s w x)) ≡ true
  unaries_good =
      rw (at_same, unaries_same)
      (costs_each unary_good (retested s w x) (unaries_at s) (unaries_in s) (λ j h. passes unary_good j (unary_small x small) (unary_small (u16_at s (unaries_at s + 2 * j)) (accepted_unary s ok j h))))

  pairs_good : costs_good pair_good (retested s w x) (pairs_at (retested s w x)) (pairs_in (sizes_of (retested s w x))) ≡ true
  pairs_good =
      rw (sizes_same, unaries_same, at_same)
      (costs_each pair_good (retested s w x) (pairs_at s) (pairs_in (sizes_of s))
      (λ j h.
      let e : pairs_at s + 2 * j ≡ unaries_at s + 2 * (unaries_in s + j) = omega arith in
      rw e (passes pair_good (unaries_in s + j) (pair_small x small) (rw (← e) (accepted-cost s ok j h)))))

  pub retested-accepted : Accepted (retested s w x)
  unfolding Accepted
  retested-accepted =
      sym
      (accepted_by_tests (retested s w x) (omega (arith, opening_same, as_long, accepted-there s ok)) (rw units_same (range_value 16 (units_of s) (accepted_units s ok).0 (accepted_units s ok).1))
      (rw sizes_same (accepted_all s ok)) (as_long ∙ accepted_length s ok ∙ omega (arith, at_same, unaries_same, ap pairs_in sizes_same)) unaries_good pairs_good)

  one_retested : OneNumber s (retested s w x) w
  one_retested = record { accepted = ok; accepted' = retested-accepted; number = there; elsewhere = elsewhere }

  -- so of an accepted table with another number for one cost that is not forbidden
  pub retest_lies_between : u16_at s (number_at s w) ≢ forbidden_pair → Between (ends_of (branch_and_bound_of s).total (u16_at s (number_at s w)) x) (branch_and_bound_of (retested s w x)).total
  retest_lies_between was =
      let is : u16_at (retested s w x) (number_at s w) ≢ forbidden_pair = λ e. omega (arith, new_number) in
      subst (λ (n : ℕ). Between (ends_of (branch_and_bound_of s).total (u16_at s (number_at s w)) n) (branch_and_bound_of (retested s w x)).total) new_number
      (retest_found s (retested s w x) w one_retested was is)
