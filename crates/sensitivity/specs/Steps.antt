-- How the code comes by its answers: the sizes of an array; each way out of the two calls that find a number's place. By taking
-- the definitions' tests apart. Assumes nothing.
use Rattle.std.specs.Prelude.{ℕ, zero, suc, Some, None, Result, Ok, Err, ◌+◌, ◌*◌, ◌-◌, ◌≤◌, ◌<◌, ◌≡◌, refl, Bool, true, false, ◌&&◌, List, ltb, eqb, get_or}
use Rattle.std.proofs.Math.Path.{sym, ap, fun_ext}
use Rattle.std.proofs.Common.{◌∙◌, arith}
use Rattle.std.proofs.Math.ListN.{get_or-eq_default}
use borrow.Author.Tests.{le-ltb, lt-ltb, ltb-true, ltb-false, eq-eqb, ne_eqb}
use Rattle.std.specs.Result.{is_err}
use Rattle.base.specs.declared.Refusal.{Refusal}
use Rattle.base.specs.Refusal.{told}
use Rattle.base.specs.Refusal.Laws.{number_some}
use Rattle.base.specs.Shape.{is_value}
use Rattle.base.specs.Sums.{sum_from, sum_to}
use Rattle.base.specs.Sums.Laws.{sum_to_sum_from}
use Rattle.table.specs.Stream.{in_form_two, opening, units_of, after_units, sizes_of, sum_list, unaries_in, stream_refusal, Accepted}
use Rattle.table.specs.StreamLaws.{opening-two, form_one, form_two_lem, unaries_by, accepted_units}
use Rattle.costs.specs.Instance.{dom_of, pair_start, in_pair}
use Rattle.costs.specs.Gather.{sizes_in}
use Rattle.costs.specs.Gather.Sizes.{length_sizes, sizes_at}
use Rattle.costs.specs.Laws.Stream.{unaries_in_stream, accepted-there}
use Rattle.costs.specs.Lent.Steps.{dom_past_count}
use Rattle.sensitivity.specs.Changes.{Which, Unary, Pair}
use Rattle.sensitivity.specs.Streams.{number_at, has_number, place_of, found_at}

-- ---- what a check tells

pub told_ok : (r : Result Unit Refusal) → is_err r ≡ false → told r ≡ 0
told_ok (Ok x) e = refl
told_ok (Err r) e = cc

pub told_err : (r : Result Unit Refusal) → is_err r ≡ true → told r ≡ 0 → ⊥
told_err (Ok x) e = cc
told_err (Err r) e = number_some r

-- ---- the sizes of an array

abbrev pub size_in : List ℕ → ℕ → ℕ
size_in sizes k = get_or sizes k 0

-- those of a stream
pub sizes_are : (s : List ℕ) → units_of s ≤ 16 → size_in (sizes_in s) ≡ dom_of s
sizes_are s h = fun_ext (λ k. go k (ltb k 16) refl)
  where
    go : (k : ℕ) (t : Bool) → ltb k 16 ≡ t → get_or (sizes_in s) k 0 ≡ dom_of s k
    go k true e = sizes_at s k (ltb-true k 16 e)
    go k false e =
        let l : 16 ≤ k = ltb-false k 16 e in
        get_or-eq_default (sizes_in s) 0 (omega (arith, length_sizes s)) ∙ sym (dom_past_count (units_of s) (after_units s) k (omega arith))

-- ---- where a number stands

false_right : (a : Bool) → (a && false) ≡ false
false_right true = refl
false_right false = refl

module _ (s : List ℕ) where
  pub units_few : stream_refusal s ≡ 0 → units_of s ≤ 16
  unfolding Accepted
  units_few h = (accepted_units s h).1

  pub place-refused : (w : Which) → (stream_refusal s ≡ 0 → ⊥) → None ≡ found_at (place_of s w)
  unfolding place_of
  place-refused w h = rw (ne_eqb (stream_refusal s) 0 h)

  -- n stands in front
  number-positive : (w : Which) → 0 < number_at s w
  number-positive w = omega arith

  place_none : (w : Which) → has_number s w ≡ false → None ≡ found_at (place_of s w)
  unfolding place_of
  place_none w e = rw (e, false_right (eqb (stream_refusal s) 0))

  place-there : (w : Which) → stream_refusal s ≡ 0 → has_number s w ≡ true → Some (number_at s w) ≡ found_at (place_of s w)
  unfolding place_of
  place-there w h e = rw (eq-eqb (stream_refusal s) 0 h, e) (some (number_at s w) (number-positive w))
    where
      some : (x : ℕ) → 0 < x → Some x ≡ found_at x
      some zero h = absurd (omega arith)
      some (suc x) h = refl

  -- a unary cost
  module _ (k v : ℕ) where
    pub no_form : opening s ≡ 0 → None ≡ found_at (place_of s (Unary k v))
    no_form h = place_none (Unary k v) (rw (form_one s h))

    pub no_unit_lem : units_of s ≤ k → None ≡ found_at (place_of s (Unary k v))
    no_unit_lem h = place_none (Unary k v) (rw (le-ltb k (units_of s) h, false_right (in_form_two s)))

    pub no_value : is_value (dom_of s k) v ≡ false → None ≡ found_at (place_of s (Unary k v))
    no_value e = place_none (Unary k v) (rw e (false_right (in_form_two s && ltb k (units_of s))))

    module _ (n sum : ℕ) (units : n ≡ units_of s) (values : sum ≡ sum_from (dom_of s) 0 k) (h : stream_refusal s ≡ 0) (two : opening s ≡ 0 → ⊥) (e : is_value (dom_of s k) v ≡ true) where
      pub unary_found : k < n → Some (2 + n + 2 * (sum + (v - 1))) ≡ found_at (place_of s (Unary k v))
      unary_found lt =
          let o : opening s ≡ 1 = opening-two s (form_two_lem s two) in
          let q : sum ≡ sum_to (dom_of s) k = values ∙ sym (sum_to_sum_from (dom_of s) k) in
          let p : 2 + n + 2 * (sum + (v - 1)) ≡ number_at s (Unary k v) = omega arith in
          ap Some p ∙ place-there (Unary k v) h (rw (form_two_lem s two, lt-ltb k (units_of s) (omega arith), e))

  -- a pair cost
  module _ (i u j v : ℕ) where
    pub not_later : j ≤ i → None ≡ found_at (place_of s (Pair i u j v))
    not_later h = place_none (Pair i u j v) (rw (le-ltb i j h))

    pub no_second : units_of s ≤ j → None ≡ found_at (place_of s (Pair i u j v))
    no_second h = place_none (Pair i u j v) (rw (le-ltb j (units_of s) h, false_right (ltb i j)))

    pub no_first_value : is_value (dom_of s i) u ≡ false → None ≡ found_at (place_of s (Pair i u j v))
    no_first_value e = place_none (Pair i u j v) (rw (e, false_right (ltb i j && ltb j (units_of s))))

    pub no_second_value : is_value (dom_of s j) v ≡ false → None ≡ found_at (place_of s (Pair i u j v))
    no_second_value e = place_none (Pair i u j v) (rw e (false_right (ltb i j && ltb j (units_of s) && is_value (dom_of s i) u)))

    module _ (before n sum start : ℕ) (b : before ≡ opening s) (units : n ≡ units_of s) (values : sum ≡ sum_from (dom_of s) 0 n) (row : start ≡ pair_start (dom_of s) n i j) (h : stream_refusal s ≡ 0) where
      pub pair_found : i < j → j < n → is_value (dom_of s i) u ≡ true → is_value (dom_of s j) v ≡ true
          → Some (before + 1 + n + 2 * (before * sum + (start + ((u - 1) * dom_of s j + (v - 1))))) ≡ found_at (place_of s (Pair i u j v))
      unfolding Accepted
      pair_found lt in-n hu hv =
          let t : sum ≡ sum_list (sizes_of s) = values ∙ ap (λ (m : ℕ). sum_from (dom_of s) 0 m) units ∙ sym (sum_to_sum_from (dom_of s) (units_of s)) ∙ unaries_in_stream s (accepted-there s h) in
          let a : before * sum ≡ unaries_in s = rw (b, t) (sym (unaries_by s)) in
          let r : start ≡ pair_start (dom_of s) (units_of s) i j = row ∙ ap (λ (m : ℕ). pair_start (dom_of s) m i j) units in
          let p : before + 1 + n + 2 * (before * sum + (start + in_pair (dom_of s j) u v)) ≡ number_at s (Pair i u j v) = omega (arith, a, r, b, units) in
          ap Some p ∙ place-there (Pair i u j v) h (rw (lt-ltb i j lt, lt-ltb j (units_of s) (omega arith), hu, hv))
