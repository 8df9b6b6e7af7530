-- Each legal table comes once: the stream that a number gives is legal and reads as the number, and a legal stream is the one that its number
-- gives: so says proofs/Once.antt, of these parts. By the digits' laws, and by taking a stream apart into n, sizes and costs. Assumes nothing.
use Prim.Native.Nat.{ℕ, zero, suc, ◌+◌, ◌*◌, ◌^◌, ◌≤◌, ◌<◌}
use Rattle.std.specs.Prelude.{Bool, true, false, ◌||◌, ◌≡◌, eqb, take}
use Rattle.std.proofs.lemmas.Bool.{false≢true}
use mathlib.Core.List.{List, ◌∷◌, ◌++◌}
use Rattle.std.proofs.Math.Path.{refl, sym, ap}
use Rattle.std.proofs.Common.{◌∙◌, subst, arith, eqb-true, take-add}
use Rattle.std.proofs.Math.ListN.{length, get_or, drop, length-replicate}
use Rattle.std.proofs.Math.Seq.{get_or-append-add, drop-drop}
use Rattle.base.specs.Bytes.{u16_at, le16}
use Rattle.base.specs.Bytes.Laws.{u16_of_le16, le16_of_u16, two_bytes}
use Rattle.base.specs.Join.{join_to}
use Rattle.base.specs.Join.Laws.{join_at}
use Rattle.base.specs.Shape.{all_in_sixteen}
use Rattle.base.specs.Shape.Laws.{in_sixteen}
use Rattle.base.specs.Sums.{sum_to}
use Rattle.base.specs.Sums.Laws.{sum_to_same}
use Rattle.table.specs.Stream.{in_form_two, opening, units_of, sizes_of, pairs_in, sum_list, unaries_in, pairs_at, needed, costs_good, pair_good, Accepted}
use Rattle.table.specs.StreamLaws.{stream_cost, opening_one, unaries_one, pair_small, costs_each, accepted_by_tests, accepted_length}
use Rattle.tiny.specs.Binary.{digit, binary}
use Rattle.tiny.specs.Binary.Laws.{digit-most, binary_below}
use Rattle.tiny.specs.Tiny.{is_tiny, sizes_for, costs_for, cost_bytes, tables_of, tiny_stream, number_of, Legal}

-- how many there are
pub sixteen : tables_of 2 ≡ 16
unfolding tables_of pairs_in sum_list
sixteen = refl

pub four_thousand_ninety_six : tables_of 3 ≡ 4096
unfolding tables_of pairs_in sum_list
four_thousand_ninety_six = refl

pub none_of_another : (n : ℕ) → is_tiny n ≡ false → tables_of n ≡ 0
unfolding tables_of
none_of_another n e = rw e

module _ (n : ℕ) (tiny : is_tiny n ≡ true) where
  -- what holds of two units and of three
  pub two_or_three : (P : ℕ → Type 0) → P 2 → P 3 → P n
  two_or_three P two three = go (eqb n 2) (eqb n 3) refl refl tiny
    where
      go : (a b : Bool) → eqb n 2 ≡ a → eqb n 3 ≡ b → (a || b) ≡ true → P n
      go true b e f h = subst P (sym (eqb-true n 2 e)) two
      go false true e f h = subst P (sym (eqb-true n 3 f)) three
      go false false e f h = absurd (false≢true h)

  pub tables_are : tables_of n ≡ 2 ^ costs_for n
  unfolding tables_of
  tables_are = rw tiny

  -- ---- the stream that a number gives

  module _ (x : ℕ) where
    given_form : in_form_two (tiny_stream n x) ≡ false
    unfolding tiny_stream
    given_form = two_or_three (λ m. in_form_two (tiny_stream m x) ≡ false) refl refl

    given_units : units_of (tiny_stream n x) ≡ n
    unfolding tiny_stream opening
    given_units = two_or_three (λ m. units_of (tiny_stream m x) ≡ m) refl refl

    pub given-sizes : sizes_of (tiny_stream n x) ≡ sizes_for n
    unfolding tiny_stream opening
    given-sizes = two_or_three (λ m. sizes_of (tiny_stream m x) ≡ sizes_for m) refl refl

    given-place : pairs_at (tiny_stream n x) ≡ 1 + n
    unfolding tiny_stream opening unaries_in
    given-place = two_or_three (λ m. pairs_at (tiny_stream m x) ≡ 1 + m) refl refl

    pub given_length : length (tiny_stream n x) ≡ 1 + n + 2 * costs_for n
    unfolding tiny_stream pairs_in sum_list
    given_length = two_or_three (λ m. length (tiny_stream m x) ≡ 1 + m + 2 * costs_for m) refl refl

    given-needed : needed (tiny_stream n x) ≡ 1 + n + 2 * costs_for n
    unfolding tiny_stream opening unaries_in pairs_in sum_list
    given-needed = two_or_three (λ m. needed (tiny_stream m x) ≡ 1 + m + 2 * costs_for m) refl refl

    -- what stands at byte j of the costs
    given_byte : (j : ℕ) → get_or (tiny_stream n x) (1 + n + j) 0 ≡ get_or (cost_bytes (costs_for n) x) j 0
    unfolding tiny_stream
    given_byte j =
        let e : 1 + n + j ≡ length (n ∷ sizes_for n) + j = omega (arith, length-replicate {A = ℕ} n 2) in
        ap (λ (i : ℕ). get_or (tiny_stream n x) i 0) e ∙ get_or-append-add (n ∷ sizes_for n) (cost_bytes (costs_for n) x) j 0

    -- cost k is digit k
    pub given-cost : (k : ℕ) → k < costs_for n → stream_cost (tiny_stream n x) k ≡ digit (costs_for n) x k
    given-cost k h =
        let d : ℕ = digit (costs_for n) x k in
        let byte : (b : ℕ) → b < 2 → get_or (tiny_stream n x) (1 + n + (2 * k + b)) 0 ≡ get_or (le16 d) b 0 =
        λ b l.
        let e : 2 * k ≡ sum_to (λ i. 2) k = omega (arith, sum_to_same 2 k) in
        given_byte (2 * k + b) ∙ rw e (join_at (λ i. le16 (digit (costs_for n) x i)) (λ i. 2) (λ i. refl) (costs_for n) k b h l) in
        let low : 1 + n + 2 * k ≡ 1 + n + (2 * k + 0) = omega arith in
        let high : 1 + n + 2 * k + 1 ≡ 1 + n + (2 * k + 1) = omega arith in
        rw (given-place, high, low, byte 0 (omega arith), byte 1 (omega arith)) (u16_of_le16 d (omega (arith, digit-most (costs_for n) x k)))

    given_small : (k : ℕ) → k < costs_for n → stream_cost (tiny_stream n x) k ≤ 1
    given_small k h = rw (given-cost k h) (digit-most (costs_for n) x k)

    given-accepted : Accepted (tiny_stream n x)
    unfolding Accepted costs_good all_in_sixteen
    given-accepted =
        let s : List ℕ = tiny_stream n x in
        sym
        (accepted_by_tests s
        (omega (arith, opening_one s given_form, given_length))
        (rw given_units (two_or_three (λ m. in_sixteen m ≡ true) refl refl))
        (rw given-sizes (two_or_three (λ m. all_in_sixteen (sizes_for m) ≡ true) refl refl))
        (given_length ∙ sym given-needed)
        (rw (unaries_one s given_form))
        (costs_each pair_good s (pairs_at s) (pairs_in (sizes_of s)) (λ k h. pair_small (stream_cost s k) (omega (arith, given_small k (rw given-sizes at h))))))

    pub given_legal : Legal n (tiny_stream n x)
    given_legal = record { tiny = tiny; accepted = given-accepted; form = given_form; units = given_units; sizes = given-sizes; costs = given_small }

-- ---- a legal stream

-- bytes that read as costs of 0 or 1 are those costs
pub costs_again : (s : List ℕ) (at m : ℕ) → at + 2 * m ≤ length s → ((k : ℕ) → k < m → u16_at s (at + 2 * k) ≤ 1)
    → join_to (λ k. le16 (u16_at s (at + 2 * k))) m ≡ take (2 * m) (drop at s)
costs_again s at zero h small = refl
costs_again s at (suc m) h small =
    let e : 2 * suc m ≡ 2 * m + 2 = omega arith in
    let low = small m (omega arith) in
    rw (e, take-add (2 * m) 2 (drop at s), drop-drop (2 * m) at s, ← costs_again s at m (omega arith) (λ k l. small k (omega arith)), two_bytes s (at + 2 * m) (omega arith))
    (ap (λ (l : List ℕ). join_to (λ k. le16 (u16_at s (at + 2 * k))) m ++ l) (le16_of_u16 (get_or s (at + 2 * m) 0) (get_or s (at + 2 * m + 1) 0) (omega arith) (omega arith)))

pub join_same : (f g : ℕ → List ℕ) (m : ℕ) → ((k : ℕ) → k < m → f k ≡ g k) → join_to f m ≡ join_to g m
join_same f g zero e = refl
join_same f g (suc m) e = rw (join_same f g m (λ k h. e k (omega arith)), e m (omega arith))

module _ (n : ℕ) (s : List ℕ) (legal : Legal n s) where
  no_opening : opening s ≡ 0
  no_opening = opening_one s legal.form

  pub first_byte : get_or s 0 0 ≡ n
  first_byte = ap (λ (i : ℕ). get_or s i 0) (sym no_opening) ∙ legal.units

  pub costs_place : pairs_at s ≡ 1 + n
  costs_place = omega (arith, no_opening, legal.units, unaries_one s legal.form)

  costs_count : pairs_in (sizes_of s) ≡ costs_for n
  costs_count = ap pairs_in legal.sizes

  pub whole : length s ≡ 1 + n + 2 * costs_for n
  whole = accepted_length s legal.accepted ∙ rw (costs_place, costs_count)

  pub these_sizes : take n (drop 1 s) ≡ sizes_for n
  these_sizes =
      let e : opening s + 1 ≡ 1 = omega (arith, no_opening) in
      ap (λ (m : ℕ). take m (drop 1 s)) (sym legal.units) ∙ ap (λ (i : ℕ). take (units_of s) (drop i s)) (sym e) ∙ legal.sizes

  pub number_is : number_of s ≡ binary (stream_cost s) (costs_for n)
  number_is = ap (binary (stream_cost s)) costs_count

  pub below : number_of s < tables_of n
  below = rw (number_is, tables_are n legal.tiny) (binary_below (stream_cost s) (costs_for n) legal.costs)
