-- A stream by its parts: the sizes d, the unary costs u, the pair costs p. Every accepted stream is one of these, and each of these with good
-- parts is accepted; by the seams of the joined lists.
-- In order: the two forms with given parts; form one; form two; that they are accepted; the parts of an accepted stream; conversions.
-- Assumes nothing.
use Prim.Native.Nat.{ℕ, zero, suc, ◌+◌, ◌*◌, ◌≤◌}
use Rattle.std.proofs.Common.{zero-add, add-one, sym, ap, ◌∙◌, length-drop, length-append, take-append-drop, length-take-le, get_or-drop, drop-drop, drop-cons, eqb-true, ne_eqb}
use native.Mathlib.Omega.{arith}
use Rattle.std.specs.Prelude.{Bool, true, false, ◌≡◌, refl, get_or, take, drop, replicate}
use mathlib.Core.List.{List, ◌∷◌, ◌++◌, append_assoc}
use Rattle.std.proofs.Math.ListN.{length}
use Rattle.std.proofs.lemmas.List.{length-replicate}
use Rattle.std.proofs.Math.Seq.{take_at, drop_at}
use Rattle.base.specs.Limits.{form_two}
use Rattle.base.specs.Shape.{all_in_sixteen}
use Rattle.base.specs.Shape.Laws.{range_value}
use Rattle.table.specs.Stream.{in_form_two, opening, units_of, after_units, sizes_of, sum_list, unaries_in, pairs_in, unaries_at, pairs_at, pair_good, unary_good, costs_good, Accepted}
use Rattle.table.specs.Form.{to_one, to_two}
use Rattle.table.specs.StreamLaws.{opening_one, opening-two, unaries_one, unaries_two, costs_same, costs_part, costs_each, unary_small, stream_unary, accepted_by_tests, accepted_unary, accepted-cost, accepted_units, accepted_all, accepted_length, accepted-sizes_length}

-- ---- the two forms with given parts

abbrev pub one_with : List ℕ → List ℕ → List ℕ
one_with d p = length d ∷ (d ++ p)

abbrev pub two_with : List ℕ → List ℕ → List ℕ → List ℕ
two_with d u p = form_two ∷ (length d ∷ (d ++ (u ++ p)))

-- sizes and pair costs that pass 5, 6 and 7
pub record GoodPairs (d p : List ℕ) : Type 0 where
  pub some : 1 ≤ length d
  pub few : length d ≤ 16
  pub sizes : all_in_sixteen d ≡ true
  pub counted : length p ≡ 2 * pairs_in d
  pub within : costs_good pair_good p 0 (pairs_in d) ≡ true

-- and unary costs that do
pub record GoodUnaries (d u : List ℕ) : Type 0 where
  pub counted : length u ≡ 2 * sum_list d
  pub within : costs_good unary_good u 0 (sum_list d) ≡ true

-- the costs of what is left from byte k on
costs_behind : (good : ℕ → Bool) (s : List ℕ) (k m : ℕ) → costs_good good (drop k s) 0 m ≡ costs_good good s k m
costs_behind good s k m = costs_same good (drop k s) s 0 k m (λ i h. rw (zero-add i) (get_or-drop k s i 0))

-- ---- form one

module _ (d p : List ℕ) (few : length d ≤ 16) where
  pub one_form : in_form_two (one_with d p) ≡ false
  one_form = ne_eqb (length d) form_two (λ e. omega arith)

  one_opening : opening (one_with d p) ≡ 0
  one_opening = opening_one (one_with d p) one_form

  pub one_units : units_of (one_with d p) ≡ length d
  one_units = rw one_opening

  pub one_sizes : sizes_of (one_with d p) ≡ d
  one_sizes = rw one_opening (take_at d p (length d) refl)

  one_pairs_at : pairs_at (one_with d p) ≡ suc (length d)
  one_pairs_at = omega (arith, one_opening, one_units, unaries_one (one_with d p) one_form)

  pub one_pairs : drop (pairs_at (one_with d p)) (one_with d p) ≡ p
  one_pairs = rw one_pairs_at (drop_at d p (length d) refl)

-- ---- form two

module _ (d u p : List ℕ) where
  two_form : in_form_two (two_with d u p) ≡ true
  two_form = refl

  two-opening : opening (two_with d u p) ≡ 1
  two-opening = opening-two (two_with d u p) two_form

  pub two_units : units_of (two_with d u p) ≡ length d
  two_units = rw two-opening

  pub two-sizes : sizes_of (two_with d u p) ≡ d
  two-sizes = rw two-opening (take_at d (u ++ p) (length d) refl)

  two_unaries_in : unaries_in (two_with d u p) ≡ sum_list d
  two_unaries_in = unaries_two (two_with d u p) two_form ∙ ap sum_list two-sizes

  two_unaries_at : unaries_at (two_with d u p) ≡ suc (suc (length d))
  two_unaries_at = omega (arith, two-opening, two_units)

  behind_sizes : drop (unaries_at (two_with d u p)) (two_with d u p) ≡ u ++ p
  behind_sizes = rw two_unaries_at (drop_at d (u ++ p) (length d) refl)

  module _ (counted : length u ≡ 2 * sum_list d) where
    pub two_unaries : take (2 * unaries_in (two_with d u p)) (drop (unaries_at (two_with d u p)) (two_with d u p)) ≡ u
    two_unaries = rw (behind_sizes, two_unaries_in) (take_at u p (2 * sum_list d) counted)

    pub two-pairs : drop (pairs_at (two_with d u p)) (two_with d u p) ≡ p
    two-pairs =
        sym (drop-drop (2 * unaries_in (two_with d u p)) (unaries_at (two_with d u p)) (two_with d u p))
        ∙ rw (behind_sizes, two_unaries_in) (drop_at u p (2 * sum_list d) counted)

-- ---- accepted

pub one_accepted : (d p : List ℕ) → GoodPairs d p → Accepted (one_with d p)
unfolding Accepted
one_accepted d p g =
    let s : List ℕ = one_with d p in
    let l : length s ≡ suc (length d + length p) = ap suc (length-append d p) in
    let q : pairs_in (sizes_of s) ≡ pairs_in d = ap pairs_in (one_sizes d p g.few) in
    let o = one_opening d p g.few in
    sym
    (accepted_by_tests s
    (omega arith)
    (rw (one_units d p g.few) (range_value 16 (length d) g.some g.few))
    (rw (one_sizes d p g.few) g.sizes)
    (omega (arith, one_pairs_at d p g.few, g.counted))
    (rw (unaries_one s (one_form d p g.few)) (costs_each unary_good s (unaries_at s) 0 (λ j h. absurd (omega arith))))
    (sym (costs_behind pair_good s (pairs_at s) (pairs_in (sizes_of s))) ∙ rw (one_pairs d p g.few, q) g.within))

pub two-accepted : (d u p : List ℕ) → GoodPairs d p → GoodUnaries d u → Accepted (two_with d u p)
unfolding Accepted
two-accepted d u p g h =
    let s : List ℕ = two_with d u p in
    let l : length s ≡ suc (suc (length d + (length u + length p))) = ap (λ (k : ℕ). suc (suc k)) (length-append d (u ++ p) ∙ ap (λ (k : ℕ). length d + k) (length-append u p)) in
    let q : pairs_in (sizes_of s) ≡ pairs_in d = ap pairs_in (two-sizes d u p) in
    let o = two-opening d u p in
    sym
    (accepted_by_tests s
    (omega arith)
    (rw (two_units d u p) (range_value 16 (length d) g.some g.few))
    (rw (two-sizes d u p) g.sizes)
    (omega (arith, two_unaries_at d u p, two_unaries_in d u p, g.counted, h.counted))
    (sym (costs_part unary_good s (unaries_at s) (unaries_in s) (2 * unaries_in s) (omega arith)) ∙ rw (two_unaries d u p h.counted, two_unaries_in d u p) h.within)
    (sym (costs_behind pair_good s (pairs_at s) (pairs_in (sizes_of s))) ∙ rw (two-pairs d u p h.counted, q) g.within))

-- ---- the parts of an accepted stream

abbrev pub unaries_of : List ℕ → List ℕ
unaries_of s = take (2 * unaries_in s) (drop (unaries_at s) s)

abbrev pub pairs_of : List ℕ → List ℕ
pairs_of s = drop (pairs_at s) s

module _ (s : List ℕ) (ok : Accepted s) where
  -- n and the sizes behind the opening
  units_at : drop (opening s) s ≡ length (sizes_of s) ∷ after_units s
  units_at =
      drop-cons s (opening s) 0 (omega (arith, accepted_length s ok)) ∙ rw (accepted-sizes_length s ok, add-one (opening s))

  sizes_in_front : after_units s ≡ sizes_of s ++ drop (unaries_at s) s
  sizes_in_front = sym (take-append-drop (units_of s) (after_units s)) ∙ rw (drop-drop (units_of s) (opening s + 1) s)

  unaries_in_front : drop (unaries_at s) s ≡ unaries_of s ++ pairs_of s
  unaries_in_front = sym (take-append-drop (2 * unaries_in s) (drop (unaries_at s) s)) ∙ rw (drop-drop (2 * unaries_in s) (unaries_at s) s)

  pub good_pairs : GoodPairs (sizes_of s) (pairs_of s)
  good_pairs =
      record {
        some = rw (accepted-sizes_length s ok) (accepted_units s ok).0;
        few = rw (accepted-sizes_length s ok) (accepted_units s ok).1;
        sizes = accepted_all s ok;
        counted = length-drop (pairs_at s) s ∙ omega (arith, accepted_length s ok);
        within = costs_behind pair_good s (pairs_at s) (pairs_in (sizes_of s)) ∙ costs_each pair_good s (pairs_at s) (pairs_in (sizes_of s)) (accepted-cost s ok);
      }

  pub as_one : in_form_two s ≡ false → s ≡ one_with (sizes_of s) (pairs_of s)
  as_one e =
      let z : opening s ≡ 0 = opening_one s e in
      let w : drop (opening s) s ≡ s = rw z in
      let k : unaries_at s ≡ pairs_at s = omega (arith, unaries_one s e) in
      sym w ∙ units_at ∙ ap (λ (l : List ℕ). length (sizes_of s) ∷ l) (sizes_in_front ∙ ap (λ (j : ℕ). sizes_of s ++ drop j s) k)

  pub good_unaries : in_form_two s ≡ true → GoodUnaries (sizes_of s) (unaries_of s)
  good_unaries e =
      let u = unaries_two s e in
      record {
        counted = length-take-le (2 * unaries_in s) (drop (unaries_at s) s) (simp length-drop (omega (arith, accepted_length s ok))) ∙ ap (λ (k : ℕ). 2 * k) u;
        within = ap (λ (k : ℕ). costs_good unary_good (unaries_of s) 0 k) (sym u) ∙ costs_part unary_good s (unaries_at s) (unaries_in s) (2 * unaries_in s) (omega arith) ∙ costs_each unary_good s (unaries_at s) (unaries_in s) (λ k h. unary_small (stream_unary s k) (accepted_unary s ok k h));
      }

  pub as_two : in_form_two s ≡ true → s ≡ two_with (sizes_of s) (unaries_of s) (pairs_of s)
  as_two e =
      let z : opening s ≡ 1 = opening-two s e in
      let w : drop (opening s) s ≡ drop 1 s = rw z in
      let f : get_or s 0 0 ≡ form_two = eqb-true (get_or s 0 0) form_two e in
      let b = drop-cons s 0 0 (omega (arith, accepted_length s ok)) in
      b ∙ rw f (ap (λ (l : List ℕ). form_two ∷ l) (sym w ∙ units_at ∙ ap (λ (l : List ℕ). length (sizes_of s) ∷ l) (sizes_in_front ∙ ap (λ (l : List ℕ). sizes_of s ++ l) unaries_in_front)))

-- ---- conversions

module _ (d p : List ℕ) (few : length d ≤ 16) where
  pub one_to_two : to_two (one_with d p) ≡ two_with d (replicate (2 * sum_list d) 0) p
  unfolding to_two
  one_to_two =
      let e : suc (length d) ≡ 1 + length d = omega arith in
      rw (one_sizes d p few, one_units d p few, take_at (length d ∷ d) p (1 + length d) e, drop_at (length d ∷ d) p (1 + length d) e)
      (ap (λ (l : List ℕ). form_two ∷ l) (append_assoc (length d ∷ d) (replicate (2 * sum_list d) 0) p))

pub two_to_one : (d u p : List ℕ) → length u ≡ 2 * sum_list d → to_one (two_with d u p) ≡ one_with d p
unfolding to_one
two_to_one d u p counted =
    let e : suc (length d) ≡ 1 + length d = omega arith in
    rw (two-pairs d u p counted, two_units d u p, take_at (length d ∷ d) (u ++ p) (1 + length d) e)

-- unary costs of zero are good
zero_at : (n i : ℕ) → ◌≡◌ {A = ℕ} (get_or (replicate n 0) i 0) 0
zero_at zero i = refl
zero_at (suc n) zero = refl
zero_at (suc n) (suc i) = zero_at n i

pub zeros_good : (d : List ℕ) → GoodUnaries d (replicate (2 * sum_list d) 0)
zeros_good d =
    record {
      counted = length-replicate {A = ℕ} (2 * sum_list d) 0;
      within = costs_each unary_good (replicate (2 * sum_list d) 0) 0 (sum_list d) (λ j h. rw (zero_at (2 * sum_list d) (0 + 2 * j), zero_at (2 * sum_list d) (0 + 2 * j + 1)) (unary_small 0 (omega arith)));
    }
