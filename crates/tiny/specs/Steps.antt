-- How the code comes by the answer: the refusals in their order, the pieces of a stream, and what a call gives and leaves. Each by its tests. Assumes
-- nothing.
use Rattle.std.specs.Prelude.{ℕ, ◌+◌, ◌*◌, ◌-◌, ◌≤◌, ◌<◌, Bool, cond, drop}
use Rattle.std.proofs.Math.Path.{◌≡◌, refl, ap}
use Rattle.std.proofs.Common.{◌∙◌, zero-add, mul_comm}
use Rattle.std.proofs.Math.Bool.{true, false}
use mathlib.Core.List.{List, [], ◌∷◌, ◌++◌}
use Rattle.std.proofs.Math.Nat.{sub-zero}
use native.Mathlib.Omega.{arith}
use borrow.Author.Tests.{lt-ltb, le-ltb, ltb-true, ltb-false, ne_eqb}
use Rattle.std.proofs.Math.Dec.{eqb, ltb}
use Rattle.std.proofs.Math.ListN.{length, take, length-replicate}
use Rattle.std.proofs.Math.Seq.{take-append_seam}
use Rattle.base.specs.declared.Length.{Length}
use Rattle.base.specs.Bytes.{le16}
use Rattle.base.specs.Join.{join_to}
use Rattle.base.specs.Join.Laws.{length_join}
use Rattle.base.specs.Limits.{stream_size}
use Rattle.base.specs.Put.{put_at, put_within}
use Rattle.base.specs.Put.Laws.{put-fits, put_after}
use Rattle.base.specs.Sums.Laws.{sum_to_same}
use Rattle.table.specs.Stream.{pairs_in, sum_list}
use Rattle.tiny.specs.Binary.{digit}
use Rattle.tiny.specs.Tiny.{is_tiny, sizes_for, costs_for, cost_bytes, tables_of, tiny_stream, tiny_refusal, tiny_of, tiny_into}
use Rattle.tiny.specs.Once.{two_or_three, given_length, none_of_another}

-- ---- refusals

module _ (n x room : ℕ) where
  pub refused_21 : tables_of n ≤ x → 21 ≡ tiny_refusal n x room
  unfolding tiny_refusal
  refused_21 h = simp (le-ltb x (tables_of n) h)

  pub refused_13 : x < tables_of n → room < stream_size → 13 ≡ tiny_refusal n x room
  unfolding tiny_refusal
  refused_13 h r = simp (lt-ltb x (tables_of n) h, lt-ltb room stream_size r)

  pub refused_none : x < tables_of n → stream_size ≤ room → 0 ≡ tiny_refusal n x room
  unfolding tiny_refusal
  refused_none h r = simp (lt-ltb x (tables_of n) h, le-ltb room stream_size r)

  -- what is not refused has a table of that number, and room for it
  pub not_refused : tiny_refusal n x room ≡ 0 → (x < tables_of n) × (stream_size ≤ room)
  unfolding tiny_refusal
  not_refused = go (ltb x (tables_of n)) (ltb room stream_size) refl refl
    where
      go : (a b : Bool) → ltb x (tables_of n) ≡ a → ltb room stream_size ≡ b → ◌≡◌ {A = ℕ} (cond a (cond b 13 0) 21) 0 → (x < tables_of n) × (stream_size ≤ room)
      go true true e f h = absurd (omega arith)
      go true false e f h = (ltb-true x (tables_of n) e, ltb-false room stream_size f)
      go false b e f h = absurd (omega arith)

-- a unit count that has a table
pub tiny_count : (n x : ℕ) → x < tables_of n → is_tiny n ≡ true
tiny_count n x h = go (is_tiny n) refl
  where
    go : (t : Bool) → is_tiny n ≡ t → t ≡ true
    go true e = refl
    go false e = absurd (omega (arith, none_of_another n e))

-- ---- pieces

-- the first k costs
pub costs_length : (m x k : ℕ) → length (join_to (λ i. le16 (digit m x i)) k) ≡ 2 * k
costs_length m x k = length_join (λ i. le16 (digit m x i)) (λ i. 2) (λ i. refl) k ∙ sum_to_same 2 k ∙ mul_comm k 2

pub four_costs : 4 ≡ costs_for 2
unfolding pairs_in sum_list
four_costs = refl

module _ (n : ℕ) (tiny : is_tiny n ≡ true) where
  pub twelve_costs : (n ≡ 2 → ⊥) → 12 ≡ costs_for n
  unfolding pairs_in sum_list
  twelve_costs = two_or_three n tiny (λ m. (m ≡ 2 → ⊥) → 12 ≡ costs_for m) (λ h. absurd (h refl)) (λ h. refl)

  pub few_units : n ≤ 3
  few_units = two_or_three n tiny (λ m. m ≤ 3) (omega arith) (omega arith)

  pub few_costs : costs_for n ≤ 12
  unfolding pairs_in sum_list
  few_costs = two_or_three n tiny (λ m. costs_for m ≤ 12) (omega arith) (omega arith)

  -- n and the sizes are the first of four bytes
  pub shape_first : take (1 + n) (n ∷ 2 ∷ 2 ∷ 2 ∷ []) ≡ n ∷ sizes_for n
  shape_first = two_or_three n tiny (λ m. take (1 + m) (m ∷ 2 ∷ 2 ∷ 2 ∷ []) ≡ m ∷ sizes_for m) refl refl

  -- n and the sizes, then the costs behind them
  pub stream-put : (l : List ℕ) (x : ℕ) → stream_size ≤ length l
      → put_at (put_within l 0 (n ∷ sizes_for n)) (1 + n) (cost_bytes (costs_for n) x) ≡ tiny_stream n x ++ drop (length (tiny_stream n x)) l
  unfolding tiny_stream
  stream-put l x room =
      let k : length (sizes_for n) ≡ n = length-replicate {A = ℕ} n 2 in
      let few = few_units in
      let place : 1 + n ≡ 0 + length (n ∷ sizes_for n) = omega arith in
      ap (λ (m : List ℕ). put_at m (1 + n) (cost_bytes (costs_for n) x)) (put-fits l (n ∷ sizes_for n) 0 (omega arith))
      ∙ ap (λ (i : ℕ). put_at (put_at l 0 (n ∷ sizes_for n)) i (cost_bytes (costs_for n) x)) place
      ∙ put_after l (n ∷ sizes_for n) (cost_bytes (costs_for n) x) 0 (omega arith)
      ∙ rw (zero-add (length (n ∷ (sizes_for n ++ cost_bytes (costs_for n) x))))

-- ---- what a call gives and leaves

module _ (n x : ℕ) (l : List ℕ) where
  pub tiny_refused : (r : ℕ) → r ≡ tiny_refusal n x (length l) → (r ≡ 0 → ⊥) → (record { refusal = r; length = 0 } ≡ tiny_of n x (length l)) × (l ≡ tiny_into n x l)
  unfolding tiny_of tiny_into
  tiny_refused r e h = let f : eqb r 0 ≡ false = ne_eqb r 0 h in rw (← e, f) (refl, refl)

-- ---- for who calls: the stream stands in front of what the call leaves

module _ (n x : ℕ) (h : x < tables_of n) (l : List ℕ) (room : stream_size ≤ length l) (r : Length) (is : r ≡ tiny_of n x (length l)) where
  given-count : r.length ≡ length (tiny_stream n x)
  unfolding tiny_of
  given-count = rw (is, ← refused_none n x (length l) h room)

  pub given-fits : r.length ≤ stream_size
  given-fits =
      let tiny = tiny_count n x h in
      omega (arith, given-count, given_length n tiny x, few_units n tiny, few_costs n tiny)

  pub given_front : take (r.length - 0) (tiny_into n x l) ≡ tiny_stream n x
  unfolding tiny_into
  given_front = rw (← refused_none n x (length l) h room, given-count, sub-zero (length (tiny_stream n x))) (take-append_seam (tiny_stream n x) (drop (length (tiny_stream n x)) l))
