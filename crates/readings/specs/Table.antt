-- The table made of readings: its instance is sound, so its stream is accepted; the stream's parts, as the code writes them; and what a call leaves.
-- Assumes nothing.
use Rattle.std.specs.Prelude.{ℕ, zero, suc, ◌+◌, ◌*◌, ◌≤◌, ◌<◌, ◌≡◌, refl, Bool, true, cond, not, ltb, drop, Some}
use Rattle.std.proofs.Common.{sym, ◌∙◌, zero-add, arith, length-append, take-suc}
use Rattle.std.proofs.Math.Path.{ap}
use Rattle.std.proofs.Math.Bool.{false}
use mathlib.Core.List.{List, [], ◌∷◌, ◌++◌}
use Rattle.std.proofs.Math.Dec.{eqb}
use Rattle.std.proofs.Math.ListN.{length, get_or, take}
use Rattle.std.proofs.Math.Seq.{take_all, length-take-le}
use borrow.Author.Tests.{ltb-true, ltb-false, ne_eqb}
use Rattle.base.specs.declared.Length.{Length}
use Rattle.base.specs.Join.{join_to}
use Rattle.base.specs.Limits.{pair_limit, stream_size}
use Rattle.base.specs.Put.{put_at}
use Rattle.base.specs.Put.Laws.{put_after}
use Rattle.base.specs.Shape.{is_value, shape_good}
use Rattle.base.specs.Shape.Laws.{shape_n, shape_size}
use Rattle.table.specs.Stream.{Accepted}
use Rattle.table.specs.StreamLaws.{accepted-most}
use Rattle.costs.specs.Instance.{dom_in, instance_of}
use Rattle.costs.specs.Laws.{Sound}
use Rattle.costs.specs.Lent.Steps.{dom_at, dom_past_count}
use Rattle.costs.specs.Streamed.{later_costs, stream_for}
use Rattle.costs.specs.Streamed.Laws.{stream-accepted, stream-cost, stream_unary_lem}
use Rattle.readings.specs.Readings.{reading_at, gap, gap_cost, in_lots, lines_of, readings_refusal, table_of, table_into}
use Rattle.readings.specs.Checks.{all_good}
use Rattle.readings.specs.Laws.{gap-cost-most}

-- ---- the instance

in_lots-most : (cost u v : ℕ) → cost ≤ pair_limit → in_lots cost u v ≤ pair_limit
in_lots-most cost u v h = go (eqb u v)
  where
    go : (t : Bool) → cond t cost 0 ≤ pair_limit
    go true = h
    go false = omega arith

module _ (n : ℕ) (sizes readings : List ℕ) (good : shape_good n sizes ≡ true) (long : n ≤ length sizes) where
  size_in : (k : ℕ) → k < n → (1 ≤ dom_in n sizes k) × (dom_in n sizes k ≤ 16)
  size_in k h = rw (dom_at n sizes k h) (shape_size n sizes good long k h)

  size_most : (k : ℕ) → dom_in n sizes k ≤ 16
  size_most k = go (ltb k n) refl
    where
      go : (t : Bool) → ltb k n ≡ t → dom_in n sizes k ≤ 16
      go true e = (size_in k (ltb-true k n e)).1
      go false e = omega (arith, dom_past_count n sizes k (ltb-false k n e))

  lines_sound : Sound (lines_of n sizes readings)
  unfolding lines_of
  lines_sound =
      record {
        n1 = (shape_n n sizes good).0;
        n16 = (shape_n n sizes good).1;
        dom1 = λ k h. (size_in k h).0;
        dom16 = size_most;
        unary_small = λ k v. omega arith;
        small = λ i u j v. in_lots-most (gap_cost (gap (reading_at readings i) (reading_at readings j))) u v (gap-cost-most (gap (reading_at readings i) (reading_at readings j)));
      }

  no_more : (k : ℕ) → (lines_of n sizes readings).n ≤ k → (lines_of n sizes readings).dom k ≡ 0
  unfolding lines_of
  no_more k h = dom_past_count n sizes k h

  -- the stream is accepted, by 5, 6 and 7
  pub lines_accepted : Accepted (stream_for (lines_of n sizes readings))
  lines_accepted = stream-accepted (lines_of n sizes readings) lines_sound no_more

  -- and its costs are those of the gaps
  pub lines_cost : (i u j v : ℕ) → i < j → j < n → is_value (dom_in n sizes i) u ≡ true → is_value (dom_in n sizes j) v ≡ true
      → (instance_of (stream_for (lines_of n sizes readings))).cost i u j v ≡ Some (in_lots (gap_cost (gap (reading_at readings i) (reading_at readings j))) u v)
  unfolding lines_of
  lines_cost = stream-cost (lines_of n sizes readings) lines_sound no_more

  -- no lot costs a line anything alone
  pub lines_unary : (k v : ℕ) → (instance_of (stream_for (lines_of n sizes readings))).unary k v ≡ 0
  lines_unary = stream_unary_lem (lines_of n sizes readings) lines_sound no_more

-- ---- the stream's parts

-- numbers one by one are their list
one_by_one : (l : List ℕ) (m : ℕ) → m ≤ length l → join_to (λ k. get_or l k 0 ∷ []) m ≡ take m l
one_by_one l zero h = refl
one_by_one l (suc m) h = rw (one_by_one l m (omega arith)) (sym (take-suc l m 0 h))

module _ (n : ℕ) (sizes readings : List ℕ) (long : n ≤ length sizes) where
  pub lines_stream : stream_for (lines_of n sizes readings) ≡ n ∷ (take n sizes ++ join_to (later_costs (lines_of n sizes readings)) n)
  unfolding lines_of stream_for
  lines_stream =
      let e : length (take n sizes) ≡ n = length-take-le n sizes long in
      let s : join_to (λ k. get_or (take n sizes) k 0 ∷ []) n ≡ take n sizes = one_by_one (take n sizes) n (omega arith) ∙ take_all n (take n sizes) (omega arith) in
      ap (λ (l : List ℕ). n ∷ (l ++ join_to (later_costs (lines_of n sizes readings)) n)) s

  pub stream-count : length (stream_for (lines_of n sizes readings)) ≡ 1 + n + length (join_to (later_costs (lines_of n sizes readings)) n)
  stream-count =
      let costs : List ℕ = join_to (later_costs (lines_of n sizes readings)) n in
      let e : length (take n sizes) ≡ n = length-take-le n sizes long in
      ap length lines_stream ∙ omega (arith, length-append (take n sizes) costs)

  -- n and the sizes written, then the costs behind them
  pub stream-put : (l : List ℕ) → put_at (put_at l 0 (n ∷ take n sizes)) (1 + n) (join_to (later_costs (lines_of n sizes readings)) n) ≡ stream_for (lines_of n sizes readings) ++ drop (length (stream_for (lines_of n sizes readings))) l
  stream-put l =
      let costs : List ℕ = join_to (later_costs (lines_of n sizes readings)) n in
      let e : length (take n sizes) ≡ n = length-take-le n sizes long in
      let place : 1 + n ≡ 0 + length (n ∷ take n sizes) = omega arith in
      ap (λ (k : ℕ). put_at (put_at l 0 (n ∷ take n sizes)) k costs) place ∙ put_after l (n ∷ take n sizes) costs 0 (omega arith)
      ∙ rw (lines_stream, zero-add (length (n ∷ (take n sizes ++ costs))))

-- ---- what a call gives and leaves

-- the tests of readings_refusal, taken apart
passed : (a b c d : Bool) → ◌≡◌ {A = ℕ} (cond (not a) 5 (cond (not b) 6 (cond (not c) 17 (cond d 13 0)))) 0 → (a ≡ true) × (d ≡ false)
passed true true true true h = absurd (omega arith)
passed true true true false h = (refl, refl)
passed true true false d h = absurd (omega arith)
passed true false c d h = absurd (omega arith)
passed false b c d h = absurd (omega arith)

module _ (n : ℕ) (sizes readings : List ℕ) where
  pub not_refused : (room : ℕ) → readings_refusal n sizes readings room ≡ 0 → (shape_good n sizes ≡ true) × (stream_size ≤ room)
  unfolding readings_refusal
  not_refused room h =
      let p = passed (shape_good n sizes) (eqb (length readings) (2 * n)) (all_good n readings) (ltb room stream_size) h in
      (p.0, ltb-false room stream_size p.1)

  -- and there is room for the stream
  pub room_for : (room : ℕ) → n ≤ length sizes → readings_refusal n sizes readings room ≡ 0 → length (stream_for (lines_of n sizes readings)) ≤ room
  room_for room long h =
      let p = not_refused room h in
      omega (arith, p.1, accepted-most (stream_for (lines_of n sizes readings)) (lines_accepted n sizes readings p.0 long))

  pub table-refused : (r : ℕ) (l : List ℕ) → r ≡ readings_refusal n sizes readings (length l) → (r ≡ 0 → ⊥)
      → (record { refusal = r; length = 0 } ≡ table_of n sizes readings (length l)) × (l ≡ table_into n sizes readings l)
  unfolding table_of table_into
  table-refused r l e h = let f : eqb r 0 ≡ false = ne_eqb r 0 h in rw (← e, f) (refl, refl)

  pub table-made : (l : List ℕ) (count : ℕ) → readings_refusal n sizes readings (length l) ≡ 0 → count ≡ length (stream_for (lines_of n sizes readings))
      → ◌≡◌ {A = Length} (record { refusal = 0; length = count }) (table_of n sizes readings (length l))
  unfolding table_of
  table-made l count e c = rw (e, c)

  pub table-left : (l : List ℕ) → readings_refusal n sizes readings (length l) ≡ 0 → stream_for (lines_of n sizes readings) ++ drop (length (stream_for (lines_of n sizes readings))) l ≡ table_into n sizes readings l
  unfolding table_into
  table-left l e = rw e
