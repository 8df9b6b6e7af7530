-- Each legal table comes once: the stream that a number gives is legal and reads as the number, and a legal stream is the one that its number
-- gives. By the digits' laws, and by taking a stream apart into n, sizes and costs. Assumes nothing.
use Prim.Native.Nat.{ℕ, ◌+◌, ◌*◌, ◌≤◌, ◌<◌}
use Rattle.std.specs.Prelude.{true, ◌≡◌}
use mathlib.Core.List.{List, ◌∷◌}
use Rattle.std.proofs.Math.Path.{sym, ap}
use Rattle.std.proofs.Common.{◌∙◌, arith, length-drop, take_all}
use Rattle.std.proofs.Math.ListN.{drop, take-append-drop}
use Rattle.std.proofs.Math.Seq.{drop-cons, drop-drop}
use Rattle.base.specs.Bytes.{u16_at, le16}
use Rattle.table.specs.StreamLaws.{stream_cost}
use Rattle.tiny.specs.Binary.{digit}
use Rattle.tiny.specs.Binary.Laws.{binary_same}
use Rattle.tiny.proofs.Binary.Laws.{binary_of_digits, digit_of_binary}
use Rattle.tiny.specs.Tiny.{is_tiny, costs_for, cost_bytes, tables_of, tiny_stream, number_of, Legal, EachOnce}
use Rattle.tiny.specs.Once.{below, costs_again, costs_place, first_byte, given-cost, given-sizes, given_legal, join_same, number_is, tables_are, these_sizes, whole}

module _ (n : ℕ) (tiny : is_tiny n ≡ true) (x : ℕ) where
  given_number : x < tables_of n → number_of (tiny_stream n x) ≡ x
  given_number h =
      rw (given-sizes n tiny x)
      (binary_same (stream_cost (tiny_stream n x)) (digit (costs_for n) x) (costs_for n) (given-cost n tiny x) ∙ binary_of_digits (costs_for n) x (rw (tables_are n tiny) at h))

module _ (n : ℕ) (s : List ℕ) (legal : Legal n s) where
  these_costs : cost_bytes (costs_for n) (number_of s) ≡ drop (1 + n) s
  these_costs =
      let m : ℕ = costs_for n in
      let small : (k : ℕ) → k < m → u16_at s (1 + n + 2 * k) ≤ 1 = λ k h. rw (← (costs_place n s legal)) (legal.costs k h) in
      let digits : (k : ℕ) → k < m → le16 (digit m (number_of s) k) ≡ le16 (u16_at s (1 + n + 2 * k)) =
      λ k h. rw ((number_is n s legal), digit_of_binary m (stream_cost s) legal.costs k h, (costs_place n s legal)) in
      join_same (λ k. le16 (digit m (number_of s) k)) (λ k. le16 (u16_at s (1 + n + 2 * k))) m digits
      ∙ costs_again s (1 + n) m (omega (arith, (whole n s legal))) small
      ∙ take_all (2 * m) (drop (1 + n) s) (simp length-drop (omega (arith, (whole n s legal))))

  given : tiny_stream n (number_of s) ≡ s
  unfolding tiny_stream
  given =
      let e : s ≡ n ∷ drop 1 s = drop-cons s 0 0 (omega (arith, (whole n s legal))) ∙ ap (λ (x : ℕ). x ∷ drop 1 s) (first_byte n s legal) in
      rw (these_costs, ← (these_sizes n s legal), ← drop-drop n 1 s, take-append-drop n (drop 1 s)) (sym e)

pub each_once : (n : ℕ) → is_tiny n ≡ true → EachOnce n
each_once n tiny = record { legal = λ x h. given_legal n tiny x; number = given_number n tiny; below = below n; given = given n }
