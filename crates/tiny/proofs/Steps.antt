-- What a call that is not refused gives and leaves. Assumes nothing.
use Rattle.std.specs.Prelude.{ℕ, ◌+◌, ◌*◌}
use Rattle.std.proofs.Math.Path.{◌≡◌}
use mathlib.Core.List.{List, [], ◌∷◌}
use Rattle.std.proofs.Math.ListN.{length, take}
use Rattle.base.specs.declared.Length.{Length}
use Rattle.base.specs.Put.{put_at, put_within}
use Rattle.tiny.specs.Tiny.{sizes_for, costs_for, cost_bytes, tiny_refusal, tiny_of, tiny_into}
use Rattle.tiny.specs.Once.{given_length}
use Rattle.tiny.specs.Steps.{not_refused, shape_first, stream-put, tiny_count}

module _ (n x : ℕ) (l : List ℕ) (e : tiny_refusal n x (length l) ≡ 0) where
  pub tiny_made : (count : ℕ) → count ≡ 1 + n + 2 * costs_for n → ◌≡◌ {A = Length} (record { refusal = 0; length = count }) (tiny_of n x (length l))
  unfolding tiny_of
  tiny_made count c = rw (e, c, given_length n (tiny_count n x (not_refused n x (length l) e).0) x)

  -- n and the sizes were put, then the costs behind them
  pub tiny_left : (m : List ℕ) (start costs : ℕ) → start ≡ 1 + n → costs ≡ costs_for n → m ≡ put_within l 0 (take start (n ∷ 2 ∷ 2 ∷ 2 ∷ []))
      → put_at m start (cost_bytes costs x) ≡ tiny_into n x l
  unfolding tiny_into
  tiny_left m start costs s c put =
      let g = not_refused n x (length l) e in
      let tiny = tiny_count n x g.0 in
      let first : take start (n ∷ 2 ∷ 2 ∷ 2 ∷ []) ≡ n ∷ sizes_for n = rw s (shape_first n tiny) in
      rw (e, put, first, s, c) (stream-put n tiny l x g.1)
