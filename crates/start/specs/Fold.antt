-- Bytes that come in one after the other: lists of them one behind the other, and what is written of them. By induction on the list. Assumes nothing.
use Prim.Native.Nat.{ℕ, ◌+◌, ◌≤◌}
use Rattle.std.specs.Prelude.{◌≡◌, take, drop}
use Rattle.std.proofs.Math.Path.{refl, sym, ap}
use Rattle.std.proofs.Common.{◌∙◌, arith, add-zero, length-drop, take-append-drop, length-take-le}
use mathlib.Core.List.{List, [], ◌∷◌, ◌++◌, append_assoc, append-nil}
use Rattle.std.proofs.Math.ListN.{length, length-append}
use Rattle.base.specs.Put.{put_at, put_within}
use Rattle.base.specs.Put.Laws.{put-fits, put_after}
use Rattle.start.specs.declared.Reader.{Reader}
use Rattle.start.specs.Byte.{after_byte, kept_of, after, kept, filled}

-- ---- one list behind another

pub after_append : (r : Reader) (l m : List ℕ) → after r (l ++ m) ≡ after (after r l) m
unfolding after
after_append r [] m = refl
after_append r (b ∷ l) m = after_append (after_byte r b) l m

-- what is written fits, and the buffer stays as long
pub length_put : (out w : List ℕ) (at : ℕ) → at + length w ≤ length out → length (put_at out at w) ≡ length out
length_put out w at h =
    length-append (take at out ++ w) (drop (at + length w) out)
    ∙ rw (length-append (take at out) w, length-take-le at out (omega arith), length-drop (at + length w) out) (omega arith)

module _ (own : ℕ) where
  pub kept_append : (r : Reader) (l m : List ℕ) → kept own r (l ++ m) ≡ kept own r l ++ kept own (after r l) m
  unfolding after kept
  kept_append r [] m = refl
  kept_append r (b ∷ l) m =
      ap (λ (x : List ℕ). kept_of own r b ++ x) (kept_append (after_byte r b) l m)
      ∙ sym (append_assoc (kept_of own r b) (kept own (after_byte r b) l) (kept own (after (after_byte r b) l) m))

  -- ---- what is written

  -- it stands together, where there is room for it
  pub filled_put : (r : Reader) (at : ℕ) (l out : List ℕ) → at + length (kept own r l) ≤ length out → filled own r at l out ≡ put_at out at (kept own r l)
  unfolding kept filled
  filled_put r at [] out h = sym (rw (append-nil, add-zero) (take-append-drop at out))
  filled_put r at (b ∷ l) out h =
      let w : List ℕ = kept_of own r b in
      let m : List ℕ = kept own (after_byte r b) l in
      let e : length (w ++ m) ≡ length w + length m = length-append w m in
      let f : put_within out at w ≡ put_at out at w = put-fits out w at (omega arith) in
      let p : length (put_at out at w) ≡ length out = length_put out w at (omega arith) in
      ap (filled own (after_byte r b) (at + length w) l) f ∙ filled_put (after_byte r b) (at + length w) l (put_at out at w) (rw p (omega arith)) ∙ put_after out w m at (omega arith)
