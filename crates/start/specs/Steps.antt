-- What the steps of the code need: a turn of a loop over bytes, and its end; what is written of a byte; the first run behind the sizes. Assumes nothing.
use Rattle.std.specs.Prelude.{ℕ, suc, ◌+◌, ◌*◌, ◌-◌, ◌≤◌, ◌<◌, true, ◌&&◌, ◌≡◌, refl, List, eqb, length, get_or, set, take, drop, replicate}
use Rattle.std.proofs.Common.{sym, ap, ◌∙◌, arith, add-one, length-append, drop_of_length-le, drop-cons, take_at}
use Rattle.std.proofs.lemmas.List.{length-replicate, replicate-append-replicate}
use Rattle.base.specs.Put.{put_within}
use Rattle.base.specs.Shape.{is_value}
use Rattle.base.specs.Shape.Laws.{value_range, and_left}
use Rattle.start.specs.declared.Reader.{Reader}
use Rattle.start.specs.declared.Stage.TheVariants.{Sizes}
use Rattle.start.specs.Byte.{to_run, one_size, after_byte, zeros_due, kept_of, Keeps, after, kept, filled}

-- ---- a turn of a loop over the bytes, and its end

module _ (l : List ℕ) (i : ℕ) where
  pub after_turn : (r : Reader) → i < length l → after r (drop i l) ≡ after (after_byte r (get_or l i 0)) (drop (i + 1) l)
  unfolding after
  after_turn r h = rw (drop-cons l i 0 h, add-one)

  pub after_end : (r : Reader) → length l ≤ i → after r (drop i l) ≡ r
  unfolding after
  after_end r h = rw (drop_of_length-le l h)

  module _ (own : ℕ) where
    pub kept-turn : (r : Reader) → i < length l → length (kept own r (drop i l)) ≡ length (kept_of own r (get_or l i 0)) + length (kept own (after_byte r (get_or l i 0)) (drop (i + 1) l))
    unfolding kept
    kept-turn r h = rw (drop-cons l i 0 h, add-one) (length-append (kept_of own r (get_or l i 0)) (kept own (after_byte r (get_or l i 0)) (drop (suc i) l)))

    pub filled-turn : (r : Reader) (at : ℕ) (out : List ℕ) → i < length l
        → filled own r at (drop i l) out ≡ filled own (after_byte r (get_or l i 0)) (at + length (kept_of own r (get_or l i 0))) (drop (i + 1) l) (put_within out at (kept_of own r (get_or l i 0)))
    unfolding filled
    filled-turn r at out h = rw (drop-cons l i 0 h, add-one)

    pub kept_end : (r : Reader) → length l ≤ i → length (kept own r (drop i l)) ≡ 0
    unfolding kept
    kept_end r h = rw (drop_of_length-le l h)

    pub filled_end : (r : Reader) (at : ℕ) (out : List ℕ) → length l ≤ i → filled own r at (drop i l) out ≡ out
    unfolding filled
    filled_end r at out h = rw (drop_of_length-le l h)

-- the front of a list of zeros
pub take_zeros : (a b : ℕ) → take a (replicate {A = ℕ} (a + b) 0) ≡ replicate a 0
take_zeros a b = ap (take a) (sym (replicate-append-replicate {A = ℕ} a b 0)) ∙ take_at (replicate a 0) (replicate b 0) a (length-replicate a 0)

-- zeros out of 32
pub keeps_zeros : (out left : List ℕ) (at b w k : ℕ) → w ≡ b → k ≡ 2 * b → b ≤ 16 → left ≡ put_within out at (take k (replicate 32 0)) → Keeps out at (replicate (2 * b) 0) (at + 2 * w) left
keeps_zeros out left at b w k e f h is =
    let n : ℕ = 2 * b in
    let all : n + (32 - n) ≡ 32 = omega arith in
    let z : take n (replicate {A = ℕ} 32 0) ≡ replicate n 0 = rw all at (take_zeros n (32 - n)) in
    (rw (length-replicate, e) refl, omega arith, is ∙ ap (λ (x : ℕ). put_within out at (take x (replicate 32 0))) f ∙ ap (put_within out at) z)

pub due_small : (own : ℕ) (r : Reader) (b : ℕ) → zeros_due own r b ≡ true → b ≤ 16
due_small own r b e = (value_range 16 b (and_left (is_value 16 b) _ (and_left (is_value 16 b && eqb r.row 1) _ e))).1

-- ---- the first run

-- the size is stored, and no other is to come
abbrev pub sized : Reader → List ℕ → Reader
sized r sizes = record { stage = Sizes; n = r.n; sizes = sizes; row = r.row; unit = r.unit; left = r.left; low = r.low; refusal = r.refusal }

pub to_first : (r : Reader) (b : ℕ) {sizes : List ℕ} {x y : ℕ} → sizes ≡ set r.sizes r.unit b → x ≡ r.row → y ≡ r.row → to_run (sized r sizes) x (y + 1) ≡ to_run (one_size r b) r.row (r.row + 1)
unfolding to_run
to_first r b e f g = rw (e, f, g) refl
