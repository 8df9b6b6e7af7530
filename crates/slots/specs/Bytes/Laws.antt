-- Laws of cells put into the pool's bytes: the cell itself, the others, and the length. By laws on parts of lists.
-- In order: one cell put in; packets placed; all cells zeroed.
-- Assumes nothing.
use Rattle.std.specs.Prelude.{◌≡◌, ℕ, zero, suc, ◌+◌, ◌-◌, ◌*◌, ◌<◌, ◌≤◌, Bool, true, false, ◌≢◌, List, ◌++◌, length, take, drop, replicate, nat_lt}
use Rattle.std.specs.Prelude.{refl}
use Rattle.std.proofs.Common.{sym, ap, ◌∙◌, append_assoc, arith, ltb-true, ltb-false, take-append-drop, length-append, length-drop, take_at, drop_at, length-take-le, drop-drop}
use Rattle.std.proofs.lemmas.List.{length-replicate, replicate-append-replicate, take-append-le, drop-append-le}
use Rattle.std.proofs.Math.Seq.{drop-append-add}
use Rattle.base.specs.Limits.{message_size}
use Rattle.base.specs.Put.{put_at}
use Rattle.runs.specs.Pool.{cell_of}
use Rattle.table.specs.Block.{all_zero}
use Rattle.std.proofs.Math.Option.{none}
use Rattle.slots.specs.Slot.{used_slots}
use Rattle.slots.specs.Bytes.{slot_bytes, put_cell, zero_cells}

-- a part that lies before what is put in, or behind it

in_front : (p r : List ℕ) (from k : ℕ) → from + k ≤ length p → take k (drop from (p ++ r)) ≡ take k (drop from p)
in_front p r from k h = ap (take k) (drop-append-le from p r (omega (arith, h))) ∙ take-append-le k (drop from p) r (omega (arith, h, length-drop from p))

part_before : (l m : List ℕ) (at from k : ℕ) → at ≤ length l → from + k ≤ at → take k (drop from (put_at l at m)) ≡ take k (drop from l)
part_before l m at from k h e =
    let p : List ℕ = take at l in
    let n : length p ≡ at = length-take-le at l h in
    ap (λ z. take k (drop from z)) (append_assoc p m (drop (at + length m) l)) ∙ in_front p (m ++ drop (at + length m) l) from k (omega (arith, n, e))
    ∙ sym (in_front p (drop at l) from k (omega (arith, n, e))) ∙ ap (λ z. take k (drop from z)) (take-append-drop at l)

part_behind : (l m : List ℕ) (at from k : ℕ) → at ≤ length l → at + length m ≤ from → take k (drop from (put_at l at m)) ≡ take k (drop from l)
part_behind l m at from k h e =
    let p : List ℕ = take at l ++ m in
    let n : length p ≡ at + length m = length-append (take at l) m ∙ ap (λ z. z + length m) (length-take-le at l h) in
    let q : from ≡ length p + (from - (at + length m)) = omega (arith, n, e) in
    let r : at + length m + (from - (at + length m)) ≡ from = omega (arith, e) in
    ap (take k)
    (ap (λ z. drop z (p ++ drop (at + length m) l)) q ∙ drop-append-add p (drop (at + length m) l) (from - (at + length m)) ∙ drop-drop (from - (at + length m)) (at + length m) l ∙ ap (λ z. drop z l) r)

-- ---- one cell put in

module _ (pool : List ℕ) (d : ℕ) (bytes : List ℕ) (sized : length bytes ≡ message_size) (fits : message_size * suc d ≤ length pool) where
  before : length (take (message_size * d) pool) ≡ message_size * d
  before = length-take-le (message_size * d) pool (omega (arith, fits))

  pub length_put : length (put_cell pool d bytes) ≡ length pool
  length_put =
      omega (
        arith,
        fits,
        sized,
        before,
        length-append (take (message_size * d) pool ++ bytes) (drop (message_size * d + length bytes) pool),
        length-append (take (message_size * d) pool) bytes,
        length-drop (message_size * d + length bytes) pool,
      )

  pub cell_put : cell_of (put_cell pool d bytes) d ≡ bytes
  cell_put =
      ap (λ z. cell_of z d) (append_assoc (take (message_size * d) pool) bytes (drop (message_size * d + length bytes) pool))
      ∙ ap (take message_size) (drop_at (take (message_size * d) pool) (bytes ++ drop (message_size * d + length bytes) pool) (message_size * d) before)
      ∙ take_at bytes (drop (message_size * d + length bytes) pool) message_size sized

  pub cell_other : (c : ℕ) → c ≢ d → cell_of (put_cell pool d bytes) c ≡ cell_of pool c
  cell_other c ne = go (nat_lt c d) refl
    where
      go : (t : Bool) → nat_lt c d ≡ t → cell_of (put_cell pool d bytes) c ≡ cell_of pool c
      go true e = part_before pool bytes (message_size * d) (message_size * c) message_size (omega (arith, fits)) (omega (arith, ltb-true c d e))
      go false e = part_behind pool bytes (message_size * d) (message_size * c) message_size (omega (arith, fits)) (omega (arith, ltb-false c d e, ne, sized))

-- ---- zeros

pub zeros_zero : (k : ℕ) → all_zero (replicate k 0) ≡ true
unfolding all_zero
zeros_zero zero = refl
zeros_zero (suc k) = zeros_zero k

module _ (n : ℕ) (pool : List ℕ) (fits : message_size * used_slots n ≤ length pool) where
  many : length (replicate {A = ℕ} (message_size * used_slots n) 0) ≡ message_size * used_slots n
  many = length-replicate (message_size * used_slots n) 0

  pub length_zeroed : length (zero_cells n pool) ≡ length pool
  length_zeroed =
      omega (
        arith,
        fits,
        many,
        length-append (replicate (message_size * used_slots n) 0) (drop (0 + length (replicate {A = ℕ} (message_size * used_slots n) 0)) pool),
        length-drop (0 + length (replicate {A = ℕ} (message_size * used_slots n) 0)) pool,
      )

  pub cell_zeroed : (c : ℕ) → c < used_slots n → cell_of (zero_cells n pool) c ≡ slot_bytes none
  cell_zeroed c lt =
      let a : ℕ = message_size * c in
      let b : ℕ = message_size * used_slots n - (a + message_size) in
      let parts : message_size * used_slots n ≡ a + (message_size + b) = omega (arith, lt) in
      let whole : replicate {A = ℕ} (message_size * used_slots n) 0 ≡ replicate a 0 ++ (replicate message_size 0 ++ replicate b 0) =
      ap (λ k. replicate {A = ℕ} k 0) parts ∙ sym (replicate-append-replicate {A = ℕ} a (message_size + b) 0) ∙ ap (λ z. replicate a 0 ++ z) (sym (replicate-append-replicate {A = ℕ} message_size b 0)) in
      in_front (replicate (message_size * used_slots n) 0) (drop (0 + length (replicate {A = ℕ} (message_size * used_slots n) 0)) pool) a message_size (omega (arith, lt, many))
      ∙ ap (λ z. take message_size (drop a z)) whole
      ∙ ap (take message_size) (drop_at (replicate a 0) (replicate message_size 0 ++ replicate b 0) a (length-replicate a 0))
      ∙ take_at (replicate message_size 0) (replicate b 0) message_size refl
