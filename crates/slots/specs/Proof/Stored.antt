-- The pool's bytes and the cells over messages (`Kept`): taking out and placing keep that each cell that n units use has the bytes of its message, or zeros; and what a cell is asked for before it is
-- handed over: whether it is empty, and whether its message is its own.
-- In order: one cell changed; packets placed; the cells as making zeroes them; an empty cell, and one with a message.
-- Assumes nothing.
use Rattle.std.specs.Prelude.{◌≡◌, ℕ, suc, ◌*◌, ◌<◌, ◌≤◌, Bool, true, false, ◌||◌, ◌≢◌, ◌⊎◌, List, [], ◌∷◌, length, replicate, nat_le, slice_set}
use Rattle.std.proofs.Math.Path.{refl, ap}
use Rattle.std.proofs.Common.{sym, ◌∙◌, subst, inl, inr, arith, length-set, leb-true, leb-false}
use Rattle.std.proofs.Math.Option.{Option, none, some, some-ne-none}
use Rattle.std.proofs.lemmas.List.{length-replicate, get_or-replicate}
use Rattle.std.proofs.Math.ListN.{get_or-eq_default}
use Rattle.std.proofs.lemmas.Bool.{lt-leb}
use Rattle.base.specs.Limits.{message_size}
use Rattle.base.specs.Members.{here, there, Every}
use Rattle.table.specs.Block.{all_zero}
use Rattle.message.specs.Message.{Packet}
use Rattle.message.specs.declared.Kind.{Kind}
use Rattle.message.specs.declared.Kind.TheVariants.{Cpa, Request, Estimate, Solution, Stop}
use Rattle.message.specs.Written.{body, encode}
use Rattle.message.specs.EncodeLaws.{length_encode}
use Rattle.rules.specs.Send.{packet_bytes}
use Rattle.rules.specs.Laws.Packets.{Sendable}
use Rattle.runs.specs.Pool.{cell_of}
use Rattle.slots.specs.Slot.{slot_pool_size, used_slots, slot_of}
use Rattle.slots.specs.Slot.Laws.{used_fits}
use Rattle.slots.specs.Run.{at_cell, place}
use Rattle.slots.specs.Bytes.{slot_bytes, put_cell, place_bytes, zero_cells, is_empty}
use Rattle.slots.specs.Bytes.Laws.{length_put, cell_put, cell_other, zeros_zero, length_zeroed, cell_zeroed}
use Rattle.slots.specs.Proof.Cells.{cell_set}

-- a message that is written is not all zero: its kind is 1 or more
written_full : (p : Packet) → all_zero (packet_bytes p) ≡ false
unfolding all_zero encode body
written_full p = go p.kind
  where
    go : (k : Kind) → all_zero (encode k p.message) ≡ false
    go Cpa = refl
    go Request = refl
    go Estimate = refl
    go Solution = refl
    go Stop = refl

pub record Stored (n : ℕ) (cells : List (Option Packet)) (pool : List ℕ) : Type 0 where
  pub bytes : (c : ℕ) → c < used_slots n → cell_of pool c ≡ slot_bytes (at_cell cells c)
  pub room : slot_pool_size ≤ length pool

abbrev pub SizedCell : Option Packet → Type 0
SizedCell x = length (slot_bytes x) ≡ message_size

module _ (n : ℕ) (n16 : n ≤ 16) where
  -- ---- one cell changed

  set_stored : (cells : List (Option Packet)) (pool : List ℕ) → length cells ≡ used_slots n → Stored n cells pool → (d : ℕ) → d < used_slots n → (x : Option Packet) → SizedCell x → Stored n (slice_set cells d x) (put_cell pool d (slot_bytes x))
  set_stored cells pool size st d lt x z = record { bytes = λ c l. go c l (cell_set cells d x c (subst (λ k. d < k) (sym size) lt)); room = omega (arith, st.room, length_put pool d (slot_bytes x) z fits) }
    where
      fits : message_size * suc d ≤ length pool
      fits = omega (arith, lt, used_fits n n16, st.room)

      go : (c : ℕ) → c < used_slots n → ((c ≡ d) × (at_cell (slice_set cells d x) c ≡ x)) ⊎ ((c ≢ d) × (at_cell (slice_set cells d x) c ≡ at_cell cells c)) → cell_of (put_cell pool d (slot_bytes x)) c ≡ slot_bytes (at_cell (slice_set cells d x) c)
      go c l (inl e) = ap (cell_of (put_cell pool d (slot_bytes x))) e.0 ∙ cell_put pool d (slot_bytes x) z fits ∙ ap slot_bytes (sym e.1)
      go c l (inr e) = cell_other pool d (slot_bytes x) z fits c e.0 ∙ st.bytes c l ∙ ap slot_bytes (sym e.1)

  pub taken-stored : (cells : List (Option Packet)) (pool : List ℕ) → length cells ≡ used_slots n → Stored n cells pool → (c : ℕ) → c < used_slots n → Stored n (slice_set cells c none) (put_cell pool c (slot_bytes none))
  taken-stored cells pool size st c lt = set_stored cells pool size st c lt none (length-replicate {A = ℕ} message_size 0)

  -- ---- packets placed

  pub placed-stored : (sizes : List ℕ) (ps : List Packet) → Every (Sendable n sizes) ps → Every (λ p. slot_of n p < used_slots n) ps → (cells : List (Option Packet)) (pool : List ℕ) → length cells ≡ used_slots n → Stored n cells pool
      → Stored n (place (slot_of n) cells ps) (place_bytes n pool ps)
  unfolding place place_bytes
  placed-stored sizes [] w fit cells pool size st = st
  placed-stored sizes (p ∷ ps) w fit cells pool size st =
      placed-stored sizes ps (λ q i. w q (there i)) (λ q i. fit q (there i)) (slice_set cells (slot_of n p) (some p)) (put_cell pool (slot_of n p) (packet_bytes p)) (length-set cells (slot_of n p) (some p) ∙ size)
      (set_stored cells pool size st (slot_of n p) (fit p (here refl)) (some p) (length_encode p.kind p.message (w p (here refl)).arrays))

  -- ---- all zeroed

  pub zeroed-stored : (pool : List ℕ) → slot_pool_size ≤ length pool → Stored n (replicate (used_slots n) none) (zero_cells n pool)
  zeroed-stored pool long =
      let fits : message_size * used_slots n ≤ length pool = omega (arith, used_fits n n16, long) in
      record {
        bytes = λ c l. cell_zeroed n pool fits c l ∙ ap slot_bytes (sym (get_or-replicate (used_slots n) c none none l));
        room = omega (arith, long, length_zeroed n pool fits);
      }

  -- ---- an empty cell, and one with a message

  module _ (cells : List (Option Packet)) (pool : List ℕ) (size : length cells ≡ used_slots n) (st : Stored n cells pool) (c : ℕ) where
    pub none_empty : at_cell cells c ≡ none → is_empty n pool c ≡ true
    unfolding is_empty
    none_empty e = go (nat_le (used_slots n) c) refl
      where
        go : (t : Bool) → nat_le (used_slots n) c ≡ t → (t || all_zero (cell_of pool c)) ≡ true
        go true q = refl
        go false q = ap all_zero (st.bytes c (leb-false (used_slots n) c q) ∙ ap slot_bytes e) ∙ zeros_zero message_size

    pub some_used : (p : Packet) → at_cell cells c ≡ some p → c < used_slots n
    some_used p e = go (nat_le (used_slots n) c) refl
      where
        go : (t : Bool) → nat_le (used_slots n) c ≡ t → c < used_slots n
        go true q = absurd (some-ne-none p (sym e ∙ get_or-eq_default cells none (omega (arith, size, leb-true (used_slots n) c q))))
        go false q = leb-false (used_slots n) c q

    pub some_bytes : (p : Packet) → at_cell cells c ≡ some p → cell_of pool c ≡ packet_bytes p
    some_bytes p e = st.bytes c (some_used p e) ∙ ap slot_bytes e

    pub some_full : (p : Packet) → at_cell cells c ≡ some p → is_empty n pool c ≡ false
    unfolding is_empty
    some_full p e = rw (lt-leb (used_slots n) c (some_used p e), some_bytes p e) (written_full p)
