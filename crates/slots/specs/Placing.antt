-- Cells emptied and filled as the code does it: packets go one after the other, each into the cell that its first three bytes name.
-- In order: what it does; cells emptied, and looked for; what a step sent, placed so, is `place_bytes`.
-- Assumes nothing.
use Rattle.std.specs.Prelude.{◌≡◌, ℕ, zero, suc, ◌+◌, ◌-◌, ◌*◌, ◌<◌, ◌≤◌, Bool, true, false, cond, ◌||◌, List, [], ◌∷◌, ◌++◌, length, take, drop, nat_le, slice_index, Result, Ok, Err}
use Rattle.std.proofs.Math.Path.{refl, sym, ap}
use Rattle.std.proofs.Common.{◌∙◌, take_at, drop_at, take-take, take-add, drop-drop}
use native.Mathlib.Omega.{arith}
use Rattle.std.proofs.Math.Numerals.{add-one}
use borrow.Author.Tests.{leb-false, le-leb, lt-leb}
use Rattle.base.specs.declared.Refusal.{Refusal}
use Rattle.base.specs.Limits.{message_size, places}
use Rattle.base.specs.Put.{put_within}
use Rattle.base.specs.Put.Laws.{put-fits}
use Rattle.base.specs.Members.{here, there, Every}
use Rattle.table.specs.Block.{all_zero}
use Rattle.message.specs.declared.Kind.{Kind}
use Rattle.message.specs.declared.Kind.TheVariants.{Cpa, Request, Estimate, Solution, Stop}
use Rattle.message.specs.Message.{Packet, kind_code, kind_of}
use Rattle.message.specs.Written.{body, encode}
use Rattle.message.specs.EncodeLaws.{length_encode}
use Rattle.rules.specs.Send.{packet_bytes, encode_all}
use Rattle.rules.specs.Laws.Packets.{Sendable}
use Rattle.runs.specs.Pool.{cell_of}
use Rattle.slots.specs.Slot.{slot_cells, slot_pool_size, may_carry, used_slots, slot_or_none, slot_of}
use Rattle.slots.specs.Slot.Laws.{fields_allowed, slot_used, used_fits}
use Rattle.slots.specs.Bytes.{put_cell, place_bytes, is_empty}
use Rattle.slots.specs.Bytes.Laws.{length_put}
use Rattle.slots.specs.Settle.{first_from}

-- ---- what the code does

-- the cell of a kind that was read, or 300
abbrev pub slot_by_kind : ℕ → Result Kind Refusal → ℕ → ℕ → ℕ
slot_by_kind n (Ok k) s r = slot_or_none n k s r
slot_by_kind n (Err x) s r = slot_cells

abbrev pub named_slot : ℕ → List ℕ → ℕ
named_slot n bytes = slot_by_kind n (kind_of (slice_index bytes 0)) (slice_index bytes 1) (slice_index bytes 2)

-- one packet; none where it names no cell
unfoldable pub place_named : ℕ → List ℕ → List ℕ → List ℕ
place_named n pool bytes = cond (nat_le slot_cells (named_slot n bytes)) pool (put_within pool (message_size * named_slot n bytes) bytes)

-- where the cell is known
module _ (n : ℕ) (pool bytes : List ℕ) (cell : ℕ) (is : cell ≡ named_slot n bytes) where
  pub place_none : slot_cells ≤ cell → pool ≡ place_named n pool bytes
  unfolding place_named
  place_none h = rw (← is, le-leb slot_cells cell h)

  pub place_one : cell < slot_cells → put_within pool (message_size * cell) bytes ≡ place_named n pool bytes
  unfolding place_named
  place_one h = rw (← is, lt-leb slot_cells cell h)

-- k packets of a buffer, from its i-th on
unfoldable pub place_sent : ℕ → List ℕ → List ℕ → ℕ → ℕ → List ℕ
place_sent n pool out i zero = pool
place_sent n pool out i (suc k) = place_sent n (place_named n pool (cell_of out i)) out (suc i) k

-- a turn of the loop over them, and its end
module _ {w : List ℕ} (n : ℕ) (pool out : List ℕ) (i sent : ℕ) (inv : w ≡ place_sent n pool out i (sent - i)) where
  pub place-next : i < sent → w ≡ place_sent n (place_named n pool (cell_of out i)) out (i + 1) (sent - (i + 1))
  unfolding place_sent
  place-next h = let e : sent - i ≡ suc (sent - (i + 1)) = omega arith in inv ∙ rw (e, add-one i)

  pub place_end : sent ≤ i → pool ≡ w
  unfolding place_sent
  place_end h = let e : sent - i ≡ 0 = omega arith in sym (inv ∙ rw e)

-- ---- looked for

pub empty_past : (n : ℕ) (pool : List ℕ) (cell : ℕ) → used_slots n ≤ cell → true ≡ is_empty n pool cell
unfolding is_empty
empty_past n pool cell h = rw (le-leb (used_slots n) cell h)

pub not_empty : (n : ℕ) (pool : List ℕ) (cell : ℕ) → is_empty n pool cell ≡ false → cell < used_slots n
unfolding is_empty
not_empty n pool cell e = leb-false (used_slots n) cell (first_false (nat_le (used_slots n) cell) (all_zero (cell_of pool cell)) e)
  where
    first_false : (a b : Bool) → (a || b) ≡ false → a ≡ false
    first_false true b e = e
    first_false false b e = refl

pub empty_used : (n : ℕ) (pool : List ℕ) (cell : ℕ) → cell < used_slots n → all_zero (cell_of pool cell) ≡ is_empty n pool cell
unfolding is_empty
empty_used n pool cell h = rw (lt-leb (used_slots n) cell h)

-- a turn of the search for the first cell of k that isn't all zero, and its ends
module _ {w : ℕ} (k c : ℕ) (pool : List ℕ) (inv : w ≡ first_from (k - c) c pool) where
  first_step : c < k → w ≡ cond (all_zero (cell_of pool c)) (first_from (k - (c + 1)) (c + 1) pool) c
  unfolding first_from
  first_step h = let e : k - c ≡ suc (k - (c + 1)) = omega arith in inv ∙ rw (e, add-one c)

  pub first_found : c < k → all_zero (cell_of pool c) ≡ false → c ≡ w
  first_found h e = sym (first_step h ∙ rw e)

  pub first_next : c < k → all_zero (cell_of pool c) ≡ true → w ≡ first_from (k - (c + 1)) (c + 1) pool
  first_next h e = first_step h ∙ rw e

  pub first_none : k ≤ c → c ≡ w
  unfolding first_from
  first_none h = let e : k - c ≡ 0 = omega arith in sym (inv ∙ rw e)

-- ---- what a step sent is placed

-- a packet that can be written names its own cell
module _ (n : ℕ) (few : n ≤ places) (sizes : List ℕ) (p : Packet) (s : Sendable n sizes p) where
  carried : may_carry n p.kind p.message.sender p.message.receiver ≡ true
  carried = fields_allowed n sizes p.kind p.message s.address s.form

  kind_named : kind_of (slice_index (packet_bytes p) 0) ≡ Ok p.kind
  unfolding encode body
  kind_named = go p.kind
    where
      go : (k : Kind) → kind_of (kind_code k) ≡ Ok k
      go Cpa = refl
      go Request = refl
      go Estimate = refl
      go Solution = refl
      go Stop = refl

  named_is : named_slot n (packet_bytes p) ≡ slot_of n p
  unfolding encode body slot_or_none
  named_is = rw (kind_named, carried)

  pub slot_few : slot_of n p < slot_cells
  slot_few = omega (arith, slot_used n p.kind p.message.sender p.message.receiver carried, used_fits n few)

  pub packet_length : length (packet_bytes p) ≡ message_size
  packet_length = length_encode p.kind p.message s.arrays

  module _ (pool : List ℕ) (room : slot_pool_size ≤ length pool) where
    placed_is : place_named n pool (packet_bytes p) ≡ put_cell pool (slot_of n p) (packet_bytes p)
    unfolding place_named
    placed_is =
        rw (named_is, lt-leb slot_cells (slot_of n p) slot_few)
        (put-fits pool (packet_bytes p) (message_size * slot_of n p) (omega (arith, packet_length, slot_few)))

    placed_length : length (put_cell pool (slot_of n p) (packet_bytes p)) ≡ length pool
    placed_length = length_put pool (slot_of n p) (packet_bytes p) packet_length (omega (arith, slot_few))

-- the first packet b of a buffer x, and those behind
front_is : (b l x : List ℕ) (k : ℕ) → length b ≡ message_size → take (message_size * suc k) x ≡ b ++ l → take message_size x ≡ b
front_is b l x k wide e = sym (take-take message_size (message_size * suc k) x (omega arith)) ∙ ap (take message_size) e ∙ take_at b l message_size wide

rest_is : (b l x : List ℕ) (k : ℕ) → length b ≡ message_size → take (message_size * suc k) x ≡ b ++ l → take (message_size * k) (drop message_size x) ≡ l
rest_is b l x k wide e =
    let m : message_size * suc k ≡ message_size + message_size * k = omega arith in
    sym (drop_at (take message_size x) (take (message_size * k) (drop message_size x)) message_size (ap length (front_is b l x k wide e) ∙ wide))
    ∙ ap (drop message_size) (sym (take-add message_size (message_size * k) x) ∙ ap (λ (j : ℕ). take j x) (sym m) ∙ e) ∙ drop_at b l message_size wide

-- the packets of a buffer from its i-th on
module _ (n : ℕ) (few : n ≤ places) (sizes : List ℕ) where
  sent_from : (ps : List Packet) → Every (Sendable n sizes) ps → (pool out : List ℕ) (i : ℕ) → slot_pool_size ≤ length pool
      → take (message_size * length ps) (drop (message_size * i) out) ≡ encode_all ps → place_sent n pool out i (length ps) ≡ place_bytes n pool ps
  unfolding place_sent place_bytes encode_all
  sent_from [] z pool out i room e = refl
  sent_from (p ∷ ps) z pool out i room e =
      let s : Sendable n sizes p = z p (here refl) in
      let wide = packet_length n few sizes p s in
      let q : message_size * i + message_size ≡ message_size * suc i = omega arith in
      ap (λ (x : List ℕ). place_sent n (place_named n pool x) out (suc i) (length ps)) (front_is (packet_bytes p) (encode_all ps) (drop (message_size * i) out) (length ps) wide e)
      ∙ ap (λ (x : List ℕ). place_sent n x out (suc i) (length ps)) (placed_is n few sizes p s pool room)
      ∙ sent_from ps (λ q j. z q (there j)) (put_cell pool (slot_of n p) (packet_bytes p)) out (suc i) (omega (arith, placed_length n few sizes p s pool room))
      (ap (λ (k : ℕ). take (message_size * length ps) (drop k out)) (sym q) ∙ ap (take (message_size * length ps)) (sym (drop-drop message_size (message_size * i) out))
      ∙ rest_is (packet_bytes p) (encode_all ps) (drop (message_size * i) out) (length ps) wide e)

  pub sent_placed : (ps : List Packet) → Every (Sendable n sizes) ps → (pool out : List ℕ) → slot_pool_size ≤ length pool → take (message_size * length ps) out ≡ encode_all ps
      → place_sent n pool out 0 (length ps) ≡ place_bytes n pool ps
  sent_placed ps z pool out room e = sent_from ps z pool out 0 room e
