-- What the machine's cells hold once the message of a cell is taken out and others are placed is what protocol/specs/Slots/Run asks of an overwriting pool (`overwrites`), and what they hold as
-- making leaves them is what it sent (`first-placed`).
-- In order: what stands and what is sent may go where it goes; no two of what is sent share a cell; after a step; after making.
-- Assumes nothing.
use Rattle.std.specs.Prelude.{◌≡◌, ℕ, ◌<◌, ◌≤◌, ◌≢◌, ◌⊎◌, List, [], ◌∷◌, length, replicate, slice_set}
use Rattle.std.specs.Prelude.{refl}
use Rattle.std.proofs.Common.{sym, ap, ◌∙◌, subst, inl, inr, arith, length-set}
use Rattle.std.proofs.Math.Option.{Option, none, some, some-injective, none-ne-some}
use Rattle.std.proofs.lemmas.List.{length-replicate}
use Rattle.base.specs.Members.{In, here, there, Every}
use Rattle.base.specs.Members.Laws.{not-in-nil}
use Rattle.costs.specs.declared.ValueOrder.{ValueOrder}
use Rattle.costs.specs.Instance.{Instance}
use Rattle.message.specs.Message.{Packet}
use Rattle.rules.specs.Laws.Packets.{Sendable}
use Rattle.protocol.specs.Machine.{Msg}
use Rattle.protocol.specs.Totals.{total}
use Rattle.protocol.specs.Simulation.Relations.{ReadAll}
use Rattle.protocol.specs.Slots.Slot.{Apart}
use Rattle.protocol.specs.Slots.Run.{Overwrites}
use Rattle.slots.specs.Slot.{used_slots}
use Rattle.slots.specs.Run.{at_cell, waiting_in, place}
use Rattle.slots.specs.Proof.Cells.{at_waits, waits_at, none_wait, cell_set, taken_weighs, place_stays, place_from, Spread, place_waits, place_weighs}
use Rattle.slots.specs.Proof.Messages.{cell_for, MayGo, cell_used, one_slot, same_slot_lem, may_go, same_cell, Stand, AllStand}

-- ---- no two of what is sent share a cell

pub apart_spread : (n size : ℕ) (ms : List Msg) → Every (MayGo n) ms → Apart n ms → Spread (cell_for n) size ms
apart_spread n size [] g a = tt
apart_spread n size (x ∷ ms) g a = ((λ y i e. a.0 y i (one_slot n y x (g y (there i)) (g x (here refl)) e)), apart_spread n size ms (λ y i. g y (there i)) a.1)

module _ (order : ValueOrder) (I : Instance) (sizes : List ℕ) where
  -- what packets that can be sent read as may go
  pub all_may_go : (ps : List Packet) (ms : List Msg) → ReadAll order I ps ms → Every (Sendable I.n sizes) ps → Every (MayGo I.n) ms
  all_may_go ps [] r w x i = absurd (not-in-nil i)
  all_may_go [] (m ∷ ms) r w x i = absurd r
  all_may_go (p ∷ ps) (m ∷ ms) r w x (here e) = subst (MayGo I.n) (sym e) (may_go order I sizes p m (same_slot_lem order I sizes p m r.0 (w p (here refl))) (w p (here refl)))
  all_may_go (p ∷ ps) (m ∷ ms) r w x (there i) = all_may_go ps ms r.1 (λ q j. w q (there j)) x i

  module _ (cells : List (Option Packet)) (msgs : List (Option Msg)) (a : AllStand order I sizes cells msgs) where
    -- a message of the machine at a cell: its packet is there, too
    pub packet_at : (d : ℕ) (x : Msg) → at_cell msgs d ≡ some x → (p : Packet) × (at_cell cells d ≡ some p) × Stand order I sizes d (some p) (some x)
    packet_at d x e = go (at_cell cells d) refl (subst (Stand order I sizes d (at_cell cells d)) e (a.stand d))
      where
        go : (o : Option Packet) → at_cell cells d ≡ o → Stand order I sizes d o (some x) → (p : Packet) × (at_cell cells d ≡ some p) × Stand order I sizes d (some p) (some x)
        go none q h = absurd h
        go (some p) q h = (p, q, h)

    -- and a packet's message
    pub message_at : (d : ℕ) (p : Packet) → at_cell cells d ≡ some p → (x : Msg) × (at_cell msgs d ≡ some x) × Stand order I sizes d (some p) (some x)
    message_at d p e = go (at_cell msgs d) refl (subst (λ o. Stand order I sizes d o (at_cell msgs d)) e (a.stand d))
      where
        go : (o : Option Msg) → at_cell msgs d ≡ o → Stand order I sizes d (some p) o → (x : Msg) × (at_cell msgs d ≡ some x) × Stand order I sizes d (some p) (some x)
        go none q h = absurd h
        go (some x) q h = (x, q, h)

    in_own_cell : (d : ℕ) (x : Msg) → at_cell msgs d ≡ some x → MayGo I.n x × (cell_for I.n x ≡ d)
    in_own_cell d x e =
        let q = packet_at d x e in
        let s = same_slot_lem order I sizes q.0 x q.2.0 q.2.1 in
        (may_go order I sizes q.0 x s q.2.1, sym (same_cell order I sizes q.0 x s) ∙ q.2.2)

    -- ---- after a step: the message of the cell c is taken out, and ms are sent

    module _ (c : ℕ) (m : Msg) (e : at_cell msgs c ≡ some m) (c-used : c < used_slots I.n) (ms : List Msg) (go_all : Every (MayGo I.n) ms) (apart : Apart I.n ms) where
      abbrev rest : List (Option Msg)
      rest = slice_set msgs c none

      fits : Every (λ x. cell_for I.n x < used_slots I.n) ms
      fits x i = cell_used I.n x (go_all x i)

      rest_size : length (slice_set msgs c none) ≡ used_slots I.n
      rest_size = length-set msgs c none ∙ a.as_many

      c_in : c < length msgs
      c_in = subst (λ k. c < k) (sym a.as_many) c-used

      rest_from : (d : ℕ) (x : Msg) → at_cell rest d ≡ some x → at_cell msgs d ≡ some x
      rest_from d x q = go (cell_set msgs c none d c_in)
        where
          go : ((d ≡ c) × (at_cell rest d ≡ none)) ⊎ ((d ≢ c) × (at_cell rest d ≡ at_cell msgs d)) → at_cell msgs d ≡ some x
          go (inl h) = absurd (none-ne-some x (sym h.1 ∙ q))
          go (inr h) = sym h.1 ∙ q

      rest_stays : (d : ℕ) (x : Msg) → at_cell msgs d ≡ some x → x ≢ m → at_cell rest d ≡ some x
      rest_stays d x q ne = go (cell_set msgs c none d c_in)
        where
          go : ((d ≡ c) × (at_cell rest d ≡ none)) ⊎ ((d ≢ c) × (at_cell rest d ≡ at_cell msgs d)) → at_cell rest d ≡ some x
          go (inl h) = absurd (ne (some-injective x m (sym q ∙ ap (at_cell msgs) h.0 ∙ e)))
          go (inr h) = h.1 ∙ q

      pub overwrites : Overwrites I.n (waiting_in msgs) m ms (waiting_in (place (cell_for I.n) (slice_set msgs c none) ms))
      overwrites =
          record {
            only = λ x i. let d = waits_at (place (cell_for I.n) rest ms) x i in came x d.0 (place_from (cell_for I.n) (used_slots I.n) ms rest rest_size fits d.0 x d.1);
            sent = λ x i. at_waits (place (cell_for I.n) rest ms) (cell_for I.n x) x (place_waits (cell_for I.n) (used_slots I.n) ms rest rest_size fits (apart_spread I.n (used_slots I.n) ms go_all apart) x i);
            stays = λ x i ne others.
                let d = waits_at msgs x i in
                let own = in_own_cell d.0 x d.1 in
                at_waits (place (cell_for I.n) rest ms) d.0 x
                (place_stays (cell_for I.n) (used_slots I.n) ms rest d.0 (λ y j q. others y j (one_slot I.n y x (go_all y j) own.0 (q ∙ sym own.1))) ∙ rest_stays d.0 x d.1 ne);
            weighs = λ f. omega (arith, place_weighs (cell_for I.n) (used_slots I.n) f ms rest rest_size fits, taken_weighs f msgs c m c_in e);
          }
        where
          came : (x : Msg) (d : ℕ) → (In x ms × (cell_for I.n x ≡ d)) ⊎ (at_cell rest d ≡ some x) → In x (waiting_in msgs) ⊎ In x ms
          came x d (inl h) = inr h.0
          came x d (inr h) = inl (at_waits msgs d x (rest_from d x h))

-- ---- after making: ms are placed in cells that are all empty

module _ (n : ℕ) (ms : List Msg) (go_all : Every (MayGo n) ms) (apart : Apart n ms) where
  abbrev pub first_cells : List (Option Msg)
  first_cells = place (cell_for n) (replicate (used_slots n) none) ms

  empty_size : length (replicate {A = Option Msg} (used_slots n) none) ≡ used_slots n
  empty_size = length-replicate (used_slots n) none

  fit : Every (λ x. cell_for n x < used_slots n) ms
  fit x i = cell_used n x (go_all x i)

  pub first_all : Every (λ x. In x (waiting_in first_cells)) ms
  first_all x i = at_waits first_cells (cell_for n x) x (place_waits (cell_for n) (used_slots n) ms (replicate (used_slots n) none) empty_size fit (apart_spread n (used_slots n) ms go_all apart) x i)

  pub first_weighs : (f : Msg → ℕ) → total f (waiting_in first_cells) ≤ total f ms
  first_weighs f = omega (arith, place_weighs (cell_for n) (used_slots n) f ms (replicate (used_slots n) none) empty_size fit, ap (total f) (none_wait {A = Msg} (used_slots n)))

  pub first_only : Every (λ x. In x ms) (waiting_in first_cells)
  first_only x i = let d = waits_at first_cells x i in came d.0 (place_from (cell_for n) (used_slots n) ms (replicate (used_slots n) none) empty_size fit d.0 x d.1)
    where
      came : (d : ℕ) → (In x ms × (cell_for n x ≡ d)) ⊎ (at_cell (replicate (used_slots n) none) d ≡ some x) → In x ms
      came d (inl h) = h.0
      came d (inr h) = absurd (not-in-nil (subst (In x) (none_wait {A = Msg} (used_slots n)) (at_waits (replicate (used_slots n) none) d x h)))
