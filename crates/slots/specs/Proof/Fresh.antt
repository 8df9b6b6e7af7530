-- What a message overwrites is not newer than it, as packets and by the call `newer`: the machine's order of stamps and bounds (protocol/specs/Slots), read off the packets' bytes.
-- In order: two stamps filled alike; two packets of one cell; the call on their bytes; what a step overwrites (`all_fresher`).
-- Assumes nothing.
use Rattle.std.specs.Prelude.{◌≡◌, ℕ, zero, suc, pred, ◌+◌, ◌-◌, ◌<◌, ◌≤◌, Bool, true, false, cond, ◌≢◌, ◌⊎◌, List, [], ◌∷◌, ◌==◌, nat_lt, slice_set, Ok}
use Rattle.std.specs.Prelude.{refl}
use Rattle.std.proofs.Common.{sym, ◌∙◌, subst, inl, inr, arith}
use Rattle.std.proofs.Math.Path.{ap}
use Rattle.std.proofs.Math.Option.{Option, none, some, none-ne-some}
use borrow.Author.Tests.{lt-ltb, le-ltb, eq-eqb}
use Rattle.base.specs.Limits.{places}
use Rattle.base.specs.Members.{In, here, there, Every}
use Rattle.base.specs.Members.Laws.{not-in-nil}
use Rattle.base.specs.Shape.{shape_good}
use Rattle.costs.specs.declared.ValueOrder.{ValueOrder}
use Rattle.costs.specs.Instance.{Instance}
use Rattle.message.specs.Message.{Packet, kind_code}
use Rattle.message.specs.Decode.{parse_of, parse_for}
use Rattle.message.specs.RoundTrip.{parse_encode, receiver_of_encode}
use Rattle.std.specs.declared.cmp.Ordering.{Ordering}
use Rattle.std.specs.declared.cmp.Ordering.TheVariants.{Less, Equal, Greater}
use Rattle.std.specs.Ordering.{is_lt}
use Rattle.rules.specs.State.{compare_on}
use Rattle.rules.specs.Send.{packet_bytes}
use Rattle.rules.specs.Laws.Packets.{Sendable}
use Rattle.protocol.specs.Machine as M
use Rattle.protocol.specs.Machine.{Msg}
use Rattle.protocol.specs.Simulation.Stamps.{rank, FilledTo, Compared, order_of_ranks}
use Rattle.protocol.specs.Simulation.Relations.{StampIs, Reads, ReadAll}
use Rattle.protocol.specs.Slots.Slot as P
use Rattle.protocol.specs.Slots.Slot.{kind_of, Slot, Apart, Allowed, stamp_in, solution_in, NotNewer}
use Rattle.slots.specs.Slot.{used_slots, slot_of}
use Rattle.slots.specs.Newer.{second_newer, choice_of, newer_of}
use Rattle.slots.specs.Slot.Laws.{slot_apart}
use Rattle.slots.specs.Run.{at_cell, waiting_in, overwritten_by}
use Rattle.slots.specs.Demand3.{Fresher}
use Rattle.slots.specs.Proof.Cells.{at_waits, cell_set, Spread, overwritten_from}
use Rattle.slots.specs.Proof.Messages.{cell_for, one_slot, may_carry_lem, same_slot_lem, may_go, same_cell, AllStand}
use Rattle.slots.specs.Proof.Overwriting.{apart_spread, all_may_go, message_at}

-- ---- two stamps filled alike

-- one that is no larger on the filled places is no larger on all
ranks_stay : (f j : ℕ) (a b : List ℕ) → FilledTo f a → FilledTo f b → rank f a ≤ rank f b → rank (f + j) a ≤ rank (f + j) b
ranks_stay f zero a b x y h = let e : f + 0 ≡ f = omega arith in rw e h
ranks_stay f (suc j) a b x y h =
    let e : f + suc j ≡ suc (f + j) = omega arith in
    rw e (omega (arith, ranks_stay f j a b x y h, x.rest (f + j) (omega arith), y.rest (f + j) (omega arith)))

not_later : (f s t : ℕ) (a b : List ℕ) → f ≤ 16 → StampIs f a s → StampIs f b t → s ≤ t → is_lt (compare_on places b a) ≡ false
not_later f s t a b most x y le = go (compare_on 16 b a) (order_of_ranks 16 b a y.digits x.digits)
  where
    all : rank 16 a ≤ rank 16 b
    all =
        let e : f + (16 - f) ≡ 16 = omega (arith, most) in
        subst (λ k. rank k a ≤ rank k b) e (ranks_stay f (16 - f) a b x.filled y.filled (omega (arith, x.is, y.is, le)))

    go : (o : Ordering) → Compared o (rank 16 b) (rank 16 a) → is_lt o ≡ false
    go Less h = absurd (omega (arith, h, all))
    go Equal h = refl
    go Greater h = refl

-- ---- two packets of one cell

-- how many places of a stamp are filled, by its slot
abbrev filled : Slot → ℕ
filled s = cond (s.kind == 1) (cond (nat_lt s.sender s.receiver) s.receiver (suc s.receiver)) (cond (s.kind == 2) (suc s.sender) (suc s.receiver))

either : (Q : ℕ → Type 0) (t : Bool) (a b : ℕ) → Q a → Q b → Q (cond t a b)
either Q true a b x y = x
either Q false a b x y = y

module _ (order : ValueOrder) (I : Instance) (n16 : I.n ≤ 16) where
  few_filled : (s : Slot) → Allowed I.n s → filled s ≤ 16
  few_filled s a =
      let sender : suc s.sender ≤ 16 = omega (arith, n16, a.0) in
      let receiver : suc s.receiver ≤ 16 = omega (arith, n16, a.1) in
      let before : s.receiver ≤ 16 = omega (arith, receiver) in
      either (λ f. f ≤ 16) (s.kind == 1) _ _ (either (λ f. f ≤ 16) (nat_lt s.sender s.receiver) _ _ before receiver) (either (λ f. f ≤ 16) (s.kind == 2) _ _ sender receiver)

  stamped : (p : Packet) (x : Msg) → Reads order I p x → Allowed I.n (P.slot_of I.n x) → kind_of x < 4 → StampIs (filled (P.slot_of I.n x)) p.message.stamp (stamp_in x)
  stamped p (M.down k s b B l) r a lt = subst (λ f. StampIs f p.message.stamp s) (sym (ap (λ t. cond {A = ℕ} t k (suc k)) (lt-ltb (pred k) k (below a.2)))) r.3
    where
      below : (k ≡ suc (pred k)) ⊎ (pred k ≡ suc k) → pred k < k
      below (inl e) = omega (arith, e)
      below (inr e) = absurd (omega (arith, e))
  stamped p (M.back k s b B l) r a lt = subst (λ f. StampIs f p.message.stamp s) (sym (ap (λ t. cond {A = ℕ} t k (suc k)) (le-ltb (suc k) k (omega arith)))) r.3
  stamped p (M.request k j s b) r a lt = r.3
  stamped p (M.estimate k j s e) r a lt = r.3
  stamped p (M.solution k B l) r a lt = absurd (omega (arith, lt))
  stamped p (M.stop k B l) r a lt = absurd (omega (arith, lt))

  bounded : (p : Packet) (x : Msg) → Reads order I p x → kind_of x ≡ 4 → p.message.bound ≡ solution_in x
  bounded p (M.down k s b B l) r e = absurd (omega (arith, e))
  bounded p (M.back k s b B l) r e = absurd (omega (arith, e))
  bounded p (M.request k j s b) r e = absurd (omega (arith, e))
  bounded p (M.estimate k j s v) r e = absurd (omega (arith, e))
  bounded p (M.solution k B l) r e = r.2
  bounded p (M.stop k B l) r e = absurd (omega (arith, e))

  -- p reads as x, and q as y, which is not older: q stays where it is the first
  pub not_second : (p q : Packet) (x y : Msg) → Reads order I p x → Reads order I q y → Allowed I.n (P.slot_of I.n x) → P.slot_of I.n x ≡ P.slot_of I.n y → NotNewer x y
      → second_newer q.kind q.message p.message ≡ false
  not_second p q x y rp rq a e h = go y rq e h
    where
      kinds : (y : Msg) → P.slot_of I.n x ≡ P.slot_of I.n y → kind_of x ≡ kind_of y
      kinds y e = ap (λ s. s.kind) e

      by_stamp : (y : Msg) → Reads order I q y → (e : P.slot_of I.n x ≡ P.slot_of I.n y) → stamp_in x ≤ stamp_in y → kind_of y < 4 → is_lt (compare_on places q.message.stamp p.message.stamp) ≡ false
      by_stamp y rq e le lt =
          not_later (filled (P.slot_of I.n x)) (stamp_in x) (stamp_in y) p.message.stamp q.message.stamp (few_filled (P.slot_of I.n x) a) (stamped p x rp a (omega (arith, kinds y e, lt)))
          (subst (λ s. StampIs (filled s) q.message.stamp (stamp_in y)) (sym e) (stamped q y rq (subst (Allowed I.n) e a) lt)) le

      go : (y : Msg) → Reads order I q y → P.slot_of I.n x ≡ P.slot_of I.n y → NotNewer x y → second_newer q.kind q.message p.message ≡ false
      go (M.down k s b B l) r e h = ap (λ c. second_newer c q.message p.message) r.0 ∙ by_stamp (M.down k s b B l) r e h.0 (omega arith)
      go (M.back k s b B l) r e h = ap (λ c. second_newer c q.message p.message) r.0 ∙ by_stamp (M.back k s b B l) r e h.0 (omega arith)
      go (M.request k j s b) r e h = ap (λ c. second_newer c q.message p.message) r.0 ∙ by_stamp (M.request k j s b) r e h.0 (omega arith)
      go (M.estimate k j s v) r e h = ap (λ c. second_newer c q.message p.message) r.0 ∙ by_stamp (M.estimate k j s v) r e h.0 (omega arith)
      go (M.solution k B l) r e h =
          ap (λ c. second_newer c q.message p.message) r.0 ∙ le-ltb p.message.bound q.message.bound (omega (arith, h.1, bounded p x rp (kinds (M.solution k B l) e), bounded q (M.solution k B l) r refl))
      go (M.stop k B l) r e h = ap (λ c. second_newer c q.message p.message) r.0

-- ---- the call on their bytes

module _ (n : ℕ) (sizes : List ℕ) (shape : shape_good n sizes ≡ true) where
  read_back : (p : Packet) → Sendable n sizes p → parse_of n sizes (packet_bytes p) ≡ Ok (p.kind, p.message)
  read_back p w = ap (λ r. parse_for n sizes r (packet_bytes p)) (receiver_of_encode p.kind p.message w.arrays) ∙ parse_encode n sizes p.kind p.message shape w.address w.form w.arrays

  -- the fresh one is handed back
  pub fresh_handed : (q p : Packet) → Sendable n sizes q → Sendable n sizes p → q.kind ≡ p.kind → q.message.sender ≡ p.message.sender → q.message.receiver ≡ p.message.receiver
      → second_newer q.kind q.message p.message ≡ false → newer_of n sizes (packet_bytes q) (packet_bytes p) ≡ packet_bytes q
  unfolding choice_of
  fresh_handed q p wq wp k s r stays =
      rw (read_back q wq, read_back p wp, eq-eqb (kind_code q.kind) (kind_code p.kind) (ap kind_code k), eq-eqb q.message.sender p.message.sender s, eq-eqb q.message.receiver p.message.receiver r, stays)

-- ---- what a step overwrites, where the message of the cell c was taken out: packets ps, which read as ms, are placed

pub read_by : (order : ValueOrder) (I : Instance) (ps : List Packet) (ms : List Msg) → ReadAll order I ps ms → (q : Packet) → In q ps → (y : Msg) × In y ms × Reads order I q y
read_by order I [] ms r q i = absurd (not-in-nil i)
read_by order I (p ∷ ps) [] r q i = absurd r
read_by order I (p ∷ ps) (m ∷ ms) r q (here e) = (m, here refl, subst (λ z. Reads order I z m) (sym e) r.0)
read_by order I (p ∷ ps) (m ∷ ms) r q (there i) = let z = read_by order I ps ms r.1 q i in (z.0, there z.1, z.2)

-- no two of them go to one cell
pub packets_spread : (order : ValueOrder) (I : Instance) (sizes : List ℕ) (size : ℕ) (ps : List Packet) (ms : List Msg) → ReadAll order I ps ms → Every (Sendable I.n sizes) ps → Spread (cell_for I.n) size ms
    → Spread (slot_of I.n) size ps
packets_spread order I sizes size [] ms r w h = tt
packets_spread order I sizes size (p ∷ ps) [] r w h = absurd r
packets_spread order I sizes size (p ∷ ps) (m ∷ ms) r w h = (
  λ q i e.
      let z = read_by order I ps ms r.1 q i in
      h.0 z.0 z.1 (sym (cell q z.0 z.2 (w q (there i))) ∙ e ∙ cell p m r.0 (w p (here refl))),
  packets_spread order I sizes size ps ms r.1 (λ q i. w q (there i)) h.1,
)
  where
    cell : (q : Packet) (y : Msg) → Reads order I q y → Sendable I.n sizes q → slot_of I.n q ≡ cell_for I.n y
    cell q y rq wq = same_cell order I sizes q y (same_slot_lem order I sizes q y rq wq)

module _ (order : ValueOrder) (I : Instance) (sizes : List ℕ) (n16 : I.n ≤ 16) (shape : shape_good I.n sizes ≡ true) (cells : List (Option Packet)) (msgs : List (Option Msg)) (a : AllStand order I sizes cells msgs)
    (c : ℕ) (c-used : c < used_slots I.n) (ps : List Packet) (ms : List Msg) (r : ReadAll order I ps ms) (w : Every (Sendable I.n sizes) ps) (apart : Apart I.n ms)
    (allowed : (x : Msg) → In x (waiting_in msgs) → Allowed I.n (P.slot_of I.n x))
    (older : (y : Msg) → In y ms → (x : Msg) → In x (waiting_in msgs) → P.slot_of I.n x ≡ P.slot_of I.n y → NotNewer x y) where
  -- the packet p stood in the cell of q, which is sent
  handed : (q p : Packet) → In q ps → at_cell cells (slot_of I.n q) ≡ some p → newer_of I.n sizes (packet_bytes q) (packet_bytes p) ≡ packet_bytes q
  handed q p i e =
      let x = message_at order I sizes cells msgs a (slot_of I.n q) p e in
      let y = read_by order I ps ms r q i in
      let sx = same_slot_lem order I sizes p x.0 x.2.0 x.2.1 in
      let sy = same_slot_lem order I sizes q y.0 y.2 (w q i) in
      let t = slot_apart I.n q.kind p.kind q.message.sender q.message.receiver p.message.sender p.message.receiver (may_carry_lem I.n sizes q (w q i)) (may_carry_lem I.n sizes p x.2.1) (sym x.2.2) in
      let waits = at_waits msgs (slot_of I.n q) x.0 x.1 in
      let one = one_slot I.n x.0 y.0 (may_go order I sizes p x.0 sx x.2.1) (may_go order I sizes q y.0 sy (w q i)) (sym (same_cell order I sizes p x.0 sx) ∙ x.2.2 ∙ same_cell order I sizes q y.0 sy) in
      fresh_handed I.n sizes shape q p (w q i) x.2.1 t.0 t.1 t.2 (not_second order I n16 p q x.0 y.0 x.2.0 y.2 (allowed x.0 waits) one (older y.0 y.1 x.0 waits one))

  pub all_fresher : Every (Fresher I.n sizes) (overwritten_by (slot_of I.n) (slice_set cells c none) ps)
  all_fresher o i =
      let spread = packets_spread order I sizes (used_slots I.n) ps ms r w (apart_spread I.n (used_slots I.n) ms (all_may_go order I sizes ps ms r w) apart) in
      let q = overwritten_from (slot_of I.n) (used_slots I.n) ps (slice_set cells c none) spread o i in
      handed o.fresh o.older q.0 (back q.1)
    where
      back : at_cell (slice_set cells c none) (slot_of I.n o.fresh) ≡ some o.older → at_cell cells (slot_of I.n o.fresh) ≡ some o.older
      back e = go (cell_set cells c none (slot_of I.n o.fresh) (subst (λ k. c < k) (sym a.size) c-used))
        where
          go : ((slot_of I.n o.fresh ≡ c) × (at_cell (slice_set cells c none) (slot_of I.n o.fresh) ≡ none)) ⊎ ((slot_of I.n o.fresh ≢ c) × (at_cell (slice_set cells c none) (slot_of I.n o.fresh) ≡ at_cell cells (slot_of I.n o.fresh)))
              → at_cell cells (slot_of I.n o.fresh) ≡ some o.older
          go (inl h) = absurd (none-ne-some o.older (sym h.1 ∙ e))
          go (inr h) = sym h.1 ∙ e
