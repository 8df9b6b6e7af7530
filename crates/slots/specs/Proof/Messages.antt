-- Packets and the machine's messages that they read as (`Reads`): they have one kind, sender and receiver, so one cell; and two of them share a cell just where they share a slot. And what
-- stands in a cell, as a packet and as a message (`Stand`), once others are placed.
-- In order: a message's cell; a packet and its message; two of one cell; cells that stand, changed.
-- Assumes nothing.
use Rattle.std.specs.Prelude.{◌≡◌, ℕ, suc, pred, ◌+◌, ◌<◌, Bool, true, false, ◌||◌, ◌≢◌, ◌⊎◌, List, [], ◌∷◌, length, ◌==◌, slice_set}
use Rattle.std.specs.Prelude.{refl}
use Rattle.std.proofs.Common.{sym, ap, ◌∙◌, subst, inl, inr, arith, length-set, eqb-true}
use Rattle.std.proofs.Math.Option.{Option, none, some}
use Rattle.base.specs.Shape.Laws.{and_left}
use Rattle.base.specs.Members.{here, there, Every}
use Rattle.costs.specs.declared.ValueOrder.{ValueOrder}
use Rattle.costs.specs.Instance.{Instance}
use Rattle.message.specs.declared.Kind.{Kind}
use Rattle.message.specs.declared.Kind.TheVariants.{Cpa, Request, Estimate, Solution, Stop}
use Rattle.message.specs.Message.{Packet, kind_code, direction_good}
use Rattle.message.specs.Laws.{Addressed, addressed, formed}
use Rattle.rules.specs.Laws.Packets.{Sendable}
use Rattle.protocol.specs.Machine as M
use Rattle.protocol.specs.Machine.{Msg, to}
use Rattle.protocol.specs.Simulation.Relations.{Reads, ReadAll}
use Rattle.protocol.specs.Slots.Slot as P
use Rattle.protocol.specs.Slots.Slot.{kind_of, from, slot_path}
use Rattle.slots.specs.Slot.{may_carry, used_slots, slot_number, slot_of}
use Rattle.slots.specs.Slot.Laws.{fields_allowed, slot_used, slot_apart}
use Rattle.slots.specs.Run.{at_cell, place}
use Rattle.slots.specs.Proof.Cells.{cell_set}

-- ---- the cell of a message of the machine

abbrev pub kind_at : Msg → Kind
kind_at (M.down k s b B l) = Cpa
kind_at (M.back k s b B l) = Cpa
kind_at (M.request k j s b) = Request
kind_at (M.estimate k j s e) = Estimate
kind_at (M.solution k B l) = Solution
kind_at (M.stop k B l) = Stop

kind_code_lem : (m : Msg) → kind_of m ≡ kind_code (kind_at m)
kind_code_lem (M.down k s b B l) = refl
kind_code_lem (M.back k s b B l) = refl
kind_code_lem (M.request k j s b) = refl
kind_code_lem (M.estimate k j s e) = refl
kind_code_lem (M.solution k B l) = refl
kind_code_lem (M.stop k B l) = refl

abbrev pub cell_for : ℕ → Msg → ℕ
cell_for n m = slot_number n (kind_at m) (suc (from n m)) (suc (to m))

-- the rules allow it
abbrev pub MayGo : ℕ → Msg → Type 0
MayGo n m = may_carry n (kind_at m) (suc (from n m)) (suc (to m)) ≡ true

pub cell_used : (n : ℕ) (m : Msg) → MayGo n m → cell_for n m < used_slots n
cell_used n m a = slot_used n (kind_at m) (suc (from n m)) (suc (to m)) a

-- two of one cell are of one slot
pub one_slot : (n : ℕ) (x y : Msg) → MayGo n x → MayGo n y → cell_for n x ≡ cell_for n y → P.slot_of n x ≡ P.slot_of n y
one_slot n x y a b e =
    let q = slot_apart n (kind_at x) (kind_at y) (suc (from n x)) (suc (to x)) (suc (from n y)) (suc (to y)) a b e in
    slot_path (P.slot_of n x) (P.slot_of n y) (kind_code_lem x ∙ ap kind_code q.0 ∙ sym (kind_code_lem y)) (ap pred q.1) (ap pred q.2)

-- ---- a packet that can be sent, and the message that it reads as

neighbours : (s r : ℕ) → (r == s + 1 || s == r + 1) ≡ true → (r ≡ s + 1) ⊎ (s ≡ r + 1)
neighbours s r = go (r == s + 1) refl
  where
    go : (t : Bool) → (r == s + 1) ≡ t → (t || s == r + 1) ≡ true → (r ≡ s + 1) ⊎ (s ≡ r + 1)
    go true e f = inl (eqb-true r (s + 1) e)
    go false e f = inr (eqb-true s (r + 1) f)

pub may_carry_lem : (n : ℕ) (sizes : List ℕ) (p : Packet) → Sendable n sizes p → may_carry n p.kind p.message.sender p.message.receiver ≡ true
may_carry_lem n sizes p w = fields_allowed n sizes p.kind p.message w.address w.form

-- so its cell is one that n units use
pub all_used : (n : ℕ) (sizes : List ℕ) (ps : List Packet) → Every (Sendable n sizes) ps → Every (λ p. slot_of n p < used_slots n) ps
all_used n sizes ps w p i = slot_used n p.kind p.message.sender p.message.receiver (may_carry_lem n sizes p (w p i))

module _ (order : ValueOrder) (I : Instance) (sizes : List ℕ) where
  pub record SameSlot (p : Packet) (m : Msg) : Type 0 where
    pub kind : p.kind ≡ kind_at m
    pub sender : p.message.sender ≡ suc (from I.n m)
    pub receiver : p.message.receiver ≡ suc (to m)

  -- by check 9 a CPA goes to the next unit or the one before, a solution is unit n's, a stop unit 1's
  pub same_slot_lem : (p : Packet) (m : Msg) → Reads order I p m → Sendable I.n sizes p → SameSlot p m
  same_slot_lem p m h w = go m h
    where
      a : Addressed I.n p.message
      a = addressed I.n p.message w.address

      d : (k : Kind) → p.kind ≡ k → direction_good I.n k p.message.sender p.message.receiver ≡ true
      d k e = subst (λ k. direction_good I.n k p.message.sender p.message.receiver ≡ true) e (formed I.n sizes p.kind p.message w.form).direction

      down_from : (k : ℕ) → p.message.receiver ≡ suc k → p.message.sender < suc k → (p.message.receiver ≡ p.message.sender + 1) ⊎ (p.message.sender ≡ p.message.receiver + 1) → p.message.sender ≡ suc (pred k)
      down_from k r l (inl e) = omega (arith, r, e, a.from)
      down_from k r l (inr e) = absurd (omega (arith, r, l, e))

      back_from : (k : ℕ) → p.message.receiver ≡ suc k → suc k < p.message.sender → (p.message.receiver ≡ p.message.sender + 1) ⊎ (p.message.sender ≡ p.message.receiver + 1) → p.message.sender ≡ suc (suc k)
      back_from k r l (inl e) = absurd (omega (arith, r, l, e))
      back_from k r l (inr e) = omega (arith, r, e)

      go : (m : Msg) → Reads order I p m → SameSlot p m
      go (M.down k s b B l) h = record { kind = h.0; sender = down_from k h.1 h.2 (neighbours _ _ (d Cpa h.0)); receiver = h.1 }
      go (M.back k s b B l) h = record { kind = h.0; sender = back_from k h.1 h.2 (neighbours _ _ (d Cpa h.0)); receiver = h.1 }
      go (M.request k j s b) h = record { kind = h.0; sender = h.2; receiver = h.1 }
      go (M.estimate k j s e) h = record { kind = h.0; sender = h.2; receiver = h.1 }
      go (M.solution k B l) h =
          let q = eqb-true p.message.sender I.n (and_left _ _ (d Solution h.0)) in
          let e : p.message.sender ≡ suc (pred I.n) = omega (arith, q, a.from) in
          record { kind = h.0; sender = e; receiver = h.1 }
      go (M.stop k B l) h = record { kind = h.0; sender = eqb-true p.message.sender 1 (and_left _ _ (d Stop h.0)); receiver = h.1 }

  pub may_go : (p : Packet) (m : Msg) → SameSlot p m → Sendable I.n sizes p → MayGo I.n m
  may_go p m s w = rw (s.kind, s.sender, s.receiver) at (may_carry_lem I.n sizes p w)

  pub same_cell : (p : Packet) (m : Msg) → SameSlot p m → slot_of I.n p ≡ cell_for I.n m
  same_cell p m s = rw (s.kind, s.sender, s.receiver)

  -- ---- what stands in the cell d, as a packet and as a message

  abbrev pub Stand : ℕ → Option Packet → Option Msg → Type 0
  Stand d none none = Unit {0}
  Stand d none (some m) = ⊥
  Stand d (some p) none = ⊥
  Stand d (some p) (some m) = Reads order I p m × Sendable I.n sizes p × (slot_of I.n p ≡ d)

  pub record AllStand (cells : List (Option Packet)) (msgs : List (Option Msg)) : Type 0 where
    pub size : length cells ≡ used_slots I.n
    pub as_many : length msgs ≡ used_slots I.n
    pub stand : (d : ℕ) → Stand d (at_cell cells d) (at_cell msgs d)

  pub stand_set : (cells : List (Option Packet)) (msgs : List (Option Msg)) → AllStand cells msgs → (d : ℕ) → d < used_slots I.n → (x : Option Packet) (y : Option Msg) → Stand d x y
      → AllStand (slice_set cells d x) (slice_set msgs d y)
  stand_set cells msgs a d lt x y h =
      record {
        size = length-set cells d x ∙ a.size;
        as_many = length-set msgs d y ∙ a.as_many;
        stand = λ c. go c (cell_set cells d x c (subst (λ k. d < k) (sym a.size) lt)) (cell_set msgs d y c (subst (λ k. d < k) (sym a.as_many) lt));
      }
    where
      go : (c : ℕ) → ((c ≡ d) × (at_cell (slice_set cells d x) c ≡ x)) ⊎ ((c ≢ d) × (at_cell (slice_set cells d x) c ≡ at_cell cells c)) → ((c ≡ d) × (at_cell (slice_set msgs d y) c ≡ y)) ⊎ ((c ≢ d) × (at_cell (slice_set msgs d y) c ≡ at_cell msgs c))
          → Stand c (at_cell (slice_set cells d x) c) (at_cell (slice_set msgs d y) c)
      go c (inl e) (inl f) = rw (e.1, f.1) (subst (λ z. Stand z x y) (sym e.0) h)
      go c (inl e) (inr f) = absurd (f.0 e.0)
      go c (inr e) (inl f) = absurd (e.0 f.0)
      go c (inr e) (inr f) = rw (e.1, f.1) (a.stand c)

  pub stand_placed : (ps : List Packet) (ms : List Msg) (cells : List (Option Packet)) (msgs : List (Option Msg)) → ReadAll order I ps ms → Every (Sendable I.n sizes) ps → AllStand cells msgs
      → AllStand (place (slot_of I.n) cells ps) (place (cell_for I.n) msgs ms)
  unfolding place
  stand_placed [] [] cells msgs r w a = a
  stand_placed [] (m ∷ ms) cells msgs r w a = absurd r
  stand_placed (p ∷ ps) [] cells msgs r w a = absurd r
  stand_placed (p ∷ ps) (m ∷ ms) cells msgs r w a =
      let s = same_slot_lem p m r.0 (w p (here refl)) in
      let e = same_cell p m s in
      let lt : cell_for I.n m < used_slots I.n = cell_used I.n m (may_go p m s (w p (here refl))) in
      stand_placed ps ms (slice_set cells (slot_of I.n p) (some p)) (slice_set msgs (cell_for I.n m) (some m)) r.1 (λ q i. w q (there i))
      (subst (λ d. AllStand (slice_set cells d (some p)) (slice_set msgs (cell_for I.n m) (some m))) (sym e) (stand_set cells msgs a (cell_for I.n m) lt (some p) (some m) (r.0, w p (here refl), e)))
