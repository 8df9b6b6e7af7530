-- What making and a step keep, whatever they are lent: a state in range, packets that can be written, at most 16 of them and of records.
-- The refusals say what was checked first (`Passed`, `Makes`), the rest is Steps. Assumes nothing.
use Rattle.std.specs.Prelude.{ℕ, zero, suc, ◌≤◌, pred, ◌≡◌, Bool, true, false, cond, not, List, ltb, length, Result, Ok, Err}
use Rattle.std.proofs.Math.Path.{refl, subst}
use Rattle.std.proofs.Common.{sym, arith}
use borrow.Author.Tests.{ltb-false, le-ltb, not-false}
use Rattle.base.specs.declared.Refusal.{Refusal}
use Rattle.base.specs.Limits.{sending_size}
use Rattle.base.specs.Refusal.Laws.{or_left, or_right}
use Rattle.base.specs.Shape.{shape_good}
use Rattle.costs.specs.declared.ValueOrder.{ValueOrder}
use Rattle.costs.specs.Instance.{View, lent_view}
use Rattle.costs.specs.Lent.{lent_refusal}
use Rattle.message.specs.declared.Message.{Message}
use Rattle.message.specs.declared.Kind.{Kind}
use Rattle.message.specs.Message.{Packet, is_unit}
use Rattle.message.specs.Written.{encode}
use Rattle.message.specs.Decode.{message_in, parse_for}
use Rattle.message.specs.DecodeLaws.{check_length}
use Rattle.base.specs.Bytes.Laws.{AllBytes}
use Rattle.message.specs.RoundTrip.{sized_in, parse_encode, parsed_good, parsed_message}
use Rattle.rules.specs.declared.Unit.{Unit as State}
use Rattle.rules.specs.State.{in_range}
use Rattle.rules.specs.Step.{Decision, refused, respond}
use Rattle.rules.specs.Calls.{seat_refusal, make_refusal, range_refusal, start, unless_refused, make_out, step_refusal, on_read, step_out}
use Rattle.rules.specs.Laws.Views.{unit_range, lent_good_lem}
use Rattle.rules.specs.Laws.Range.{SizedUnit}
use Rattle.rules.specs.Laws.Packets.{Sendable}
use Rattle.rules.specs.Laws.Assign.{Whenever, GoodDecision}
use Rattle.rules.specs.Laws.Steps.{respond-kept, start-kept}

-- ---- what was checked

-- a making that isn't refused
pub record Makes (own n : ℕ) (sizes costs : List ℕ) (room : ℕ) : Type 0 where
  pub shape : shape_good n sizes ≡ true
  pub unit : is_unit n own ≡ true
  pub lent : lent_refusal own n sizes costs ≡ 0
  pub fits : sending_size ≤ room

-- a step that isn't refused before its message is read
pub record Passed (order : ValueOrder) (u : State) (own n : ℕ) (sizes costs : List ℕ) (room : ℕ) : Type 0 where
  pub shape : shape_good n sizes ≡ true
  pub unit : is_unit n own ≡ true
  pub lent : lent_refusal own n sizes costs ≡ 0
  pub state : in_range sizes (lent_view order own n sizes costs) u ≡ true
  pub fits : sending_size ≤ room

-- what is lent beside a state, not refused
pub record Seated (own n : ℕ) (sizes costs : List ℕ) : Type 0 where
  pub shape : shape_good n sizes ≡ true
  pub unit : is_unit n own ≡ true
  pub lent : lent_refusal own n sizes costs ≡ 0

-- a test without its refusal
holds : (b : Bool) (r : ℕ) → cond b 0 (suc r) ≡ 0 → b ≡ true
holds true r e = refl
holds false r e = absurd (omega arith)

fails : (b : Bool) (r s : ℕ) → cond b (suc r) s ≡ 0 → (b ≡ false) × (s ≡ 0)
fails true r s e = absurd (omega arith)
fails false r s e = (refl, e)

module _ (own n : ℕ) (sizes costs : List ℕ) where
  pub seated : seat_refusal own n sizes costs ≡ 0 → Seated own n sizes costs
  unfolding seat_refusal
  seated e =
      let s = fails (not (shape_good n sizes)) 4 _ e in
      let i = fails (not (is_unit n own)) 9 _ s.1 in
      record { shape = not-false _ s.0; unit = not-false _ i.0; lent = i.1 }

  seat_good : Seated own n sizes costs → seat_refusal own n sizes costs ≡ 0
  unfolding seat_refusal
  seat_good s = rw (s.shape, s.unit, s.lent)

  module _ (room : ℕ) where
    pub makes : make_refusal own n sizes costs room ≡ 0 → Makes own n sizes costs room
    unfolding make_refusal
    makes e =
        let s = seated (or_left _ _ e) in
        record { shape = s.shape; unit = s.unit; lent = s.lent; fits = ltb-false room sending_size (fails (ltb room sending_size) 12 0 (or_right (seat_refusal own n sizes costs) _ e)).0 }

    module _ (order : ValueOrder) (u : State) where
      pub passed : step_refusal order u own n sizes costs room ≡ 0 → Passed order u own n sizes costs room
      unfolding step_refusal range_refusal
      passed e =
          let f = fails (ltb room sending_size) 12 _ e in
          let s = seated (or_left _ _ f.1) in
          record { shape = s.shape; unit = s.unit; lent = s.lent; state = holds _ 4 (or_right (seat_refusal own n sizes costs) _ f.1); fits = ltb-false room sending_size f.0 }

      pub not_refused : Passed order u own n sizes costs room → step_refusal order u own n sizes costs room ≡ 0
      unfolding step_refusal range_refusal
      not_refused p = rw (le-ltb room sending_size p.fits, seat_good (record { shape = p.shape; unit = p.unit; lent = p.lent }), p.state)

-- a refusal, or what follows
unless_refused_lem : (P : Decision → Type 0) (r : ℕ) (o : Decision) → ((x : ℕ) → P (refused x)) → (r ≡ 0 → P o) → P (unless_refused r o)
unless_refused_lem P zero o f g = g refl
unless_refused_lem P (suc r) o f g = f (suc r)

module _ (order : ValueOrder) (own n : ℕ) (sizes costs : List ℕ) (room : ℕ) (long : n ≤ length sizes) where
  abbrev view : View
  view = lent_view order own n sizes costs

  own_suc : is_unit n own ≡ true → own ≡ suc (pred own)
  own_suc e = omega (arith, (unit_range n own e).0)

  place_is : view.place ≡ pred own
  unfolding lent_view
  place_is = refl

  -- ---- making

  pub make-kept : Whenever (GoodDecision n sizes (lent_view order own n sizes costs) 16) (make_out order own n sizes costs room)
  unfolding make_out
  make-kept =
      unless_refused_lem (Whenever (GoodDecision n sizes view 16)) (make_refusal own n sizes costs room) (start view (pred own)) (λ x. tt)
      (λ e. let m = makes own n sizes costs room e in start-kept n sizes view (lent_good_lem order own n sizes costs m.shape long m.unit m.lent) (pred own) (sym place_is))

  -- what is lent well is made
  pub make_starts : Makes own n sizes costs room → make_out order own n sizes costs room ≡ start (lent_view order own n sizes costs) (pred own)
  unfolding make_out make_refusal
  make_starts m = rw (seat_good own n sizes costs (record { shape = m.shape; unit = m.unit; lent = m.lent }), le-ltb room sending_size m.fits)

  -- ---- a step

  module _ (u : State) (arrays : SizedUnit u) (bytes : List ℕ) (all : AllBytes bytes) where
    receiver_is : is_unit n own ≡ true → (m : Message) → m.receiver ≡ own → m.receiver ≡ suc view.place
    receiver_is i m e = omega (arith, (unit_range n own i).0, place_is)

    read_kept : Passed order u own n sizes costs room → (a : Result (Kind × Message) Refusal) → parse_for n sizes own bytes ≡ a → Whenever (GoodDecision n sizes view 16) (on_read view u a)
    read_kept p (Err r) e = tt
    read_kept p (Ok (k, read)) e =
        let a = parsed_good n sizes own bytes k read e in
        let m : Message = message_in bytes in
        subst (λ (x : Message). Whenever (GoodDecision n sizes view 16) (respond view k u x)) (sym (parsed_message n sizes own bytes k read e))
        (respond-kept n sizes view (lent_good_lem order own n sizes costs p.shape long p.unit p.lent) k u m p.state arrays
        record { address = a.address; form = a.formed; arrays = sized_in bytes (check_length bytes a.check) all } (receiver_is p.unit m a.receiver))

    pub step_kept : Whenever (GoodDecision n sizes (lent_view order own n sizes costs) 16) (step_out order u own n sizes costs bytes room)
    unfolding step_out
    step_kept =
        unless_refused_lem (Whenever (GoodDecision n sizes view 16)) (step_refusal order u own n sizes costs room) (on_read view u (parse_for n sizes own bytes)) (λ x. tt)
        (λ e. read_kept (passed own n sizes costs room order u e) (parse_for n sizes own bytes) refl)

  -- a packet that can be written, written and given to its receiver, is what the unit responds to
  pub step_of_packet : (u : State) → Passed order u own n sizes costs room → (p : Packet) → Sendable n sizes p → p.message.receiver ≡ own
      → step_out order u own n sizes costs (encode p.kind p.message) room ≡ respond (lent_view order own n sizes costs) p.kind u p.message
  unfolding step_out
  step_of_packet u q p s to =
      let e : parse_for n sizes own (encode p.kind p.message) ≡ Ok (p.kind, p.message) =
      subst (λ (x : ℕ). parse_for n sizes x (encode p.kind p.message) ≡ Ok (p.kind, p.message)) to (parse_encode n sizes p.kind p.message q.shape s.address s.form s.arrays) in
      rw (not_refused own n sizes costs room order u q, e)
