-- A unit on what is known to be good: what is asked is what the deciding functions ask, what it sends is sent where it fits,
-- and on what making and a step accept it is these. By the tests. Assumes nothing.
use Rattle.std.specs.Prelude.{ℕ, pred, ◌*◌, ◌-◌, ◌≤◌, ◌<◌, ◌≡◌, refl, Bool, true, false, ◌&&◌, ◌||◌, List, [], leb, eqb, length, get_or, Result, Ok}
use Rattle.std.proofs.Common.{ap, ◌∙◌, arith}
use borrow.Author.Tests.{le-leb, lt-leb, leb-true, leb-false, le-ltb, eq-eqb, ne_eqb, eqb-true, eqb-false}
use Rattle.base.specs.declared.Refusal.{Refusal}
use Rattle.base.specs.Limits.{message_size, sending_size}
use Rattle.base.specs.Shape.Laws.{and_left, and_right}
use Rattle.costs.specs.declared.Seat.{Seat}
use Rattle.costs.specs.declared.ValueOrder.{ValueOrder}
use Rattle.costs.specs.Instance.{View, view_from, view_knowing}
use Rattle.costs.specs.Knowing.{Knows, knowing_sees}
use Rattle.message.specs.declared.Kind.{Kind}
use Rattle.message.specs.declared.Message.{Message}
use Rattle.message.specs.Message.{is_unit}
use Rattle.message.specs.Decode.{message_in, parse_for}
use Rattle.message.specs.Unpack.{unpack_of}
use Rattle.message.specs.RoundTrip.{ParsedGood, parsed_good, unpack_parsed}
use Rattle.rules.specs.declared.Unit.{Unit as State}
use Rattle.rules.specs.declared.Sending.{Sending}
use Rattle.rules.specs.Step.{refused, respond}
use Rattle.rules.specs.Send.{packets}
use Rattle.rules.specs.State.{fresh, in_range}
use Rattle.rules.specs.Calls.{start, step_out}
use Rattle.rules.specs.Trusted.{can_step, can_hear, respond_to, start_to, in_range_at, on_known, read_by_number, trusted_out, can_send, send_to}
use Rattle.rules.specs.Laying.{Placed}
use Rattle.rules.specs.Ready.{Own, Shaped, Ready, Heard}
use Rattle.rules.specs.Laws.Views.{unit_range}
use Rattle.rules.specs.Laws.Readiness.{shaped_of, ready_of, ready_fresh, heard_of}
use Rattle.rules.specs.Laws.Calls.{Makes, Passed, not_refused}

-- a seat by its parts
abbrev pub seat_at : ValueOrder → ℕ → ℕ → List ℕ → Seat
seat_at order own n sizes = record { own = own; n = n; sizes = sizes; order = order }

-- ---- what the tests say

either : (a b : Bool) → (a || b) ≡ true → a ≡ false → b ≡ true
either true b e f = let c : ◌≡◌ {A = ℕ} 0 1 = cc in absurd (omega arith)
either false b e f = e

module _ (seat : Seat) (u : State) (e : can_step seat.own seat.n seat.sizes u ≡ true) where
  valued : (is_unit seat.n seat.own && leb seat.n 16 && leb (get_or seat.sizes (seat.own - 1) 0) 16 && leb (get_or u.threshold (seat.own - 1) 0) 17
      && leb (get_or u.values (seat.own - 1) 0) (get_or seat.sizes (seat.own - 1) 0)) ≡ true
  valued = and_left _ _ e

  counted : (is_unit seat.n seat.own && leb seat.n 16 && leb (get_or seat.sizes (seat.own - 1) 0) 16 && leb (get_or u.threshold (seat.own - 1) 0) 17) ≡ true
  counted = and_left _ _ valued

  pub known_shaped : Shaped seat
  known_shaped =
      let s = and_left (is_unit seat.n seat.own && leb seat.n 16 && leb (get_or seat.sizes (seat.own - 1) 0) 16) _ counted in
      let n = and_left (is_unit seat.n seat.own && leb seat.n 16) _ s in
      let o = unit_range seat.n seat.own (and_left (is_unit seat.n seat.own) _ n) in
      let most = leb-true seat.n 16 (and_right (is_unit seat.n seat.own) _ n) in
      record {
        number = record { first = o.0; last = omega (arith, o.1, most) };
        within = o.1;
        units = most;
        size = leb-true _ 16 (and_right (is_unit seat.n seat.own && leb seat.n 16) _ s);
      }

  pub known_ready : Ready seat u
  known_ready = record {
    threshold = leb-true _ 17 (and_right (is_unit seat.n seat.own && leb seat.n 16 && leb (get_or seat.sizes (seat.own - 1) 0) 16) _ counted);
    value = leb-true _ _ (and_right (is_unit seat.n seat.own && leb seat.n 16 && leb (get_or seat.sizes (seat.own - 1) 0) 16 && leb (get_or u.threshold (seat.own - 1) 0) 17) _ valued);
    counter = λ l. leb-true _ _ (either _ _ (and_right (is_unit seat.n seat.own && leb seat.n 16 && leb (get_or seat.sizes (seat.own - 1) 0) 16 && leb (get_or u.threshold (seat.own - 1) 0) 17 && leb (get_or u.values (seat.own - 1) 0) (get_or seat.sizes (seat.own - 1) 0)) _ e) (ne_eqb (get_or u.values (seat.own - 1) 0) 0 (λ z. omega (arith, l, z))));
  }

pub known_heard : (own : ℕ) (m : Message) → can_hear own m ≡ true → Heard own m
known_heard own m e =
    let s = and_left (is_unit 16 m.sender && leb (get_or m.stamp (own - 1) 0) 17) _ e in
    let from = unit_range 16 m.sender (and_left (is_unit 16 m.sender) _ s) in
    record {
      sender = record { first = from.0; last = from.1 };
      stamp = leb-true _ 17 (and_right (is_unit 16 m.sender) _ s);
      bare = λ l. eqb-true _ 0 (either _ _ (and_right (is_unit 16 m.sender && leb (get_or m.stamp (own - 1) 0) 17) _ e) (lt-leb own m.sender l));
    }

-- ---- which way it goes

module _ (seat : Seat) (costs ahead : List ℕ) (k : Kind) (u : State) (m : Message) where
  pub respond_5 : can_step seat.own seat.n seat.sizes u ≡ false → respond_to seat costs ahead k u m ≡ refused 5
  unfolding respond_to
  respond_5 e = rw e

  pub respond_9 : can_step seat.own seat.n seat.sizes u ≡ true → can_hear seat.own m ≡ false → respond_to seat costs ahead k u m ≡ refused 9
  unfolding respond_to
  respond_9 e f = rw (e, f)

  pub respond_on : can_step seat.own seat.n seat.sizes u ≡ true → can_hear seat.own m ≡ true → respond_to seat costs ahead k u m ≡ respond (view_knowing seat costs ahead) k u m
  unfolding respond_to
  respond_on e f = rw (e, f)

module _ (seat : Seat) (costs ahead : List ℕ) where
  pub start_5 : can_step seat.own seat.n seat.sizes fresh ≡ false → start_to seat costs ahead ≡ refused 5
  unfolding start_to
  start_5 e = rw e

  pub start_on : can_step seat.own seat.n seat.sizes fresh ≡ true → start_to seat costs ahead ≡ start (view_knowing seat costs ahead) (pred seat.own)
  unfolding start_to
  start_on e = rw e

module _ (seat : Seat) (u : State) (costs ahead bytes : List ℕ) (room : ℕ) (fits : sending_size ≤ room) (p : Result (Kind × Message) Refusal) (read : p ≡ unpack_of bytes) where
  pub trusted_known : trusted_out seat u costs ahead bytes room ≡ on_known seat costs ahead u (read_by_number p)
  unfolding trusted_out
  trusted_known = rw (le-ltb room sending_size fits, ← read)

  pub trusted_on : (k : Kind) (m : Message) → p ≡ Ok (k, m) → trusted_out seat u costs ahead bytes room ≡ respond_to seat costs ahead k u m
  trusted_on k m a = trusted_known ∙ rw a

-- ---- what was decided is sent

module _ (seat : Seat) (s : Sending) (room : ℕ) where
  pub send_none : can_send seat s room ≡ false → send_to seat s room ≡ []
  unfolding send_to
  send_none e = rw e

  pub send_all : can_send seat s room ≡ true → send_to seat s room ≡ packets seat.n (seat.own - 1) s
  unfolding send_to
  send_all e = rw e

  pub sender-placed : can_send seat s room ≡ true → Placed seat × (message_size * length (packets seat.n (seat.own - 1) s) ≤ room)
  sender-placed e =
      let a = and_left (is_unit seat.n seat.own && leb seat.n 16) _ e in
      let u = unit_range seat.n seat.own (and_left _ _ a) in
      (record { first = u.0; last = u.1; units = leb-true seat.n 16 (and_right (is_unit seat.n seat.own) _ a) }, leb-true _ room (and_right (is_unit seat.n seat.own && leb seat.n 16) _ e))

  pub can_send_lem : Placed seat → message_size * length (packets seat.n (seat.own - 1) s) ≤ room → can_send seat s room ≡ true
  can_send_lem p f = rw (le-leb 1 seat.own p.first, le-leb seat.own seat.n p.last, le-leb seat.n 16 p.units, le-leb _ room f)

-- ---- on what making and a step accept

pub in_range_at_lem : (seat : Seat) (costs ahead : List ℕ) (u : State) → Own seat.own → in_range_at seat costs ahead u ≡ in_range seat.sizes (view_knowing seat costs ahead) u
unfolding in_range_at
in_range_at_lem seat costs ahead u o = rw (le-leb 1 seat.own o.first, le-leb seat.own 16 o.last)

fits_counter : (value counter : ℕ) → (0 < value → counter ≤ 16) → (eqb value 0 || leb counter 16) ≡ true
fits_counter value counter f = go (eqb value 0) refl
  where
    go : (t : Bool) → eqb value 0 ≡ t → (t || leb counter 16) ≡ true
    go true e = refl
    go false e = le-leb _ _ (f (nonzero (eqb-false _ 0 e)))
      where
        nonzero : (value ≡ 0 → ⊥) → 0 < value
        nonzero h = omega arith

can_step_lem : (seat : Seat) (u : State) → Shaped seat → is_unit seat.n seat.own ≡ true → Ready seat u → can_step seat.own seat.n seat.sizes u ≡ true
can_step_lem seat u s e r = rw (e, le-leb seat.n 16 s.units, le-leb _ 16 s.size, le-leb _ 17 r.threshold, le-leb _ _ r.value) (fits_counter (get_or u.values (seat.own - 1) 0) u.counter r.counter)

can_hear_lem : (own : ℕ) (m : Message) → Heard own m → can_hear own m ≡ true
can_hear_lem own m h = rw (le-leb 1 m.sender h.sender.first, le-leb m.sender 16 h.sender.last, le-leb _ 17 h.stamp) (go (leb own m.sender) refl)
  where
    go : (t : Bool) → leb own m.sender ≡ t → (t || eqb (get_or m.values (own - 1) 0) 0) ≡ true
    go true e = refl
    go false e = eq-eqb _ 0 (h.bare (leb-false own m.sender e))

pub starts : (seat : Seat) (costs ahead : List ℕ) (room : ℕ) → Makes seat.own seat.n seat.sizes costs room → seat.n ≤ length seat.sizes → Knows (view_from seat costs) ahead
    → start_to seat costs ahead ≡ start (view_from seat costs) (pred seat.own)
starts seat costs ahead room m long knows =
    let s = shaped_of seat m.shape long m.unit in
    start_on seat costs ahead (can_step_lem seat fresh s m.unit (ready_fresh seat s.number)) ∙ ap (λ (w : View). start w (pred seat.own)) (knowing_sees (view_from seat costs) ahead knows)

module _ (seat : Seat) (u : State) (costs ahead : List ℕ) (room : ℕ) (q : Passed seat.order u seat.own seat.n seat.sizes costs room) (long : seat.n ≤ length seat.sizes) (knows : Knows (view_from seat costs) ahead) (bytes : List ℕ) (k : Kind)
    (m : Message) (good : parse_for seat.n seat.sizes seat.own bytes ≡ Ok (k, m)) where
  known : ParsedGood seat.n seat.sizes seat.own bytes k
  known = parsed_good seat.n seat.sizes seat.own bytes k m good

  pub responds : respond_to seat costs ahead k u (message_in bytes) ≡ respond (view_from seat costs) k u (message_in bytes)
  responds =
      let s = shaped_of seat q.shape long q.unit in
      let m = heard_of seat.own seat.n seat.sizes k (message_in bytes) q.shape long known.address known.receiver known.formed in
      respond_on seat costs ahead k u (message_in bytes) (can_step_lem seat u s q.unit (ready_of seat costs u q.shape long q.unit q.state)) (can_hear_lem seat.own (message_in bytes) m)
      ∙ ap (λ (w : View). respond w k u (message_in bytes)) (knowing_sees (view_from seat costs) ahead knows)

  pub trusted_steps : trusted_out seat u costs ahead bytes room ≡ step_out seat.order u seat.own seat.n seat.sizes costs bytes room
  unfolding trusted_out step_out
  trusted_steps =
      rw (unpack_parsed seat.n seat.sizes seat.own bytes k m good, known.whole, le-ltb room sending_size q.fits, not_refused seat.own seat.n seat.sizes costs room seat.order u q) responds
