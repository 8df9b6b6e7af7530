-- What making and a step go by: which refusal comes first, what the checks passed say, and what was decided as the caller gets it.
-- By the definitions of the calls; what is sent is at most 16 packets, by the laws of a unit. Assumes nothing.
use Prim.Native.Nat.{ℕ, zero, suc, pred, ◌-◌, ◌≤◌}
use native.Mathlib.Omega.{arith}
use mathlib.Core.Path.{◌≡◌, refl, sym, ap, ◌∙◌}
use mathlib.Core.Bool.{true, false}
use mathlib.Core.List.{[], List}
use lib.ListN.{length}
use Rattle.std.specs.Prelude.{Result, Ok, Err}
use Rattle.base.specs.declared.Refusal.{Refusal}
use Rattle.base.specs.Refusal.{number_of}
use Rattle.base.specs.Refusal.Laws.{or_first}
use Rattle.base.specs.Bytes.Laws.{AllBytes}
use Rattle.base.specs.Shape.{shape_good}
use Rattle.base.specs.Shape.Laws.{shape_n}
use Rattle.costs.specs.declared.Seat.{Seat}
use Rattle.costs.specs.declared.ValueOrder.{ValueOrder}
use Rattle.costs.specs.Instance.{View, lent_view, view_from}
use Rattle.costs.specs.Knowing.{knows_nothing}
use Rattle.message.specs.declared.Kind.{Kind}
use Rattle.message.specs.declared.Message.{Message}
use Rattle.message.specs.Message.{is_unit}
use Rattle.message.specs.Decode.{message_in, parse_for}
use Rattle.message.specs.DecodeLaws.{check_length}
use Rattle.message.specs.RoundTrip.{ParsedGood, parsed_good, parsed_message, sized_in}
use Rattle.rules.specs.declared.Unit.{Unit}
use Rattle.rules.specs.declared.Decided.{Decided}
use Rattle.rules.specs.declared.Outcome.{Outcome}
use Rattle.rules.specs.State.{fresh, in_range}
use Rattle.rules.specs.Step.{Decision, refused, accepted, respond}
use Rattle.rules.specs.Send.{packets, laid}
use Rattle.rules.specs.Laying.{Room, laid_none}
use Rattle.rules.specs.Calls.{outcome_of, bytes_of, seat_refusal, make_refusal, range_refusal, start, unless_refused, make_out, step_refusal, step_out}
use Rattle.rules.specs.Ready.{decided_of}
use Rattle.rules.specs.Laws.Views.{unit_range, lent_good_lem}
use Rattle.rules.specs.Laws.Range.{SizedUnit}
use Rattle.rules.specs.Laws.Assign.{Whenever, GoodDecision}
use Rattle.rules.specs.Laws.Steps.{respond-kept, start-kept}
use Rattle.rules.specs.Laws.Calls.{Makes, Passed}
use Rattle.rules.specs.Trusted.{respond_to, start_to}
use Rattle.rules.specs.Laws.Trusted.{seat_at, responds, starts}
use Rattle.rules.specs.Laws.Readiness.{pred_sub}
use Rattle.rules.specs.Laws.Refusals.{Accepts, assign_accepts}

-- ---- what the caller gets

-- a result and the bytes left, of what was decided
abbrev pub Told : ℕ → ℕ → Unit → List ℕ → Outcome → List ℕ → Decision → Type 0
Told n k was l r t o = (r ≡ outcome_of n k was o) × (t ≡ bytes_of n k l o)

pub told_by : (n k : ℕ) (was : Unit) (l : List ℕ) (r : Outcome) (t : List ℕ) (o o' : Decision) → o ≡ o' → Told n k was l r t o' → Told n k was l r t o
told_by n k was l r t o o' e h = rw e h

pub told-refused : (n k : ℕ) (was : Unit) (l : List ℕ) (r : Outcome) (o : Decision) (x : ℕ) → o ≡ refused x → r ≡ outcome_of n k was (refused x) → Told n k was l r l o
told-refused n k was l r o x e h = rw e (h, refl)

pub carried_out : (n own : ℕ) (was : Unit) (o : Decision) (d : Decided) (sent : ℕ) (l t : List ℕ) → d ≡ decided_of was o → d.refusal ≡ 0 → sent ≡ length (packets n (own - 1) d.sending)
    → t ≡ laid (packets n (own - 1) d.sending) l → Told n (pred own) was l (record { refusal = 0; unit = d.unit; sent = sent; records = d.records }) t o
unfolding packets
carried_out n own was (refused x) d sent l t e z f g = let y : x ≡ 0 = sym (ap (λ (q : Decided). q.refusal) e) ∙ z in rw (f, g, e, y) (refl, laid_none l)
carried_out n own was (accepted u s ws) d sent l t e z f g = rw (f, g, e, pred_sub own) (refl, refl)

pub carried_refusal : (n k : ℕ) (was : Unit) (o : Decision) (d : Decided) (l : List ℕ) (r : Outcome) → d ≡ decided_of was o → (d.refusal ≡ 0 → ⊥) → r ≡ outcome_of n k d.unit (refused d.refusal) → Told n k was l r l o
carried_refusal n k was (refused x) d l r e z f = (f ∙ rw e, refl)
carried_refusal n k was (accepted u s ws) d l r e z f = absurd (z (ap (λ (q : Decided). q.refusal) e))

-- ---- what was decided is at most 16 packets

few_decided : (n : ℕ) (sizes : List ℕ) (w : View) (was : Unit) (o : Decision) (d : Decided) → d ≡ decided_of was o → Whenever (GoodDecision n sizes w 16) o → length (packets n w.place d.sending) ≤ 16
unfolding packets
few_decided n sizes w was (refused x) d e h = rw e (omega arith)
few_decided n sizes w was (accepted u s ws) d e h = rw e h.few

room_of : (seat : Seat) (out : List ℕ) → shape_good seat.n seat.sizes ≡ true → is_unit seat.n seat.own ≡ true → 1024 ≤ length out → Room seat out
room_of seat out s i f = let u = unit_range seat.n seat.own i in record { first = u.0; last = u.1; units = (shape_n seat.n seat.sizes s).1; bytes = f }

-- ---- refusals before anything is done

module _ (seat : Seat) (costs : List ℕ) where
  module _ (r : ℕ) (e : r ≡ seat_refusal seat.own seat.n seat.sizes costs) where
    pub range_seat : (u : Unit) → (r ≡ 0 → ⊥) → r ≡ range_refusal seat.order u seat.own seat.n seat.sizes costs
    unfolding range_refusal
    range_seat u h = rw (← e, or_first r _ h)

    pub range_5 : (u : Unit) → r ≡ 0 → in_range seat.sizes (view_from seat costs) u ≡ false → 5 ≡ range_refusal seat.order u seat.own seat.n seat.sizes costs
    unfolding range_refusal
    range_5 u z f = rw (← e, z, f)

    pub range_0 : (u : Unit) → r ≡ 0 → in_range seat.sizes (view_from seat costs) u ≡ true → 0 ≡ range_refusal seat.order u seat.own seat.n seat.sizes costs
    unfolding range_refusal
    range_0 u z f = rw (← e, z, f)

-- ---- making

unless : (r : ℕ) (o : Decision) → (r ≡ 0 → ⊥) → unless_refused r o ≡ refused r
unless zero o h = absurd (h refl)
unless (suc r) o h = refl

module _ (order : ValueOrder) (own n : ℕ) (sizes costs : List ℕ) (room : ℕ) where
  pub make_stops : (r : ℕ) → r ≡ make_refusal own n sizes costs room → (r ≡ 0 → ⊥) → make_out order own n sizes costs room ≡ refused r
  unfolding make_out
  make_stops r e h = rw (← e) (unless r _ h)

  pub make_starts : (r : ℕ) → r ≡ make_refusal own n sizes costs room → r ≡ 0 → make_out order own n sizes costs room ≡ start (lent_view order own n sizes costs) (pred own)
  unfolding make_out
  make_starts r e h = rw (← e, h)

module _ (order : ValueOrder) (own n : ℕ) (sizes costs out : List ℕ) (m : Makes own n sizes costs (length out)) where
  pub make_room : Room (seat_at order own n sizes) out
  make_room = room_of (seat_at order own n sizes) out m.shape m.unit m.fits

  pub make_few : n ≤ length sizes → (was : Unit) (d : Decided) → d ≡ decided_of was (start (lent_view order own n sizes costs) (pred own)) → length (packets n (own - 1) d.sending) ≤ 16
  unfolding lent_view
  make_few long was d e =
      let w : View = lent_view order own n sizes costs in
      rw (← pred_sub own) (few_decided n sizes w was (start w (pred own)) d e (start-kept n sizes w (lent_good_lem order own n sizes costs m.shape long m.unit m.lent) (pred own) refl))

-- a new unit refuses nothing, so that what it decides doesn't keep the state before
start_accepts : (w : View) (k : ℕ) → Accepts (start w k)
start_accepts w zero = assign_accepts w fresh
start_accepts w (suc k) = tt

whoever : (was was' : Unit) (o : Decision) → Accepts o → decided_of was o ≡ decided_of was' o
whoever was was' (refused x) a = absurd a
whoever was was' (accepted u s ws) a = refl

pub start_decides : (order : ValueOrder) (own n : ℕ) (sizes costs : List ℕ) (room : ℕ) → Makes own n sizes costs room → n ≤ length sizes → (was : Unit) (d : Decided) → d ≡ decided_of fresh (start_to (seat_at order own n sizes) costs [])
    → d ≡ decided_of was (start (lent_view order own n sizes costs) (pred own))
start_decides order own n sizes costs room m long was d e =
    e ∙ ap (λ (o : Decision). decided_of fresh o) (starts (seat_at order own n sizes) costs [] room m long (knows_nothing (lent_view order own n sizes costs))) ∙ whoever fresh was (start (lent_view order own n sizes costs) (pred own)) (start_accepts (lent_view order own n sizes costs) (pred own))

-- ---- a step

module _ (order : ValueOrder) (u : Unit) (own n : ℕ) (sizes costs : List ℕ) (room : ℕ) where
  module _ (bytes : List ℕ) (r : ℕ) (e : r ≡ step_refusal order u own n sizes costs room) where
    pub step_stops : (r ≡ 0 → ⊥) → step_out order u own n sizes costs bytes room ≡ refused r
    unfolding step_out
    step_stops h = rw (← e) (unless r _ h)

    -- 01: "unless reading gave a message, the step ends there"
    pub step-unread : r ≡ 0 → (p : Result (Kind × Message) Refusal) → p ≡ parse_for n sizes own bytes → (x : Refusal) → p ≡ Err x → step_out order u own n sizes costs bytes room ≡ refused (number_of x)
    unfolding step_out
    step-unread z p f x a = rw (← e, z, ← f, a)

    pub step_reads : r ≡ 0 → (p : Result (Kind × Message) Refusal) → p ≡ parse_for n sizes own bytes → (k : Kind) (m : Message) → p ≡ Ok (k, m) → step_out order u own n sizes costs bytes room ≡ respond (lent_view order own n sizes costs) k u m
    unfolding step_out
    step_reads z p f k m a = rw (← e, z, ← f, a)

module _ (order : ValueOrder) (u : Unit) (own n : ℕ) (sizes costs out : List ℕ) (q : Passed order u own n sizes costs (length out)) where
  pub step_room : Room (seat_at order own n sizes) out
  step_room = room_of (seat_at order own n sizes) out q.shape q.unit q.fits

  module _ (long : n ≤ length sizes) (bytes : List ℕ) (p : Result (Kind × Message) Refusal) (read : p ≡ parse_for n sizes own bytes) (k : Kind) (m : Message) (good : p ≡ Ok (k, m)) where
    answered : parse_for n sizes own bytes ≡ Ok (k, m)
    answered = sym read ∙ good

    known : ParsedGood n sizes own bytes k
    known = parsed_good n sizes own bytes k m answered

    fields : m ≡ message_in bytes
    fields = parsed_message n sizes own bytes k m answered

    to_own : m.receiver ≡ own
    to_own = rw fields known.receiver

    pub step_decides : (d : Decided) → d ≡ decided_of u (respond_to (seat_at order own n sizes) costs [] k u m) → d ≡ decided_of u (respond (lent_view order own n sizes costs) k u m)
    step_decides d e = e ∙ rw fields (ap (λ (o : Decision). decided_of u o) (responds (seat_at order own n sizes) u costs [] (length out) q long (knows_nothing (lent_view order own n sizes costs)) bytes k m answered))

    pub step_few : SizedUnit u → AllBytes bytes → (was : Unit) (d : Decided) → d ≡ decided_of was (respond (lent_view order own n sizes costs) k u m) → length (packets n (own - 1) d.sending) ≤ 16
    unfolding lent_view
    step_few arrays all was d e =
        let w : View = lent_view order own n sizes costs in
        let to : m.receiver ≡ suc (pred own) = omega (arith, to_own, (unit_range n own q.unit).0) in
        rw (← pred_sub own) (few_decided n sizes w was (respond w k u m) d e
        (respond-kept n sizes w (lent_good_lem order own n sizes costs q.shape long q.unit q.lent) k u m q.state arrays record { address = rw fields known.address; form = rw fields known.formed; arrays = rw fields (sized_in bytes (check_length bytes known.check) all) } to))
