-- The delivery of the oldest message where it changes little: what the way of the message says is what the delivery gives.
-- From the step that trusts: as it is not refused, the unit decides by the message's kind. Assumes nothing.
use Rattle.std.specs.Prelude.{ℕ, suc, pred, ◌+◌, ◌*◌, ◌-◌, ◌≤◌, ◌<◌, ◌≡◌, ◌⊎◌, Bool, true, false, cond, List, [], ◌∷◌, ◌++◌, length, get_or, set, take, drop, replicate, Ok}
use Rattle.std.proofs.Math.Path.{refl, sym, ap}
use Rattle.std.proofs.Common.{◌∙◌, subst, ⊎_elim, append-nil, append_assoc, arith, length-drop, take-append-drop, drop-drop}
use Rattle.std.proofs.lemmas.List.{length-replicate, set-get_or}
use Rattle.std.proofs.Math.Seq.{paste, paste-zero}
use Rattle.base.specs.Limits.{sending_size, message_size, pool_cells}
use Rattle.base.specs.Bytes.Laws.{AllBytes}
use Rattle.table.specs.Stream.{units_of}
use Rattle.table.specs.StreamLaws.{accepted_units}
use Rattle.costs.specs.declared.Seat.{Seat}
use Rattle.costs.specs.declared.ValueOrder.{ValueOrder}
use Rattle.costs.specs.Instance.{View, lent_view, view_knowing}
use Rattle.costs.specs.Knowing.{Knows}
use Rattle.costs.specs.Gather.{sizes_in}
use Rattle.costs.specs.Gathered.{gathered}
use Rattle.message.specs.declared.Kind.{Kind}
use Rattle.message.specs.declared.Kind.TheVariants.{Estimate}
use Rattle.message.specs.declared.Message.{Message}
use Rattle.message.specs.Message.{Packet}
use Rattle.message.specs.Sized.{Sized}
use Rattle.message.specs.Decode.{put_into}
use Rattle.message.specs.Written.{encode}
use Rattle.message.specs.EncodeLaws.{length_encode, put-fits}
use Rattle.message.specs.Unpack.{unpack_of}
use Rattle.rules.specs.declared.Unit.{Unit as UnitState}
use Rattle.rules.specs.declared.Outcome.{Outcome}
use Rattle.rules.specs.declared.Decided.{Decided}
use Rattle.rules.specs.declared.Sending.{Sending}
use Rattle.rules.specs.declared.Way.{Way}
use Rattle.rules.specs.declared.Way.TheVariants.{Quiet, Reply, Follow, Store, Lower, Whole}
use Rattle.rules.specs.State.{empty_unit, with_threshold, with_best}
use Rattle.rules.specs.Step.{Decision, refused, accepted, quiet, reply, by_kind}
use Rattle.rules.specs.Tests.{stored, silent}
use Rattle.rules.specs.Send.{packet, packets, encode_all, laid}
use Rattle.rules.specs.Laying.{Placed, wide_one, packets_wide, laid_none}
use Rattle.rules.specs.Ready.{decided_of}
use Rattle.rules.specs.Units.{unit_at}
use Rattle.rules.specs.Calls.{outcome_of, bytes_of}
use Rattle.rules.specs.Trusted.{on_known, trusted_out, can_send, send_to}
use Rattle.rules.specs.Way.{way_of, by_way, reply_to, changed_by}
use Rattle.rules.specs.Laws.Range.{SizedUnit}
use Rattle.rules.specs.Laws.Trusted.{seat_at, trusted_known, trusted_on, send_all, can_send_lem}
use Rattle.rules.specs.Laws.Ways.{way_decides, reply_is, store-sender, unrefused_by_kind}
use Rattle.runs.specs.declared.Count.{Count}
use Rattle.runs.specs.declared.Core.{Core}
use Rattle.runs.specs.declared.Network.{Network}
use Rattle.runs.specs.declared.Outlook.{Outlook}
use Rattle.runs.specs.Count.{plus}
use Rattle.runs.specs.Count.Laws.{Words, plus_none}
use Rattle.runs.specs.Calls.{network_after, receiver_of, deliver_of}
use Rattle.runs.specs.Lending.{Lent, Looked, no_outlook, looked_long, looked_at, part-order, part_end, part_costs}
use Rattle.runs.specs.Pool.Laws.{close_gap, length_closed, sent_front}
use Rattle.runs.specs.Code.{Open}
use Rattle.runs.proofs.CodeLaws.{own_first, own-last, pred_sub}
use Rattle.runs.specs.Trusted.{Oldest, Handed}
use Rattle.runs.proofs.Trusted.{checks, oldest_unrefused, oldest_room, oldest_handed}
use Rattle.runs.specs.Short.{Heard, Passed, SentOn, short_outcome, stepped, way_code}

-- nothing decided, nothing sent
silent_none : (seat : Seat) (room : ℕ) → send_to seat silent room ≡ []
unfolding send_to packets
silent_none seat room = go (can_send seat silent room)
  where
    go : (b : Bool) → cond {A = List Packet} b [] [] ≡ []
    go true = refl
    go false = refl

-- the pool with one packet behind the others
pub one_sent : (pool : List ℕ) (at : ℕ) (m : Message) (out : List ℕ) → Sized m → at + message_size ≤ length pool → paste pool at (laid (packet Estimate m ∷ []) out) message_size ≡ put_into Estimate m pool at
unfolding encode_all
one_sent pool at m out z fits =
    let front : take message_size (laid (packet Estimate m ∷ []) out) ≡ encode Estimate m = sent_front (packet Estimate m ∷ []) out (wide_one Estimate m z) ∙ append-nil (encode Estimate m) in
    rw (front, (put-fits Estimate m pool at fits).1, length_encode Estimate m z)

module _ {order : ValueOrder} {u : UnitState} {own n : ℕ} {sizes costs ahead pool : List ℕ} {used : ℕ} (t : Oldest order u own n sizes costs ahead pool used) (arrays : SizedUnit u) (k : Kind) (m : Message) (read : Ok (k, m) ≡ unpack_of (take message_size (drop 0 pool))) where
  abbrev blank : List ℕ
  blank = replicate sending_size 0

  fits : sending_size ≤ length blank
  fits = omega (arith, length-replicate {A = ℕ} sending_size 0)

  abbrev seat : Seat
  seat = seat_at order own n sizes

  abbrev view : View
  view = view_knowing seat costs ahead

  abbrev decision : Decision
  decision = trusted_out seat u costs ahead (take message_size (drop 0 pool)) (length blank)

  unrefused : (outcome_of n (pred own) u decision).refusal ≡ 0
  unrefused = oldest_unrefused t blank (bytes_of n (pred own) blank decision) fits (outcome_of n (pred own) u decision) refl refl arrays

  by_kind_lem : decision ≡ by_kind view k u m
  by_kind_lem =
      let f = trusted_on seat u costs ahead (take message_size (drop 0 pool)) (length blank) fits (Ok (k, m)) read k m refl in
      f ∙ unrefused_by_kind seat costs ahead k u m n (pred own) (ap (λ (o : Decision). (outcome_of n (pred own) u o).refusal) (sym f) ∙ unrefused)

  by_way_lem : decision ≡ by_way (way_of seat (Ok (k, m)) u) view u m decision
  by_way_lem = by_kind_lem ∙ way_decides seat costs ahead k u m ∙ ap (λ (o : Decision). by_way (way_of seat (Ok (k, m)) u) view u m o) (sym by_kind_lem)

  -- what the unit decides is handed over
  handed : (o : Decision) → decision ≡ o → (after : List ℕ)
      → after ≡ paste (close_gap pool 0 (message_size * used)) (message_size * (used - 1)) (bytes_of n (pred own) blank o) (message_size * (outcome_of n (pred own) u o).sent) → Handed t (outcome_of n (pred own) u o) after
  handed o e after f =
      oldest_handed t blank (bytes_of n (pred own) blank o) fits (outcome_of n (pred own) u o) (ap (λ (x : Decision). outcome_of n (pred own) u x) (sym e)) (ap (λ (x : Decision). bytes_of n (pred own) blank x) (sym e)) arrays after f

  -- nothing is sent: the gap is closed
  quietly : (v : UnitState) → decision ≡ quiet v → (after : List ℕ) → after ≡ close_gap pool 0 (message_size * used) → Handed t (short_outcome v 0) after
  unfolding packets
  quietly v e after f = handed (quiet v) e after (f ∙ paste-zero (close_gap pool 0 (message_size * used)) (message_size * (used - 1)) (bytes_of n (pred own) blank (quiet v)))

  pub short_open : Open order t.net t.stream pool 0
  short_open = checks order t.net t.stream pool 0 t.accepted

  -- the packet fits behind the others
  behind : message_size * (used - 1) + message_size ≤ length (close_gap pool 0 (message_size * used))
  behind =
      let few : used ≤ pool_cells = rw t.count short_open.passed.few in
      let here : 1 ≤ used = rw t.count short_open.here in
      let room = short_open.passed.room in
      omega (arith, length_closed pool used 0 here (omega (arith, few, room)))

  -- an estimate is sent
  answering : (v : UnitState) → decision ≡ accepted v (reply view m) [] → (sent : Message) → sent ≡ (reply view m).message → Sized sent → (after : List ℕ)
      → after ≡ put_into Estimate sent (close_gap pool 0 (message_size * used)) (message_size * (used - 1)) → Handed t (short_outcome v 1) after
  unfolding packets
  answering v e sent f z after g =
      handed (accepted v (reply view m) []) e after
      (g ∙ sym (one_sent (close_gap pool 0 (message_size * used)) (message_size * (used - 1)) sent blank z behind)
      ∙ ap (λ (x : Message). paste (close_gap pool 0 (message_size * used)) (message_size * (used - 1)) (laid (packet Estimate x ∷ []) blank) message_size) f)

  -- ---- the whole way: what the unit decided is sent on

  laid_is : (ps : List Packet) (l : List ℕ) → laid ps l ≡ encode_all ps ++ drop (message_size * length ps) l
  unfolding laid
  laid_is ps l = refl

  -- messages laid behind the others are pasted there
  laid_behind : (ps : List Packet) (closed out : List ℕ) (at : ℕ) → length (encode_all ps) ≡ message_size * length ps → take at closed ++ laid ps (drop at closed) ≡ paste closed at (laid ps out) (message_size * length ps)
  laid_behind ps closed out at w = rw (sent_front ps out w, laid_is ps (drop at closed), drop-drop (message_size * length ps) at closed, append_assoc (take at closed) (encode_all ps) (drop (at + message_size * length ps) closed))

  module _ (d : Decided) (is : d ≡ decided_of u (on_known seat costs ahead u (Ok (k, m)))) (sent : ℕ) (after : List ℕ) (on : SentOn seat d.sending pool used sent after) where
    abbrev closed : List ℕ
    closed = close_gap pool 0 (message_size * used)

    told : decision ≡ on_known seat costs ahead u (Ok (k, m))
    told = trusted_known seat u costs ahead (take message_size (drop 0 pool)) (length blank) fits (Ok (k, m)) read

    placed : Placed seat
    placed =
        let o = short_open.passed.core in
        let first = own_first order t.net.core t.stream o n own (take message_size (drop 0 pool)) t.units t.named in
        let last = own-last order t.net.core t.stream o n own (take message_size (drop 0 pool)) t.units t.named in
        record { first = first; last = omega (arith, last, t.units); units = omega (arith, t.units, (accepted_units t.stream o.table).1) }

    abbrev whole_outcome : Outcome
    whole_outcome = record { refusal = 0; unit = d.unit; sent = sent; records = d.records }

    -- all that is sent fits behind the others
    room : (s : Sending) → used - 1 + length (packets n (pred own) s) ≤ pool_cells → message_size * length (packets n (own - 1) s) ≤ length (drop (message_size * (used - 1)) closed)
    room s l =
        let few : used ≤ pool_cells = rw t.count short_open.passed.few in
        let here : 1 ≤ used = rw t.count short_open.here in
        let long = short_open.passed.room in
        rw (← pred_sub own) (omega (arith, l, length-drop (message_size * (used - 1)) closed, length_closed pool used 0 here (omega (arith, few, long))))

    pub whole_handed : Handed t whole_outcome after
    whole_handed = go (on_known seat costs ahead u (Ok (k, m))) told is
      where
        go : (o : Decision) → decision ≡ o → d ≡ decided_of u o → Handed t whole_outcome after
        go (refused x) e f =
            let q : SentOn seat silent pool used sent after = rw f at on in
            let none = silent_none seat (length (drop (message_size * (used - 1)) closed)) in
            let zero : sent ≡ 0 = q.1 ∙ ap (λ (ps : List Packet). length ps) none in
            let x0 : x ≡ 0 = ap (λ (y : Decision). (outcome_of n (pred own) u y).refusal) (sym e) ∙ unrefused in
            let same : after ≡ closed =
            q.2 ∙ ap (λ (ps : List Packet). take (message_size * (used - 1)) closed ++ laid ps (drop (message_size * (used - 1)) closed)) none
            ∙ ap (λ (l : List ℕ). take (message_size * (used - 1)) closed ++ l) (laid_none (drop (message_size * (used - 1)) closed)) ∙ take-append-drop (message_size * (used - 1)) closed in
            let h = handed (refused x) e after (same ∙ paste-zero closed (message_size * (used - 1)) blank) in
            rw (zero, f) (subst (λ (y : ℕ). Handed t (record { refusal = y; unit = u; sent = 0; records = 0 }) after) x0 h)
        go (accepted v s ws) e f =
            let q : SentOn seat s pool used sent after = rw f at on in
            let fit = oldest_room t blank (bytes_of n (pred own) blank decision) fits (outcome_of n (pred own) u decision) refl refl arrays in
            let l : used - 1 + length (packets n (pred own) s) ≤ pool_cells = rw e at fit in
            let all : send_to seat s (length (drop (message_size * (used - 1)) closed)) ≡ packets n (pred own) s =
            send_all seat s _ (can_send_lem seat s _ placed (room s l)) ∙ ap (λ (k : ℕ). packets n k s) (sym (pred_sub own)) in
            let count : sent ≡ length (packets n (pred own) s) = q.1 ∙ ap (λ (ps : List Packet). length ps) all in
            let put : after ≡ paste closed (message_size * (used - 1)) (laid (packets n (pred own) s) blank) (message_size * length (packets n (pred own) s)) =
            q.2 ∙ ap (λ (ps : List Packet). take (message_size * (used - 1)) closed ++ laid ps (drop (message_size * (used - 1)) closed)) all
            ∙ laid_behind (packets n (pred own) s) closed blank (message_size * (used - 1)) (packets_wide n (pred own) s q.0) in
            rw (count, f) (handed (accepted v s ws) e after put)

  -- ---- the way of the message

  module _ (way : Way) (is : way ≡ way_of seat (Ok (k, m)) u) where
    decided : (x : Way) → way ≡ x → decision ≡ by_way x view u m decision
    decided x e = by_way_lem ∙ ap (λ (y : Way). by_way y view u m decision) (sym is ∙ e)

    module _ (sent : ℕ) (after : List ℕ) where
      -- nothing was sent
      still : (x : Way) (v : UnitState) → way ≡ x → by_way x view u m decision ≡ quiet v → (sent ≡ 0) × (after ≡ close_gap pool 0 (message_size * used)) → Handed t (short_outcome v sent) after
      still x v e f q = rw q.0 (quietly v (decided x e ∙ f) after q.1)

      -- the estimate was
      answered : (x : Way) (v : UnitState) → way ≡ x → by_way x view u m decision ≡ accepted v (reply view m) []
          → (sent ≡ 1) × Sized (reply_to seat costs ahead m) × (after ≡ put_into Estimate (reply_to seat costs ahead m) (close_gap pool 0 (message_size * used)) (message_size * (used - 1))) → Handed t (short_outcome v sent) after
      answered x v e f q =
          let first = own_first order t.net.core t.stream short_open.passed.core n own (take message_size (drop 0 pool)) t.units t.named in
          rw q.0 (answering v (decided x e ∙ f) (reply_to seat costs ahead m) (reply_is seat costs ahead m first) q.1 after q.2)

      stored_is : way ≡ Store → changed_by Store m u ≡ stored m u
      stored_is e = rw (store-sender seat k u m (sym is ∙ e))

      pub heard : Passed way seat costs ahead m pool used sent after → Heard t way m sent after
      heard = go way refl
        where
          go : (x : Way) → way ≡ x → Passed x seat costs ahead m pool used sent after → Heard t x m sent after
          go Quiet e q = still Quiet u e refl q
          go Reply e q = answered Reply u e refl q
          go Follow e q = answered Follow (with_threshold m.stamp u) e refl q
          go Store e q = rw (stored_is e) (still Store (stored m u) e refl q)
          go Lower e q = still Lower (with_best m.bound m.best u) e refl q
          go Whole e q = q.1

pub record Turned {order : ValueOrder} {u : UnitState} {own n : ℕ} {sizes costs ahead pool : List ℕ} {used : ℕ} (t : Oldest order u own n sizes costs ahead pool used) (core : Core) (place : ℕ) (after : List ℕ) (next : Core) (sent : ℕ) : Type 0 where
  pub outcome : Outcome
  pub handed : Handed t outcome after
  pub state : next ≡ stepped core place outcome
  pub count : sent ≡ outcome.sent

-- ---- a turn of the loop: the unit that the message is for, by its seat, and the costs lent with it

module _ (order : ValueOrder) (s : List ℕ) (net : Network) (pool : List ℕ) (accepted : (deliver_of order net s pool 0).answer.refusal ≡ 0) (one seat : Seat) (table : one ≡ seat_at order 1 (units_of s) (sizes_in s))
    (its : seat ≡ seat_at one.order (receiver_of one.n (take message_size (drop 0 pool))) one.n one.sizes) (bytes : AllBytes (take message_size (drop 0 pool))) (starts lent : List ℕ) (laid : Lent s starts lent)
    (looks : List Outlook) (looked : Looked order s (units_of s) looks) where
  pub turn_open : Open order net s pool 0
  turn_open = checks order net s pool 0 accepted

  pub units_are : seat.n ≡ units_of s
  units_are = rw (its, table)

  pub named_is : seat.own ≡ receiver_of seat.n (take message_size (drop 0 pool))
  named_is = rw its

  pub turn-first : 1 ≤ seat.own
  turn-first = own_first order net.core s turn_open.passed.core seat.n seat.own (take message_size (drop 0 pool)) units_are named_is

  below : seat.own - 1 < units_of s
  below = omega (arith, turn-first, own-last order net.core s turn_open.passed.core seat.n seat.own (take message_size (drop 0 pool)) units_are named_is)

  pub turn-place : seat.own - 1 < 16
  turn-place = omega (arith, below, (accepted_units s turn_open.passed.core.table).1)

  pub turn-order : get_or starts (seat.own - 1) 0 ≤ get_or starts (seat.own - 1 + 1) 0
  turn-order = part-order s starts lent laid (seat.own - 1) below

  pub turn_end : get_or starts (seat.own - 1 + 1) 0 ≤ length lent
  turn_end = part_end s starts lent laid (seat.own - 1) below

  pub costs_are : take (get_or starts (seat.own - 1 + 1) 0 - get_or starts (seat.own - 1) 0) (drop (get_or starts (seat.own - 1) 0) lent) ≡ gathered s seat.own
  costs_are =
      let e : suc (seat.own - 1) ≡ seat.own = omega (arith, turn-first) in
      part_costs s starts lent laid (seat.own - 1) below ∙ ap (gathered s) e

  pub turn_long : length (get_or looks (seat.own - 1) no_outlook).ahead ≡ 16
  turn_long = looked_long order s looks looked (seat.own - 1) below

  pub known_is : Knows (lent_view seat.order seat.own seat.n seat.sizes (take (get_or starts (seat.own - 1 + 1) 0 - get_or starts (seat.own - 1) 0) (drop (get_or starts (seat.own - 1) 0) lent))) (get_or looks (seat.own - 1) no_outlook).ahead
  known_is =
      let o : seat.order ≡ order = rw (its, table) in
      let array : seat.sizes ≡ sizes_in s = rw (its, table) in
      rw o (looked_at order s looks looked seat.own seat.n seat.sizes (take (get_or starts (seat.own - 1 + 1) 0 - get_or starts (seat.own - 1) 0) (drop (get_or starts (seat.own - 1) 0) lent)) turn-first (omega (arith, below, turn-first)) units_are array costs_are)

  abbrev pub turn_oldest : Oldest seat.order (unit_at net.core.units (seat.own - 1)) seat.own seat.n seat.sizes (take (get_or starts (seat.own - 1 + 1) 0 - get_or starts (seat.own - 1) 0) (drop (get_or starts (seat.own - 1) 0) lent)) (get_or looks (seat.own - 1) no_outlook).ahead pool net.used
  turn_oldest = record {
    stream = s;
    net = net;
    accepted = rw (its, table) accepted;
    units = units_are;
    array = rw (its, table);
    named = named_is;
    unit = refl;
    lent = costs_are;
    knows = known_is;
    count = refl;
    bytes = bytes;
  }

  -- what it gives is the delivery's
  pub turn-gives : (r : Outcome) (after : List ℕ) → Handed turn_oldest r after
      → (record { refusal = 0; network = network_after net seat.own r.unit (net.used - 1 + r.sent) r.records } ≡ (deliver_of order net s pool 0).answer) × (after ≡ (deliver_of order net s pool 0).pool)
  turn-gives r after h =
      let o : seat.order ≡ order = rw (its, table) in
      (h.0 ∙ ap (λ (x : ValueOrder). (deliver_of x net s pool 0).answer) o, h.1 ∙ ap (λ (x : ValueOrder). (deliver_of x net s pool 0).pool) o)

  -- once it is counted, what is left is the delivery's
  pub turn_delivers : (next : Core) (sent : ℕ) (after : List ℕ) → Turned turn_oldest net.core (seat.own - 1) after next sent → (count : Count) → count ≡ plus 1 next.deliveries
      → (record { refusal = 0; network = record { core = record { units = next.units; records = next.records; deliveries = count }; used = net.used - 1 + sent } } ≡ (deliver_of order net s pool 0).answer)
      × (after ≡ (deliver_of order net s pool 0).pool)
  turn_delivers next sent after t count e = let g = turn-gives t.outcome after t.handed in (rw (e, t.state, t.count, ← pred_sub seat.own) g.0, g.1)

module _ (core : Core) (place : ℕ) {order : ValueOrder} {own n : ℕ} {sizes costs ahead pool : List ℕ} {used : ℕ} (t : Oldest order (unit_at core.units place) own n sizes costs ahead pool used) (words : Words core.records) (m : Message) (sent : ℕ) (after : List ℕ) where
  -- the unit stays as it is
  pub kept-turned : (way : Way) → (way_code way ≡ 0) ⊎ (way_code way ≡ 1) → Heard t way m sent after → Turned t core place after core sent
  kept-turned = go
    where
      kept : Handed t (short_outcome (unit_at core.units place) sent) after → Turned t core place after core sent
      kept h = record { outcome = short_outcome (unit_at core.units place) sent; handed = h; state = rw (set-get_or core.units place empty_unit, plus_none core.records words); count = refl }

      other : (k : ℕ) → 1 < k → (k ≡ 0) ⊎ (k ≡ 1) → ⊥
      other k l e = ⊎_elim (λ q. omega arith) (λ q. omega arith) e

      go : (way : Way) → (way_code way ≡ 0) ⊎ (way_code way ≡ 1) → Heard t way m sent after → Turned t core place after core sent
      go Quiet e h = kept h
      go Reply e h = kept h
      go Follow e h = absurd (other 2 (omega arith) e)
      go Store e h = absurd (other 3 (omega arith) e)
      go Lower e h = absurd (other 4 (omega arith) e)
      go Whole e h = absurd (other 5 (omega arith) e)

  -- a part of it changes
  module _ (v : UnitState) where
    abbrev pub changed_core : Core
    changed_core = record { units = set core.units place v; records = core.records; deliveries = core.deliveries }

    pub changed_turned : (way : Way) → (way_code way ≡ 2) ⊎ (way_code way ≡ 3) ⊎ (way_code way ≡ 4) → Heard t way m sent after → v ≡ changed_by way m (unit_at core.units place) → Turned t core place after changed_core sent
    changed_turned = go
      where
        other : (k : ℕ) → k < 2 → (k ≡ 2) ⊎ (k ≡ 3) ⊎ (k ≡ 4) → ⊥
        other k l e = ⊎_elim (λ q. omega arith) (λ q. ⊎_elim (λ q. omega arith) (λ q. omega arith) q) e

        went : (x : UnitState) → Handed t (short_outcome x sent) after → v ≡ x → Turned t core place after changed_core sent
        went x h f = record { outcome = short_outcome x sent; handed = h; state = rw (f, plus_none core.records words); count = refl }

        go : (way : Way) → (way_code way ≡ 2) ⊎ (way_code way ≡ 3) ⊎ (way_code way ≡ 4) → Heard t way m sent after → v ≡ changed_by way m (unit_at core.units place) → Turned t core place after changed_core sent
        go Quiet e h f = absurd (other 0 (omega arith) e)
        go Reply e h f = absurd (other 1 (omega arith) e)
        go Follow e h f = went _ h f
        go Store e h f = went _ h f
        go Lower e h f = went _ h f
        go Whole e h f = absurd (⊎_elim (λ (q : ◌≡◌ {A = ℕ} 5 2). omega arith) (λ q. ⊎_elim (λ (q : ◌≡◌ {A = ℕ} 5 3). omega arith) (λ (q : ◌≡◌ {A = ℕ} 5 4). omega arith) q) e)
