-- `network::settling::run` meets its contract. The loop's invariant: the network and the pool are what as many deliveries of cell 0 as are
-- counted have left of what was lent. So the next delivery is accepted, and each way of its message does what the delivery says.
-- The measure is (3n - 1) × N less the accepted deliveries, in the two count words: demand 3 bounds them. Assumes nothing.
use Rattle.std.specs.Prelude.{◌≡◌, ℕ, ◌+◌, ◌-◌, ◌<◌, ◌≤◌, false, List, length, get_or, take, drop}
use mathlib.Core.Path.{refl, sym, ap}
use mathlib.Core.Logic.{inl, inr, ⊎_elim}
use native.Mathlib.Omega.{arith}
use lib.ListN.{length-replicate}
use Rattle.std.proofs.Common.{length-take-le}
use borrow.Author.Rules.{rules}
use Rattle.table.specs.Stream.{Accepted}
use Rattle.rules.specs.declared.Unit.{Unit as UnitState}
use Rattle.rules.specs.Units.{unit_at}
use Rattle.runs.specs.declared.Network.{Network}
use Rattle.runs.specs.Count.Laws.{Words, plus_words}
use Rattle.runs.specs.Calls.{deliver_of}
use Rattle.runs.specs.Demand3.{over}
use Rattle.runs.specs.Code.{Open}
use Rattle.runs.specs.Trusted.{Oldest}
use Rattle.runs.proofs.Trusted.{checks}
use Rattle.runs.specs.Lending.{no_outlook}
use Rattle.runs.specs.Settle.Laws.{After}
use Rattle.runs.proofs.Settle.Laws.{made_table, reached_start, reached_accepted, reached_next, measure_falls}
use Rattle.runs.specs.Short.{Heard, way_code}
use Rattle.runs.proofs.Short.{Turned, kept-turned, changed_turned, whole_handed, turn-first, turn-place, turn-order, turn_end, turn_long, turn_oldest, turn_delivers}
use Rattle.network.proofs.settling.run.Goals as goal
use Rattle.network.proofs.settling.run.Goals.{in-Quiet, in-Follow, in-Store, in-Lower, in-Whole, Start, After-first_seat-first, In-loop-core, After-seat_of-seat, After-hear-turn, In-Whole, Joined-turn, After-plus-core-in-loop-core}

-- the stream is an accepted one
table : (c : Start) → Accepted c.args.stream.now
table c = made_table c.args.order c.args.stream.now c.requires.pool (record { refusal = 0; network = c.args.net }) c.args.pool.now c.requires.gave refl

-- the order in which values are tried
ordered : (c : After-first_seat-first) → c.first_seat-first.result.order ≡ c.args.order
ordered c = rw c.first_seat-first.ensures

-- unit 1 has not stopped, so the next delivery is accepted
module _ (c : In-loop-core) where
  abbrev net : Network
  net = record { core = c.loop-core.core; used = c.loop-core.used }

  reached : After c.args.order c.args.stream.now (record { network = c.args.net; pool = c.args.pool.now }) (record { network = net; pool = c.loop-core.pool })
  reached = rw (ordered (goal.at.In-loop-core c).After-first_seat-first) at c.loop-core.invariant.2

  goes_on : over (record { network = net; pool = c.loop-core.pool }) ≡ false
  goes_on = c.loop-core-test.true

  accepted : (deliver_of c.args.order net c.args.stream.now c.loop-core.pool 0).answer.refusal ≡ 0
  accepted = reached_accepted c.args.order c.args.stream.now c.requires.pool (record { refusal = 0; network = c.args.net }) c.args.pool.now c.requires.gave refl net c.loop-core.pool reached goes_on

  passed : Open c.args.order net c.args.stream.now c.loop-core.pool 0
  passed = checks c.args.order net c.args.stream.now c.loop-core.pool 0 accepted

pub lend-loans-requires : goal.lend-loans-requires
lend-loans-requires c = let l = length-replicate {A = ℕ} 123392 0 in (table (goal.at.lend-loans-requires c).Start, omega (arith, l))

pub loop-core-init : goal.loop-core-init
loop-core-init c =
    let w : Words c.args.net.core.records = search rules in
    (refl, w, rw (ordered (goal.at.loop-core-init c).After-first_seat-first) (reached_start c.args.order c.args.stream.now c.requires.pool (record { refusal = 0; network = c.args.net }) c.args.pool.now c.requires.gave refl))

pub returns : goal.returns
returns c = record { stopped = c.loop-core-test.false; after = rw (ordered (goal.at.returns c).After-first_seat-first) at c.loop-core.invariant.2 }

pub slice_bounds-seat_of-end-in-loop-core : goal.slice_bounds-seat_of-end-in-loop-core
slice_bounds-seat_of-end-in-loop-core c = let l = (passed (goal.at.slice_bounds-seat_of-end-in-loop-core c).In-loop-core).passed.room in sym (length-take-le 64 c.loop-core.pool (omega (arith, l)))

pub slice_bounds-seat_of-end : goal.slice_bounds-seat_of-end
slice_bounds-seat_of-end c = let l = (passed (goal.at.slice_bounds-seat_of-end c).In-loop-core).passed.room in search rules

-- the unit that the message is for, and the costs lent with it
module _ (c : After-seat_of-seat) where
  first : 1 ≤ c.seat_of-seat.result.own
  first = turn-first c.args.order c.args.stream.now (net (goal.at.After-seat_of-seat c).In-loop-core) c.loop-core.pool (accepted (goal.at.After-seat_of-seat c).In-loop-core) c.first_seat-first.result c.seat_of-seat.result c.first_seat-first.ensures c.seat_of-seat.ensures.0 c.seat_of-seat.ensures.1 c.lend-loans.result.starts c.lend-loans.new.out c.lend-loans.ensures.0 c.lend-loans.result.looks c.lend-loans.ensures.1

  place : c.seat_of-seat.result.own - 1 < 16
  place = turn-place c.args.order c.args.stream.now (net (goal.at.After-seat_of-seat c).In-loop-core) c.loop-core.pool (accepted (goal.at.After-seat_of-seat c).In-loop-core) c.first_seat-first.result c.seat_of-seat.result c.first_seat-first.ensures c.seat_of-seat.ensures.0 c.seat_of-seat.ensures.1 c.lend-loans.result.starts c.lend-loans.new.out c.lend-loans.ensures.0 c.lend-loans.result.looks c.lend-loans.ensures.1

  following : get_or c.lend-loans.result.starts (c.seat_of-seat.result.own - 1) 0 ≤ get_or c.lend-loans.result.starts (c.seat_of-seat.result.own - 1 + 1) 0
  following = turn-order c.args.order c.args.stream.now (net (goal.at.After-seat_of-seat c).In-loop-core) c.loop-core.pool (accepted (goal.at.After-seat_of-seat c).In-loop-core) c.first_seat-first.result c.seat_of-seat.result c.first_seat-first.ensures c.seat_of-seat.ensures.0 c.seat_of-seat.ensures.1 c.lend-loans.result.starts c.lend-loans.new.out c.lend-loans.ensures.0 c.lend-loans.result.looks c.lend-loans.ensures.1

  ends : get_or c.lend-loans.result.starts (c.seat_of-seat.result.own - 1 + 1) 0 ≤ length c.lend-loans.new.out
  ends = turn_end c.args.order c.args.stream.now (net (goal.at.After-seat_of-seat c).In-loop-core) c.loop-core.pool (accepted (goal.at.After-seat_of-seat c).In-loop-core) c.first_seat-first.result c.seat_of-seat.result c.first_seat-first.ensures c.seat_of-seat.ensures.0 c.seat_of-seat.ensures.1 c.lend-loans.result.starts c.lend-loans.new.out c.lend-loans.ensures.0 c.lend-loans.result.looks c.lend-loans.ensures.1

  long : length (get_or c.lend-loans.result.looks (c.seat_of-seat.result.own - 1) no_outlook).ahead ≡ 16
  long = turn_long c.args.order c.args.stream.now (net (goal.at.After-seat_of-seat c).In-loop-core) c.loop-core.pool (accepted (goal.at.After-seat_of-seat c).In-loop-core) c.first_seat-first.result c.seat_of-seat.result c.first_seat-first.ensures c.seat_of-seat.ensures.0 c.seat_of-seat.ensures.1 c.lend-loans.result.starts c.lend-loans.new.out c.lend-loans.ensures.0 c.lend-loans.result.looks c.lend-loans.ensures.1

  abbrev costs : List ℕ
  costs = take (get_or c.lend-loans.result.starts (c.seat_of-seat.result.own - 1 + 1) 0 - get_or c.lend-loans.result.starts (c.seat_of-seat.result.own - 1) 0) (drop (get_or c.lend-loans.result.starts (c.seat_of-seat.result.own - 1) 0) c.lend-loans.new.out)

  abbrev ahead : List ℕ
  ahead = (get_or c.lend-loans.result.looks (c.seat_of-seat.result.own - 1) no_outlook).ahead

  abbrev unit : UnitState
  unit = unit_at c.loop-core.core.units (c.seat_of-seat.result.own - 1)

  abbrev oldest : Oldest c.seat_of-seat.result.order unit c.seat_of-seat.result.own c.seat_of-seat.result.n c.seat_of-seat.result.sizes costs ahead c.loop-core.pool c.loop-core.used
  oldest = turn_oldest c.args.order c.args.stream.now (net (goal.at.After-seat_of-seat c).In-loop-core) c.loop-core.pool (accepted (goal.at.After-seat_of-seat c).In-loop-core) c.first_seat-first.result c.seat_of-seat.result c.first_seat-first.ensures c.seat_of-seat.ensures.0 c.seat_of-seat.ensures.1 c.lend-loans.result.starts c.lend-loans.new.out c.lend-loans.ensures.0 c.lend-loans.result.looks c.lend-loans.ensures.1

pub overflow_sub-seat : goal.overflow_sub-seat
overflow_sub-seat c = first (goal.at.overflow_sub-seat c).After-seat_of-seat

pub slice_bounds-hear-count : goal.slice_bounds-hear-count
slice_bounds-hear-count c = rw c.from-place.ensures (following (goal.at.slice_bounds-hear-count c).After-seat_of-seat)

pub slice_bounds-hear-start : goal.slice_bounds-hear-start
slice_bounds-hear-start c = let l = rw (← c.from-place.ensures) at (following (goal.at.slice_bounds-hear-start c).After-seat_of-seat) in search rules

pub slice_bounds-hear-end : goal.slice_bounds-hear-end
slice_bounds-hear-end c = let l = rw (← c.from-place.ensures) at (ends (goal.at.slice_bounds-hear-end c).After-seat_of-seat) in search rules

pub slice_bounds-hear-end-in-loop-core : goal.slice_bounds-hear-end-in-loop-core
slice_bounds-hear-end-in-loop-core c = let l = rw (← c.from-place.ensures) at (long (goal.at.slice_bounds-hear-end-in-loop-core c).After-seat_of-seat) in search rules

pub hear-turn-requires : goal.hear-turn-requires
hear-turn-requires c = rw c.from-place.ensures (oldest (goal.at.hear-turn-requires c).After-seat_of-seat)

pub slice_bounds-decided-count : goal.slice_bounds-decided-count
slice_bounds-decided-count c = rw c.from-place.ensures (following (goal.at.slice_bounds-decided-count c).After-seat_of-seat)

pub slice_bounds-decided-start : goal.slice_bounds-decided-start
slice_bounds-decided-start c = let l = rw (← c.from-place.ensures) at (following (goal.at.slice_bounds-decided-start c).After-seat_of-seat) in search rules

pub slice_bounds-decided-end : goal.slice_bounds-decided-end
slice_bounds-decided-end c = let l = rw (← c.from-place.ensures) at (ends (goal.at.slice_bounds-decided-end c).After-seat_of-seat) in search rules

pub slice_bounds-decided-end-in-Whole : goal.slice_bounds-decided-end-in-Whole
slice_bounds-decided-end-in-Whole c = let l = rw (← c.from-place.ensures) at (long (goal.at.slice_bounds-decided-end-in-Whole c).After-seat_of-seat) in search rules

-- what is known of the message once it was heard
told : (c : After-hear-turn) → Heard (oldest (goal.at.After-hear-turn c).After-seat_of-seat) c.hear-turn.result.way c.hear-turn.result.message c.hear-turn.result.sent c.hear-turn.new.pool
told c = (rw c.from-place.ensures at c.hear-turn.ensures.0) (oldest (goal.at.After-hear-turn c).After-seat_of-seat)

-- the whole way finds the pool as it was
unmoved : (c : In-Whole) → c.hear-turn.new.pool ≡ c.loop-core.pool
unmoved c = rw c.in-Whole.is at (told (goal.at.In-Whole c).After-hear-turn)

pub send_on-sent-requires : goal.send_on-sent-requires
send_on-sent-requires c =
    let past = goal.at.send_on-sent-requires c in
    let p = passed past.In-loop-core in
    (p.here, p.passed.few, rw (unmoved past.In-Whole) p.passed.room)

-- whichever way it goes, the message was handed over
turned : (c : Joined-turn) → Turned (oldest (goal.at.Joined-turn c).After-seat_of-seat) c.loop-core.core (c.seat_of-seat.result.own - 1) c.match-turn.pool c.match-turn.core c.match-turn.sent
turned c =
    let h = c.hear-turn in
    let t = oldest (goal.at.Joined-turn c).After-seat_of-seat in
    let k = c.seat_of-seat.result.own - 1 in
    let l = c.loop-core in
    let q = told (goal.at.Joined-turn c).After-hear-turn in
    let m = h.result.message in
    let p = h.new.pool in
    elim c.match-turn.branch [
      | in-Quiet w ↦ rw (w.pool-is, w.core-is, w.sent-is) (kept-turned l.core k t l.invariant.1 m h.result.sent p h.result.way (⊎_elim (λ e. inl (ap way_code e)) (λ e. inr (ap way_code e)) w.in-Quiet.is) q)
      | in-Follow w ↦ rw (w.pool-is, w.core-is, w.sent-is, c.from-place.ensures) (changed_turned l.core k t l.invariant.1 m h.result.sent p w.changed.result h.result.way (inl (ap way_code w.in-Follow.is)) q (rw c.from-place.ensures at w.changed.ensures))
      | in-Store w ↦ rw (w.pool-is, w.core-is, w.sent-is, c.from-place.ensures) (changed_turned l.core k t l.invariant.1 m h.result.sent p w.changed-in-Store.result h.result.way (inr (inl (ap way_code w.in-Store.is))) q (rw c.from-place.ensures at w.changed-in-Store.ensures))
      | in-Lower w ↦ rw (w.pool-is, w.core-is, w.sent-is, c.from-place.ensures) (changed_turned l.core k t l.invariant.1 m h.result.sent p w.changed-in-Lower.result h.result.way (inr (inr (ap way_code w.in-Lower.is))) q (rw c.from-place.ensures at w.changed-in-Lower.ensures))
      | in-Whole w ↦
          let stays : p ≡ l.pool = rw w.in-Whole.is at q in
          rw (w.pool-is, w.core-is, w.sent-is, c.from-place.ensures)
          (record {
            outcome = record { refusal = 0; unit = w.decided-d.result.unit; sent = w.send_on-sent.result; records = w.decided-d.result.records };
            handed = whole_handed t (rw c.from-place.ensures at h.ensures.2) h.result.kind m h.ensures.1 w.decided-d.result (rw c.from-place.ensures at w.decided-d.ensures) w.send_on-sent.result w.send_on-sent.new.pool (rw stays at w.send_on-sent.ensures);
            state = rw (w.plus-core.ensures, w.from.ensures);
            count = refl;
          })
    ]

-- the pool is as long as it was
pool_stays : (c : Joined-turn) → length c.match-turn.pool ≡ length c.args.pool.now
pool_stays c =
    let h : length c.hear-turn.new.pool ≡ length c.args.pool.now = search rules in
    elim c.match-turn.branch [
      | in-Quiet w ↦ rw w.pool-is h
      | in-Follow w ↦ rw w.pool-is h
      | in-Store w ↦ rw w.pool-is h
      | in-Lower w ↦ rw w.pool-is h
      | in-Whole w ↦ rw w.pool-is (let s : length w.send_on-sent.new.pool ≡ length c.hear-turn.new.pool = search rules in omega (arith, s, h))
    ]

pub overflow_sub-used : goal.overflow_sub-used
overflow_sub-used c = (passed (goal.at.overflow_sub-used c).In-loop-core).here

pub overflow_add-used : goal.overflow_add-used
overflow_add-used c = let t = turned (goal.at.overflow_add-used c).Joined-turn in record { fits = omega (arith, c.from-in-loop-core.ensures, t.handed.2, t.count) }

-- a turn delivers cell 0
module _ (c : After-plus-core-in-loop-core) where
  abbrev next : Network
  next = record { core = record { units = c.match-turn.core.units; records = c.match-turn.core.records; deliveries = c.plus-core-in-loop-core.result }; used = c.loop-core.used - 1 + c.from-in-loop-core.result }

  delivered : (record { refusal = 0; network = next } ≡ (deliver_of c.args.order (net (goal.at.After-plus-core-in-loop-core c).In-loop-core) c.args.stream.now c.loop-core.pool 0).answer) × (c.match-turn.pool ≡ (deliver_of c.args.order (net (goal.at.After-plus-core-in-loop-core c).In-loop-core) c.args.stream.now c.loop-core.pool 0).pool)
  delivered = rw c.from-in-loop-core.ensures (turn_delivers c.args.order c.args.stream.now (net (goal.at.After-plus-core-in-loop-core c).In-loop-core) c.loop-core.pool (accepted (goal.at.After-plus-core-in-loop-core c).In-loop-core) c.first_seat-first.result c.seat_of-seat.result c.first_seat-first.ensures c.seat_of-seat.ensures.0 c.seat_of-seat.ensures.1 c.lend-loans.result.starts c.lend-loans.new.out c.lend-loans.ensures.0 c.lend-loans.result.looks c.lend-loans.ensures.1 c.match-turn.core c.match-turn.sent c.match-turn.pool (turned (goal.at.After-plus-core-in-loop-core c).Joined-turn) c.plus-core-in-loop-core.result c.plus-core-in-loop-core.ensures)

pub loop-core-smaller : goal.loop-core-smaller
loop-core-smaller c =
    let past = goal.at.loop-core-smaller c in
    measure_falls c.args.order c.args.stream.now c.requires.pool (record { refusal = 0; network = c.args.net }) c.args.pool.now c.requires.gave refl (net past.In-loop-core) c.loop-core.pool (reached past.In-loop-core) (record { refusal = 0; network = next past.After-plus-core-in-loop-core }) c.match-turn.pool (delivered past.After-plus-core-in-loop-core) (goes_on past.In-loop-core)

pub loop-core-preserved : goal.loop-core-preserved
loop-core-preserved c =
    let past = goal.at.loop-core-preserved c in
    let t = turned past.Joined-turn in (
      pool_stays past.Joined-turn,
      rw t.state (plus_words t.outcome.records c.loop-core.core.records),
      rw (ordered past.After-first_seat-first) (reached_next c.args.order c.args.stream.now c.requires.pool (record { refusal = 0; network = c.args.net }) c.args.pool.now c.requires.gave refl (net past.In-loop-core) c.loop-core.pool (reached past.In-loop-core) (record { refusal = 0; network = next past.After-plus-core-in-loop-core }) c.match-turn.pool (delivered past.After-plus-core-in-loop-core) (goes_on past.In-loop-core)),
    )

pub bounds-loans-place : goal.bounds-loans-place
bounds-loans-place c = omega (arith, c.from-place.ensures, place (goal.at.bounds-loans-place c).After-seat_of-seat)

pub bounds-loans-place-in-loop-core : goal.bounds-loans-place-in-loop-core
bounds-loans-place-in-loop-core c = omega (arith, c.from-place.ensures, place (goal.at.bounds-loans-place-in-loop-core c).After-seat_of-seat)

pub bounds-loans-place-in-loop-core-2 : goal.bounds-loans-place-in-loop-core-2
bounds-loans-place-in-loop-core-2 c = omega (arith, c.from-place.ensures, place (goal.at.bounds-loans-place-in-loop-core-2 c).After-seat_of-seat)

pub bounds-core-place : goal.bounds-core-place
bounds-core-place c = omega (arith, c.from-place.ensures, place (goal.at.bounds-core-place c).After-seat_of-seat)

pub bounds-core-place-in-Whole : goal.bounds-core-place-in-Whole
bounds-core-place-in-Whole c = omega (arith, c.from-place.ensures, place (goal.at.bounds-core-place-in-Whole c).After-seat_of-seat)

pub offset_bounds-core-place-in-Whole-2 : goal.offset_bounds-core-place-in-Whole-2
offset_bounds-core-place-in-Whole-2 c = record { fits = omega (arith, c.from-place.ensures, place (goal.at.offset_bounds-core-place-in-Whole-2 c).After-seat_of-seat) }

pub bounds-core-place-in-Whole-2 : goal.bounds-core-place-in-Whole-2
bounds-core-place-in-Whole-2 c = omega (arith, c.from-place.ensures, place (goal.at.bounds-core-place-in-Whole-2 c).After-seat_of-seat)

pub bounds-core-place-in-Follow : goal.bounds-core-place-in-Follow
bounds-core-place-in-Follow c = omega (arith, c.from-place.ensures, place (goal.at.bounds-core-place-in-Follow c).After-seat_of-seat)

pub bounds-core-place-in-Follow-2 : goal.bounds-core-place-in-Follow-2
bounds-core-place-in-Follow-2 c = omega (arith, c.from-place.ensures, place (goal.at.bounds-core-place-in-Follow-2 c).After-seat_of-seat)

pub bounds-core-place-in-Store : goal.bounds-core-place-in-Store
bounds-core-place-in-Store c = omega (arith, c.from-place.ensures, place (goal.at.bounds-core-place-in-Store c).After-seat_of-seat)

pub bounds-core-place-in-Store-2 : goal.bounds-core-place-in-Store-2
bounds-core-place-in-Store-2 c = omega (arith, c.from-place.ensures, place (goal.at.bounds-core-place-in-Store-2 c).After-seat_of-seat)

pub bounds-core-place-in-Lower : goal.bounds-core-place-in-Lower
bounds-core-place-in-Lower c = omega (arith, c.from-place.ensures, place (goal.at.bounds-core-place-in-Lower c).After-seat_of-seat)

pub bounds-core-place-in-Lower-2 : goal.bounds-core-place-in-Lower-2
bounds-core-place-in-Lower-2 c = omega (arith, c.from-place.ensures, place (goal.at.bounds-core-place-in-Lower-2 c).After-seat_of-seat)
