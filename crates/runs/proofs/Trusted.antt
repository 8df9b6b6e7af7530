-- A delivery that is known to be accepted, by the step that trusts what it is lent: its checks would have passed, its packet reads well, and what
-- it sends fits, so that the step, the gap closed and what is sent put behind give what the delivery gives. From its refusal, 0. Assumes nothing.
use Prim.Native.Nat.{ℕ, zero, suc, pred, ◌+◌, ◌*◌, ◌-◌, ◌≤◌}
use Rattle.std.specs.Prelude.{◌≡◌, Bool, true, false, cond, List, leb, eqb, length, take, drop, Result as Reading, Ok, Err}
use Rattle.std.proofs.Math.Path.{refl}
use Rattle.std.proofs.Common.{sym, ap, ◌∙◌, arith, leb-true, eqb-true}
use Rattle.std.proofs.Math.Seq.{paste}
use Rattle.std.proofs.lemmas.Bool.{eqb-false}
use Rattle.base.specs.Bytes.Laws.{AllBytes}
use Rattle.base.specs.declared.Refusal.{Refusal}
use Rattle.base.specs.Limits.{pool_cells, sending_size, message_size}
use Rattle.base.specs.Refusal.{number_of}
use Rattle.base.specs.Refusal.Laws.{number_some}
use Rattle.table.specs.Stream.{units_of}
use Rattle.table.specs.StreamLaws.{accepted_units}
use Rattle.costs.specs.declared.ValueOrder.{ValueOrder}
use Rattle.costs.specs.Instance.{lent_view}
use Rattle.costs.specs.Knowing.{Knows}
use Rattle.costs.specs.Gather.{sizes_in}
use Rattle.costs.specs.Gathered.{gathered}
use Rattle.costs.specs.Gather.Sizes.{length_sizes}
use Rattle.message.specs.declared.Kind.{Kind}
use Rattle.message.specs.declared.Message.{Message}
use Rattle.message.specs.Decode.{parse_for}
use Rattle.message.specs.RoundTrip.{unpack_parsed}
use Rattle.message.specs.Unpack.{unpack_of}
use Rattle.rules.specs.declared.Unit.{Unit as UnitState}
use Rattle.rules.specs.declared.Outcome.{Outcome}
use Rattle.rules.specs.Step.{Decision, refused}
use Rattle.rules.specs.Units.{unit_at}
use Rattle.rules.specs.Calls.{outcome_of, bytes_of, step_out}
use Rattle.rules.specs.Trusted.{trusted_out}
use Rattle.rules.specs.Laws.Range.{SizedUnit}
use Rattle.rules.specs.Laws.Trusted.{seat_at, trusted_steps}
use Rattle.runs.specs.declared.Network.{Network}
use Rattle.runs.specs.declared.Answer.{Answer}
use Rattle.runs.specs.Pool.{cell_of}
use Rattle.runs.specs.Pool.Laws.{close_gap}
use Rattle.runs.specs.Calls.{Result, deliver_refusal, receiver_of, step_from8, network_after, on_out, deliver_by, deliver_of}
use Rattle.runs.specs.Code.{Open, Stepping, Stepped, stored_answer, stored_pool}
use Rattle.runs.proofs.CodeLaws.{opened, deliver_goes, passes, step-told, stepping, hand_refuses, hand_stores, pred_sub}
use Rattle.runs.specs.Trusted.{Handed, Oldest}

-- the step that trusts, lent what the stream says
trusted_told : (order : ValueOrder) (s : List ℕ) (own : ℕ) (u : UnitState) (us : List UnitState) → unit_at us (pred own) ≡ u → Stepping order s own u → (n : ℕ) (sizes costs ahead bytes before after : List ℕ) (r : Outcome) → n ≡ units_of s
    → sizes ≡ sizes_in s → costs ≡ gathered s own → Knows (lent_view order own n sizes costs) ahead → sending_size ≤ length before → (k : Kind) (m : Message) → parse_for (units_of s) (sizes_in s) own bytes ≡ Ok (k, m)
    → r ≡ outcome_of n (pred own) u (trusted_out (seat_at order own n sizes) u costs ahead bytes (length before)) → after ≡ bytes_of n (pred own) before (trusted_out (seat_at order own n sizes) u costs ahead bytes (length before))
    → Stepped order s own u bytes before r after
trusted_told order s own u us at g n sizes costs ahead bytes before after r units array lent knows fits k m good e f =
    step-told order s own u g n sizes costs bytes before after r units array lent fits (e ∙ ap (λ (o : Decision). outcome_of n (pred own) u o) same) (f ∙ ap (λ (o : Decision). bytes_of n (pred own) before o) same)
  where
    same : trusted_out (seat_at order own n sizes) u costs ahead bytes (length before) ≡ step_out order u own n sizes costs bytes (length before)
    same =
        let long : units_of s ≤ length (sizes_in s) = omega (arith, length_sizes s, (accepted_units s g.table).1) in
        let p = passes order s g.table us own g.first g.last (rw at g.state) bytes (length before) fits in
        let k' : Knows (lent_view order own (units_of s) (sizes_in s) (gathered s own)) ahead = rw (units, array, lent) at knows in
        rw (units, array, lent) (trusted_steps (seat_at order own (units_of s) (sizes_in s)) u (gathered s own) ahead (length before) (rw at at p) long k' bytes k m good)

module _ (order : ValueOrder) (net : Network) (s pool : List ℕ) (cell : ℕ) (accepted : (deliver_of order net s pool cell).answer.refusal ≡ 0) where
  unrefused : deliver_refusal order net s pool cell ≡ 0
  unfolding deliver_of
  unrefused = go (deliver_refusal order net s pool cell) accepted
    where
      go : (r : ℕ) → (deliver_by order r net s pool cell).answer.refusal ≡ 0 → r ≡ 0
      go zero e = refl
      go (suc r) e = e

  pub checks : Open order net s pool cell
  checks = opened order net s pool cell unrefused

  goes : (deliver_by order 0 net s pool cell).answer.refusal ≡ 0
  goes = ap (λ (x : Result). x.answer.refusal) (deliver_goes order net s pool cell unrefused) ∙ accepted

  -- its packet reads well
  module _ (own : ℕ) (named : own ≡ receiver_of (units_of s) (cell_of pool cell)) where
    unread : (r : Refusal) → parse_for (units_of s) (sizes_in s) own (cell_of pool cell) ≡ Err r → step_from8 order s net.core.units own (cell_of pool cell) ≡ refused (number_of r)
    unfolding step_from8
    unread r e = rw e

    reads : (k : Kind) × (m : Message) × (parse_for (units_of s) (sizes_in s) own (cell_of pool cell) ≡ Ok (k, m))
    reads = go (parse_for (units_of s) (sizes_in s) own (cell_of pool cell)) refl
      where
        go : (a : Reading (Kind × Message) Refusal) → parse_for (units_of s) (sizes_in s) own (cell_of pool cell) ≡ a → (k : Kind) × (m : Message) × (parse_for (units_of s) (sizes_in s) own (cell_of pool cell) ≡ Ok (k, m))
        go (Ok (k, m)) e = (k, m, e)
        go (Err r) e =
            let z : number_of r ≡ 0 =
            ap (λ (o : Decision). (on_out net pool cell (units_of s) own o).answer.refusal) (sym (unread r e)) ∙ ap (λ (i : ℕ). (on_out net pool cell (units_of s) i (step_from8 order s net.core.units i (cell_of pool cell))).answer.refusal) named ∙ goes in
            absurd (number_some r z)

  -- ---- n and own as the code has them, and the cell's m bytes

  module _ (n own m : ℕ) (units : n ≡ units_of s) (size : m ≡ message_size) (named : own ≡ receiver_of n (take m (drop (message_size * cell) pool))) (u : UnitState) (at : u ≡ unit_at net.core.units (own - 1))
      (sizes costs ahead before out : List ℕ) (array : sizes ≡ sizes_in s) (lent : costs ≡ gathered s own) (knows : Knows (lent_view order own n sizes costs) ahead) (fits : sending_size ≤ length before) (r : Outcome)
      (told : r ≡ outcome_of n (pred own) u (trusted_out (seat_at order own n sizes) u costs ahead (take m (drop (message_size * cell) pool)) (length before)))
      (left : out ≡ bytes_of n (pred own) before (trusted_out (seat_at order own n sizes) u costs ahead (take m (drop (message_size * cell) pool)) (length before))) (arrays : SizedUnit u) (all : AllBytes (take m (drop (message_size * cell) pool))) where
    named_is : own ≡ receiver_of (units_of s) (cell_of pool cell)
    named_is = named ∙ rw (units, size)

    cell_is : take m (drop (message_size * cell) pool) ≡ cell_of pool cell
    cell_is = rw size

    good : (k : Kind) × (read : Message) × (parse_for (units_of s) (sizes_in s) own (take m (drop (message_size * cell) pool)) ≡ Ok (k, read))
    good = rw size (reads own named_is)

    steps : Stepped order s own u (take m (drop (message_size * cell) pool)) before r out
    steps =
        trusted_told order s own u net.core.units (ap (λ (k : ℕ). unit_at net.core.units k) (pred_sub own) ∙ sym at) (stepping order net.core s checks.passed.core n own (take m (drop (message_size * cell) pool)) units named u at) n sizes costs ahead (take m (drop (message_size * cell) pool))
        before out r units array lent knows fits good.0 good.1 good.2 told left

    unrefused_step : r.refusal ≡ 0
    unrefused_step = go (eqb r.refusal 0) refl
      where
        go : (t : Bool) → eqb r.refusal 0 ≡ t → r.refusal ≡ 0
        go true e = eqb-true r.refusal 0 e
        go false e = ap (λ (x : Answer). x.refusal) (hand_refuses order net s pool checks.passed n own (take m (drop (message_size * cell) pool)) units named u at before out r steps arrays all cell checks.here cell_is (eqb-false r.refusal 0 e)).0 ∙ goes

    stores : (stored_answer net (net.used - 1) own r ≡ (deliver_by order 0 net s pool cell).answer)
        × (stored_pool (close_gap pool (message_size * cell) (message_size * net.used)) (net.used - 1) r out pool ≡ (deliver_by order 0 net s pool cell).pool)
    stores = hand_stores order net s pool checks.passed n own (take m (drop (message_size * cell) pool)) units named u at before out r steps arrays all cell checks.here cell_is unrefused_step

    -- all that it sends fits
    room : leb (net.used - 1 + r.sent) pool_cells ≡ true
    room = go (leb (net.used - 1 + r.sent) pool_cells) (ap (λ (x : Answer). x.refusal) stores.0 ∙ goes)
      where
        go : (t : Bool) → (cond {A = Answer} t (record { refusal = 0; network = network_after net own r.unit (net.used - 1 + r.sent) r.records }) (record { refusal = 14; network = net })).refusal ≡ 0 → t ≡ true
        go true e = refl
        go false e = absurd (omega arith)

    pub trusted_room : net.used - 1 + r.sent ≤ pool_cells
    trusted_room = leb-true (net.used - 1 + r.sent) pool_cells room

    pub trusted_gives : (record { refusal = 0; network = network_after net own r.unit (net.used - 1 + r.sent) r.records } ≡ (deliver_of order net s pool cell).answer)
        × (paste (close_gap pool (message_size * cell) (message_size * net.used)) (message_size * (net.used - 1)) out (message_size * r.sent) ≡ (deliver_of order net s pool cell).pool)
    trusted_gives =
        let e = deliver_goes order net s pool cell unrefused in
        let t = stores in
        (rw room at t.0 ∙ ap (λ (x : Result). x.answer) e, rw room at t.1 ∙ ap (λ (x : Result). x.pool) e)

module _ {order : ValueOrder} {u : UnitState} {own n : ℕ} {sizes costs ahead pool : List ℕ} {used : ℕ} (t : Oldest order u own n sizes costs ahead pool used) (before out : List ℕ) (fits : sending_size ≤ length before) (r : Outcome)
    (told : r ≡ outcome_of n (pred own) u (trusted_out (seat_at order own n sizes) u costs ahead (take message_size (drop 0 pool)) (length before)))
    (left : out ≡ bytes_of n (pred own) before (trusted_out (seat_at order own n sizes) u costs ahead (take message_size (drop 0 pool)) (length before))) (arrays : SizedUnit u) where
  pub oldest_unrefused : r.refusal ≡ 0
  oldest_unrefused =
      unrefused_step order t.net t.stream pool 0 t.accepted n own message_size t.units refl t.named u t.unit sizes costs ahead before out t.array t.lent t.knows fits r told left arrays t.bytes

  pub oldest_room : used - 1 + r.sent ≤ pool_cells
  oldest_room =
      rw t.count
      (trusted_room order t.net t.stream pool 0 t.accepted n own message_size t.units refl t.named u t.unit sizes costs ahead before out t.array t.lent t.knows fits r told left arrays t.bytes)

  pub oldest_handed : (after : List ℕ) → after ≡ paste (close_gap pool 0 (message_size * used)) (message_size * (used - 1)) out (message_size * r.sent) → Handed t r after
  oldest_handed after e =
      let g = trusted_gives order t.net t.stream pool 0 t.accepted n own message_size t.units refl t.named u t.unit sizes costs ahead before out t.array t.lent t.knows fits r told left arrays t.bytes in
      (g.0, e ∙ rw t.count g.1, oldest_room)

-- the message that waits longest can be read
pub oldest_readable : {order : ValueOrder} {u : UnitState} {own n : ℕ} {sizes costs ahead pool : List ℕ} {used : ℕ} (t : Oldest order u own n sizes costs ahead pool used)
    → (k : Kind) × (m : Message) × (unpack_of (take message_size (drop 0 pool)) ≡ Ok (k, m))
oldest_readable {order} {u} {own} {n} {sizes} {costs} {ahead} {pool} t =
    let g = reads order t.net t.stream pool 0 t.accepted own (t.named ∙ rw t.units) in
    (g.0, g.1, unpack_parsed (units_of t.stream) (sizes_in t.stream) own (take message_size (drop 0 pool)) g.0 g.1 g.2 ∙ g.2)
