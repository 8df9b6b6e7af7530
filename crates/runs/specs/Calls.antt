-- The calls on bytes: making a network, a delivery and an echo (02, job 2), refusals in 01's order.
-- 01: "Making .. a shed: 5, 6, 7, 13." "Delivery: 13, 5 (n, sizes), 6, 7, 5 (any unit's state, pool count), 12, 15, the step's from 8 on, 14." Assumes nothing.
use Rattle.std.specs.Prelude.{ℕ, zero, suc, ◌+◌, ◌-◌, pred, cond, List, ltb, leb, length, get_or, set, take, replicate}
use Rattle.base.specs.{Limits.pool_size, Limits.pool_cells, Limits.costs_size, Refusal.or_else, Every.every}
use Rattle.table.specs.Stream.{units_of, stream_refusal}
use Rattle.costs.specs.declared.ValueOrder.{ValueOrder}
use Rattle.costs.specs.{Instance.view_by, Instance.instance_of, Gather.sizes_in, Gather.gather_of, Gather.gather_into}
use Rattle.message.specs.{Message.Packet, Message.is_unit, Decode.parse_for}
use Rattle.rules.specs.{declared.Unit.Unit, State.no_unit, State.fresh, State.in_range, Send.packets, Send.laid, Calls.unless_refused, Calls.on_read, Calls.step_out, Calls.make_out, Units.unit_at}
use Rattle.rules.specs.Step.{Decision, refused, accepted, assign}
use Rattle.runs.specs.{declared.Core.Core, declared.Network.Network, declared.Answer.Answer, Count.zero_count, Count.plus, Pool.cell_of, Pool.pool_after, Pool.pool_with}

-- ---- units and counts, whatever pool their messages wait in

-- all zero
abbrev pub no_core : Core
no_core = record { units = replicate 16 no_unit; records = zero_count; deliveries = zero_count }

-- unit 1 was made, and has written so many records; 01: "making the shed counts unit 1's records"
abbrev pub core_begun : Unit → ℕ → Core
core_begun u records = record { units = set (replicate 16 fresh) 0 u; records = plus records zero_count; deliveries = zero_count }

-- unit `own` has stepped, and written so many
abbrev pub core_after : Core → ℕ → Unit → ℕ → Core
core_after core own u records = record { units = set core.units (pred own) u; records = plus records core.records; deliveries = plus 1 core.deliveries }

-- 01, of making: "5, 6, 7, 13", for a pool of `room` bytes that needs `size` of them
unfoldable pub making_refusal : ℕ → List ℕ → ℕ → ℕ
making_refusal size stream room = or_else (stream_refusal stream) (cond (ltb room size) 13 0)

-- the first of 5 (n, sizes), 6, 7, 5 (any unit's state) that applies, or 0; units 1 to n only
unfoldable pub core_refusal : ValueOrder → Core → List ℕ → ℕ
core_refusal order core stream =
    or_else (stream_refusal stream) (cond (every (λ (k : ℕ). in_range (sizes_in stream) (view_by order (instance_of stream) k) (unit_at core.units k)) (units_of stream)) 0 5)

-- the costs that gathering lends unit `own` of a stream; none where it refuses
unfoldable pub lent_of : List ℕ → ℕ → List ℕ
lent_of stream own = take (gather_of stream own costs_size).length (gather_into stream own (replicate costs_size 0))

-- the step of unit `own` in state u, and the making of unit 1, with the costs lent from the stream; refusals are those of `unit`
abbrev pub step_lent : ValueOrder → List ℕ → Unit → ℕ → List ℕ → ℕ → Decision
step_lent order stream u own bytes room = step_out order u own (units_of stream) (sizes_in stream) (lent_of stream own) bytes room

abbrev pub first_lent : ValueOrder → List ℕ → ℕ → Decision
first_lent order stream room = make_out order 1 (units_of stream) (sizes_in stream) (lent_of stream 1) room

-- what a call gives: the answer, and the bytes of the lent pool
pub record Result : Type 0 where
  pub answer : Answer
  pub pool : List ℕ

-- ---- making

-- the network beside a refusal of making: all zero
abbrev pub no_network : Network
no_network = record { core = no_core; used = 0 }

abbrev pub made : ℕ → List ℕ → Decision → Result
made n pool (refused r) = record { answer = record { refusal = r; network = no_network }; pool = pool }
made n pool (accepted u s ws) =
    let ps = packets n 0 s in
    record { answer = record { refusal = 0; network = record { core = core_begun u (length ws); used = length ps } }; pool = laid ps pool }

-- 01: "Making unit 1 assigns"
unfoldable pub make_of : ValueOrder → List ℕ → List ℕ → Result
make_of order stream pool = made (units_of stream) pool (unless_refused (making_refusal pool_size stream (length pool)) (assign (view_by order (instance_of stream) 0) fresh))

-- ---- a delivery

-- the first of 13, 5, 6, 7, 5 (any unit's state, pool count), 12 that applies, or 0: what is asked whatever message is to be delivered
unfoldable pub network_refusal : ValueOrder → Network → List ℕ → List ℕ → ℕ
network_refusal order net stream pool =
    or_else (cond (ltb (length pool) pool_size) 13 0)
    (or_else (core_refusal order net.core stream) (or_else (cond (leb net.used pool_cells) 0 5) (cond (unit_at net.core.units 0).stopped 12 0)))

-- then 15
unfoldable pub deliver_refusal : ValueOrder → Network → List ℕ → List ℕ → ℕ → ℕ
deliver_refusal order net stream pool cell = or_else (network_refusal order net stream pool) (cond (leb net.used cell) 15 0)

-- the unit that a packet names as its receiver; one that is no unit is refused by any unit's reading, as by unit 1's
abbrev pub receiver_of : ℕ → List ℕ → ℕ
receiver_of n bytes = cond (is_unit n (get_or bytes 2 0)) (get_or bytes 2 0) 1

-- 01: "the step's from 8 on"
unfoldable pub step_from8 : ValueOrder → List ℕ → List Unit → ℕ → List ℕ → Decision
step_from8 order stream units own bytes =
    on_read (view_by order (instance_of stream) (pred own)) (unit_at units (pred own)) (parse_for (units_of stream) (sizes_in stream) own bytes)

abbrev pub refused_delivery : Network → List ℕ → ℕ → Result
refused_delivery net pool r = record { answer = record { refusal = r; network = net }; pool = pool }

-- the network once unit `own` has stepped and written so many records, with so many cells in use
abbrev pub network_after : Network → ℕ → Unit → ℕ → ℕ → Network
network_after net own u used records = record { core = core_after net.core own u records; used = used }

-- What the step of unit `own` leaves, where so many cells stay in use beside what it sends, and `put` gives the pool with that in it; 01, refusal 14:
-- "outgoing messages don't fit the pool".
abbrev pub stored : Network → List ℕ → ℕ → (List Packet → List ℕ) → ℕ → ℕ → Decision → Result
stored net pool left put n own (refused r) = refused_delivery net pool r
stored net pool left put n own (accepted u s ws) =
    let ps = packets n (pred own) s in
    cond (leb (left + length ps) pool_cells) (record { answer = record { refusal = 0; network = network_after net own u (left + length ps) (length ws) }; pool = put ps }) (refused_delivery net pool 14)

-- the message at the cell leaves the pool
abbrev pub on_out : Network → List ℕ → ℕ → ℕ → ℕ → Decision → Result
on_out net pool cell n own o = stored net pool (net.used - 1) (λ (ps : List Packet). pool_after net.used cell ps pool) n own o

abbrev pub deliver_by : ValueOrder → ℕ → Network → List ℕ → List ℕ → ℕ → Result
deliver_by order zero net stream pool cell =
    let own = receiver_of (units_of stream) (cell_of pool cell) in
    on_out net pool cell (units_of stream) own (step_from8 order stream net.core.units own (cell_of pool cell))
deliver_by order (suc r) net stream pool cell = refused_delivery net pool (suc r)

unfoldable pub deliver_of : ValueOrder → Network → List ℕ → List ℕ → ℕ → Result
deliver_of order net stream pool cell = deliver_by order (deliver_refusal order net stream pool cell) net stream pool cell

-- ---- an echo. 02, job 2: "An echo is a call of its own: the 64 bytes are lent again, nothing leaves the pool, and 15 is left out; the rest, counts included,
-- goes as in a delivery."

abbrev pub echo_by : ValueOrder → ℕ → Network → List ℕ → List ℕ → List ℕ → Result
echo_by order zero net stream pool bytes =
    let own = receiver_of (units_of stream) bytes in
    stored net pool net.used (λ (ps : List Packet). pool_with net.used ps pool) (units_of stream) own (step_from8 order stream net.core.units own bytes)
echo_by order (suc r) net stream pool bytes = refused_delivery net pool (suc r)

-- 13, 5 (n, sizes), 6, 7, 5 (any unit's state, pool count), 12, the step's from 8 on, 14
unfoldable pub echo_of : ValueOrder → Network → List ℕ → List ℕ → List ℕ → Result
echo_of order net stream pool bytes = echo_by order (network_refusal order net stream pool) net stream pool bytes
