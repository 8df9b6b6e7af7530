-- The calls on bytes: making a network over 02's pool and a delivery, refusals in 01's order. Units, counts, the step and its refusals are those of runs/specs/Calls.
-- 01: "Making .. a shed: 5, 6, 7, 13." "Delivery: 13, 5 (n, sizes), 6, 7, 5 (any unit's state, pool count), 12, 15, the step's from 8 on, 14."
-- 02, job 4: "This pool has no count for check 5", and no 14. Assumes nothing.
use Rattle.std.specs.Prelude.{ℕ, zero, suc, pred, Bool, false, cond, not, List, ltb, eqb, length, Result as Reading, Ok, Err}
use Rattle.base.specs.{declared.Refusal.Refusal, Refusal.or_else}
use Rattle.table.specs.Stream.{units_of}
use Rattle.costs.specs.declared.ValueOrder.{ValueOrder}
use Rattle.costs.specs.{Instance.view_by, Instance.instance_of, Gather.sizes_in}
use Rattle.message.specs.{declared.Kind.Kind, declared.Message.Message, Decode.parse_for}
use Rattle.rules.specs.{State.fresh, Send.packets, Calls.unless_refused, Units.unit_at}
use Rattle.rules.specs.Step.{Decision, refused, accepted, assign}
use Rattle.runs.specs.{declared.Core.Core, Pool.cell_of, Calls.no_core, Calls.core_begun, Calls.making_refusal, Calls.core_after, Calls.core_refusal, Calls.receiver_of, Calls.step_from8}
use Rattle.slots.specs.{declared.Answer.Answer, Slot.slot_pool_size, Slot.slot_number, Bytes.take_out, Bytes.place_bytes, Bytes.zero_cells, Bytes.is_empty}

-- what a call gives: the answer, and the bytes of the lent pool
pub record Result : Type 0 where
  pub answer : Answer
  pub pool : List ℕ

abbrev pub refused_with : Core → List ℕ → ℕ → Result
refused_with core pool r = record { answer = record { refusal = r; core = core }; pool = pool }

-- ---- making

abbrev pub made : ℕ → List ℕ → Decision → Result
made n pool (refused r) = refused_with no_core pool r
made n pool (accepted u s ws) = record { answer = record { refusal = 0; core = core_begun u (length ws) }; pool = place_bytes n (zero_cells n pool) (packets n 0 s) }

-- 01: "Making unit 1 assigns"; 02: "The pool is 19,200 bytes, and 13 reads so for this pool"
unfoldable pub make_of : ValueOrder → List ℕ → List ℕ → Result
make_of order stream pool = made (units_of stream) pool (unless_refused (making_refusal slot_pool_size stream (length pool)) (assign (view_by order (instance_of stream) 0) fresh))

-- ---- a delivery

-- the first of 13, 5, 6, 7, 5 (any unit's state) that applies, or 0: what is asked whatever cell is named
unfoldable pub lent_refusal : ValueOrder → Core → List ℕ → List ℕ → ℕ
lent_refusal order core stream pool = or_else (cond (ltb (length pool) slot_pool_size) 13 0) (core_refusal order core stream)

-- then 12 and 15
unfoldable pub cell_refusal : Core → List ℕ → List ℕ → ℕ → ℕ
cell_refusal core stream pool cell = or_else (cond (unit_at core.units 0).stopped 12 0) (cond (is_empty (units_of stream) pool cell) 15 0)

unfoldable pub deliver_refusal : ValueOrder → Core → List ℕ → List ℕ → ℕ → ℕ
deliver_refusal order core stream pool cell = or_else (lent_refusal order core stream pool) (cell_refusal core stream pool cell)

-- 02: "A message in a cell not its own gets 9": one that reads; else its own 8, 10 or 9 comes first
abbrev pub stray_read : ℕ → ℕ → Reading (Kind × Message) Refusal → Bool
stray_read n cell (Err r) = false
stray_read n cell (Ok (k, m)) = not (eqb (slot_number n k m.sender m.receiver) cell)

unfoldable pub is_stray : List ℕ → ℕ → List ℕ → ℕ → Bool
is_stray stream own bytes cell = stray_read (units_of stream) cell (parse_for (units_of stream) (sizes_in stream) own bytes)

-- what the step of unit `own` leaves
abbrev pub stored : Core → List ℕ → ℕ → ℕ → ℕ → Decision → Result
stored core pool cell n own (refused r) = refused_with core pool r
stored core pool cell n own (accepted u s ws) =
    record { answer = record { refusal = 0; core = core_after core own u (length ws) }; pool = place_bytes n (take_out pool cell) (packets n (pred own) s) }

-- 01: "the step's from 8 on"
abbrev pub deliver_by : ValueOrder → ℕ → Core → List ℕ → List ℕ → ℕ → Result
deliver_by order zero core stream pool cell =
    let own = receiver_of (units_of stream) (cell_of pool cell) in
    cond (is_stray stream own (cell_of pool cell) cell) (refused_with core pool 9) (stored core pool cell (units_of stream) own (step_from8 order stream core.units own (cell_of pool cell)))
deliver_by order (suc r) core stream pool cell = refused_with core pool (suc r)

unfoldable pub deliver_of : ValueOrder → Core → List ℕ → List ℕ → ℕ → Result
deliver_of order core stream pool cell = deliver_by order (deliver_refusal order core stream pool cell) core stream pool cell
