-- The answers of the calls of documents 01 and 02 in the structs that C is handed, kinds and orders of values by their numbers, and step, delivery, echo and
-- replay on what C lends.
-- Assumes nothing.
use Rattle.std.specs.Prelude.{ℕ, pred, cond, not, List, eqb, length, Result, Ok, Err}
use Rattle.base.specs.declared.Refusal.{Refusal}
use Rattle.base.specs.Refusal.{number_of}
use Rattle.base.specs.Shape.{shape_good}
use Rattle.costs.specs.{declared.ValueOrder.ValueOrder, declared.ValueOrder.TheVariants.Ascending, declared.ValueOrder.TheVariants.CheapestFirst}
use Rattle.message.specs.{declared.Kind.Kind, declared.Message.Message, Decode.write_refusal, Decode.packet_into}
use Rattle.message.specs.Message.{kind_code, no_message, address_good}
use Rattle.rules.specs.{declared.Report.Report, Calls.outcome_of, Calls.bytes_of, Calls.step_out}
use Rattle.runs.specs.Calls.{deliver_of, echo_of}
use Rattle.slots.specs.{Slot.slot_cells, Slot.slot_or_none, Calls.deliver_of as slotsDeliverOf, Replay.replay_of}
use Rattle.cabi.specs.{declared.LentAnswer.LentAnswer, declared.LentCore.LentCore, declared.LentNetwork.LentNetwork, declared.LentOutcome.LentOutcome, declared.LentSlotsAnswer.LentSlotsAnswer, declared.LentUnit.LentUnit, declared.Parsed.Parsed}
use Rattle.cabi.specs.Lent.{unit_from, outcome_back, core_from, network_from, answer_back, slots_back}
pub mod Laws

-- 0, 01's number of the kind that was read and the fields; or the refusal's number, and all else zero
abbrev pub parsed_of : Result (Kind × Message) Refusal → Parsed
parsed_of (Ok (k, m)) = record { refusal = 0; kind = kind_code k; message = m }
parsed_of (Err r) = record { refusal = number_of r; kind = 0; message = no_message }

-- 01: "Writing one: 5, 10, 9, 13", where no kind has the number: what goes with no kind is against it
unfoldable pub unknown_kind : ℕ → List ℕ → Message → ℕ
unknown_kind n sizes m = cond (not (shape_good n sizes)) 5 (cond (not (address_good n m)) 10 9)

-- ---- orders of values by their numbers

-- the order of values that a number names: 0 ascending, every other one the cheapest first, as where none is named
abbrev pub order_of : ℕ → ValueOrder
order_of code = cond (eqb code 0) Ascending CheapestFirst

-- ---- a kind by its number

-- the cell of a message whose kind is read from its number, or 300, past every cell, where no kind has it
unfoldable pub slot_as : Result Kind Refusal → ℕ → ℕ → ℕ → ℕ
slot_as (Ok k) n sender receiver = slot_or_none n k sender receiver
slot_as (Err r) n sender receiver = slot_cells

-- writing a message whose kind is read from its number: the refusal, and what is left in the lent output
unfoldable pub write_as : Result Kind Refusal → ℕ → List ℕ → Message → ℕ → ℕ
write_as (Ok k) n sizes m room = write_refusal n sizes k m room
write_as (Err r) n sizes m room = unknown_kind n sizes m

unfoldable pub written_as : Result Kind Refusal → ℕ → List ℕ → Message → List ℕ → List ℕ
written_as (Ok k) n sizes m out = packet_into n sizes k m out
written_as (Err r) n sizes m out = out

-- ---- a step on a lent state: unit's, on the state that is read

unfoldable pub step_of : ValueOrder → LentUnit → ℕ → ℕ → List ℕ → List ℕ → List ℕ → ℕ → LentOutcome
step_of order s own n sizes costs packet room = outcome_back s (outcome_of n (pred own) (unit_from s) (step_out order (unit_from s) own n sizes costs packet room))

unfoldable pub stepped_bytes : ValueOrder → LentUnit → ℕ → ℕ → List ℕ → List ℕ → List ℕ → List ℕ → List ℕ
stepped_bytes order s own n sizes costs packet out = bytes_of n (pred own) out (step_out order (unit_from s) own n sizes costs packet (length out))

-- its numbers, which a step in place hands back
abbrev pub report_by : LentOutcome → Report
report_by r = record { refusal = r.refusal; sent = r.sent; records = r.records }

-- ---- a delivery or an echo to a lent network: network's, on the network that is read

unfoldable pub delivered_to : ValueOrder → LentNetwork → List ℕ → List ℕ → ℕ → LentAnswer
delivered_to order s stream pool cell = answer_back s (deliver_of order (network_from s) stream pool cell).answer

unfoldable pub delivered_pool : ValueOrder → LentNetwork → List ℕ → List ℕ → ℕ → List ℕ
delivered_pool order s stream pool cell = (deliver_of order (network_from s) stream pool cell).pool

unfoldable pub echoed_to : ValueOrder → LentNetwork → List ℕ → List ℕ → List ℕ → LentAnswer
echoed_to order s stream pool packet = answer_back s (echo_of order (network_from s) stream pool packet).answer

unfoldable pub echoed_pool : ValueOrder → LentNetwork → List ℕ → List ℕ → List ℕ → List ℕ
echoed_pool order s stream pool packet = (echo_of order (network_from s) stream pool packet).pool

-- ---- a delivery over 02's pool to lent units and counts, and a replay: those of slots, on what is read

unfoldable pub slots_delivered_to : ValueOrder → LentCore → List ℕ → List ℕ → ℕ → LentSlotsAnswer
slots_delivered_to order s stream pool cell = slots_back s (slotsDeliverOf order (core_from s) stream pool cell).answer

unfoldable pub slots_delivered_pool : ValueOrder → LentCore → List ℕ → List ℕ → ℕ → List ℕ
slots_delivered_pool order s stream pool cell = (slotsDeliverOf order (core_from s) stream pool cell).pool

unfoldable pub replayed_to : ValueOrder → LentCore → List ℕ → List ℕ → List ℕ → LentSlotsAnswer
replayed_to order s stream pool list = slots_back s (replay_of order (core_from s) stream pool list).answer

unfoldable pub replayed_pool : ValueOrder → LentCore → List ℕ → List ℕ → List ℕ → List ℕ
replayed_pool order s stream pool list = (replay_of order (core_from s) stream pool list).pool
