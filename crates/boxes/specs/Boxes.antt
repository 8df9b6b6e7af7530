-- Boxes on the air: n sealed boxes, each made and stepped by `unit::make_by` and `unit::step_by` alone, and the packets between them. There is no shed and
-- no pool: radio hands any packet that is in the air, whenever it likes, to the box that the packet names. Assumes nothing.
--     make_box, step_box       the two calls, as each box of a table makes them
--     Boxes, boxes_after      the boxes and the air; what a call of one box changes
--     all_made                each box made, one after the other
--     hear, hear_all          an event; a list of events
use Rattle.std.specs.Prelude.{ℕ, zero, suc, pred, List, [], ◌∷◌, ◌++◌, map, get_or, set, take, drop, replicate}
use Rattle.base.specs.Limits.{sending_size}
use Rattle.table.specs.Stream.{units_of}
use Rattle.costs.specs.{declared.ValueOrder.ValueOrder, Gather.sizes_in, Gathered.gathered}
use Rattle.rules.specs.{declared.Unit.Unit, State.no_unit, Step.Decision, Step.refused, Step.accepted, Step.Written, Send.packets, Send.packet_bytes, Calls.make_out, Calls.step_out, Units.unit_at}

-- ---- the calls of the box at place k, 01's unit k + 1, of the table s. It is lent n, the sizes and the costs that touch it, as `costs::gather` gives them.

abbrev pub make_box : ValueOrder → List ℕ → ℕ → Decision
make_box order s k = make_out order (suc k) (units_of s) (sizes_in s) (gathered s (suc k)) sending_size

abbrev pub step_box : ValueOrder → List ℕ → ℕ → Unit → List ℕ → Decision
step_box order s k u bytes = step_out order u (suc k) (units_of s) (sizes_in s) (gathered s (suc k)) bytes sending_size

-- the number that a call gives
abbrev pub number_of : Decision → ℕ
number_of (refused r) = r
number_of (accepted u o ws) = 0

-- ---- the boxes and the air

pub record Boxes : Type 0 where
  pub units : List Unit  -- each box's state, by place
  pub air : List (List ℕ)  -- the packets in the air, 64 bytes each
  pub written : List Written  -- the records that they have written, oldest first
  pub accepted : ℕ  -- how many packets have been accepted

-- The box at place k has made a call: where it is accepted the box is u, what it sends is in the air behind `rest`, and `count` packets have been accepted;
-- a refusal changes nothing.
abbrev pub boxes_after : ℕ → Boxes → ℕ → List (List ℕ) → ℕ → Decision → Boxes
boxes_after n B k rest count (refused r) = B
boxes_after n B k rest count (accepted u o ws) = record { units = set B.units k u; air = rest ++ map packet_bytes (packets n k o); written = B.written ++ ws; accepted = count }

-- ---- making

-- the first k boxes made
unfoldable pub made_to : ValueOrder → List ℕ → ℕ → Boxes
made_to order s zero = record { units = replicate 16 no_unit; air = []; written = []; accepted = 0 }
made_to order s (suc k) = boxes_after (units_of s) (made_to order s k) k (made_to order s k).air 0 (make_box order s k)

abbrev pub all_made : ValueOrder → List ℕ → Boxes
all_made order s = made_to order s (units_of s)

-- ---- an event: the packet at position c in the air goes to the box that it names

-- the place of that box: byte 2 is the receiver's number
abbrev pub receiver_in : List ℕ → ℕ
receiver_in bytes = pred (get_or bytes 2 0)

-- what that box does with it
abbrev pub answer_to : ValueOrder → List ℕ → Boxes → List ℕ → Decision
answer_to order s B bytes = step_box order s (receiver_in bytes) (unit_at B.units (receiver_in bytes)) bytes

-- a packet that is accepted has left the air; one that is refused stays
abbrev pub hear_at : ValueOrder → List ℕ → Boxes → List (List ℕ) → List (List ℕ) → Boxes
hear_at order s B before [] = B
hear_at order s B before (bytes ∷ behind) = boxes_after (units_of s) B (receiver_in bytes) (before ++ behind) (suc B.accepted) (answer_to order s B bytes)

unfoldable pub hear : ValueOrder → List ℕ → Boxes → ℕ → Boxes
hear order s B c = hear_at order s B (take c B.air) (drop c B.air)

unfoldable pub hear_all : ValueOrder → List ℕ → Boxes → List ℕ → Boxes
hear_all order s B [] = B
hear_all order s B (c ∷ cs) = hear_all order s (hear order s B c) cs

-- the boxes of a table after a list of events
abbrev pub boxes : ValueOrder → List ℕ → List ℕ → Boxes
boxes order s events = hear_all order s (all_made order s) events
