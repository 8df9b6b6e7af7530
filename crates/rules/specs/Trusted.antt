-- What a unit does on what is known to be good: a run checks its table once and knows h of its values, and its units send what can be read. Nobody
-- has to believe it: on what a step accepts it is the step, `trusted_steps` of Laws/Trusted, and a run hands it nothing else (runs/specs/Trusted).
-- Assumes nothing.
use Rattle.std.specs.Prelude.{ℕ, pred, ◌*◌, ◌-◌, Bool, cond, ◌&&◌, ◌||◌, List, [], ltb, leb, eqb, get_or, length, Result, Ok, Err}
use Rattle.base.specs.{declared.Refusal.Refusal, Limits.sending_size, Limits.message_size, Refusal.number_of}
use Rattle.costs.specs.{declared.Seat.Seat, Instance.view_knowing}
use Rattle.message.specs.{declared.Message.Message, declared.Kind.Kind, Message.is_unit, Message.Packet, Unpack.unpack_of}
use Rattle.rules.specs.{declared.Unit.Unit, declared.Sending.Sending, Send.packets, State.fresh, State.in_range, Calls.start}
use Rattle.rules.specs.Step.{Decision, refused, respond}

-- Asked is only what a step can't do without. Of unit and state: one of at most 16 units with at most 16 values, whose own value is one of these or none,
-- and whose threshold and counter may go up.
abbrev pub can_step : ℕ → ℕ → List ℕ → Unit → Bool
can_step own n sizes u =
    is_unit n own && leb n 16 && leb (get_or sizes (own - 1) 0) 16 && leb (get_or u.threshold (own - 1) 0) 17
    && leb (get_or u.values (own - 1) 0) (get_or sizes (own - 1) 0) && (eqb (get_or u.values (own - 1) 0) 0 || leb u.counter 16)

-- Of a message: from a unit, and with no value of this one if from a lower one.
abbrev pub can_hear : ℕ → Message → Bool
can_hear own m = is_unit 16 m.sender && leb (get_or m.stamp (own - 1) 0) 17 && (leb own m.sender || eqb (get_or m.values (own - 1) 0) 0)

-- a message that was read
unfoldable pub respond_to : Seat → List ℕ → List ℕ → Kind → Unit → Message → Decision
respond_to seat costs ahead k u m = cond (can_step seat.own seat.n seat.sizes u) (cond (can_hear seat.own m) (respond (view_knowing seat costs ahead) k u m) (refused 9)) (refused 5)

-- a new unit
unfoldable pub start_to : Seat → List ℕ → List ℕ → Decision
start_to seat costs ahead = cond (can_step seat.own seat.n seat.sizes fresh) (start (view_knowing seat costs ahead) (pred seat.own)) (refused 5)

-- a lent state: none is in range for a number that is not 1 to 16
unfoldable pub in_range_at : Seat → List ℕ → List ℕ → Unit → Bool
in_range_at seat costs ahead u = is_unit 16 seat.own && in_range seat.sizes (view_knowing seat costs ahead) u

-- what was read, its refusal by number
abbrev pub read_by_number : Result (Kind × Message) Refusal → Result (Kind × Message) ℕ
read_by_number (Ok p) = Ok p
read_by_number (Err r) = Err (number_of r)

-- a message that was read, or the number of a refusal, any
abbrev pub on_known : Seat → List ℕ → List ℕ → Unit → Result (Kind × Message) ℕ → Decision
on_known seat costs ahead u (Ok (k, m)) = respond_to seat costs ahead k u m
on_known seat costs ahead u (Err r) = refused r

-- 13; then 8 and 9 of the packet; then 5 and 9, and what a step gives
unfoldable pub trusted_out : Seat → Unit → List ℕ → List ℕ → List ℕ → ℕ → Decision
trusted_out seat u costs ahead bytes room = cond (ltb room sending_size) (refused 13) (on_known seat costs ahead u (read_by_number (unpack_of bytes)))

-- What was decided is sent: by one of at most 16 units, and where all of it fits into the bytes that there are; else nothing.
abbrev pub can_send : Seat → Sending → ℕ → Bool
can_send seat s room = is_unit seat.n seat.own && leb seat.n 16 && leb (message_size * length (packets seat.n (seat.own - 1) s)) room

unfoldable pub send_to : Seat → Sending → ℕ → List Packet
send_to seat s room = cond (can_send seat s room) (packets seat.n (seat.own - 1) s) []
