-- Definitions. What is proved of them, and by them, is in proofs/Short.antt. Assumes nothing.
use Rattle.std.specs.Prelude.{ℕ, ◌*◌, ◌-◌, ◌≡◌, List, ◌++◌, length, set, take, drop}
use Rattle.base.specs.Limits.{message_size}
use Rattle.costs.specs.declared.Seat.{Seat}
use Rattle.costs.specs.declared.ValueOrder.{ValueOrder}
use Rattle.message.specs.declared.Kind.TheVariants.{Estimate}
use Rattle.message.specs.declared.Message.{Message}
use Rattle.message.specs.Message.{Packet}
use Rattle.message.specs.Sized.{Sized}
use Rattle.message.specs.Decode.{put_into}
use Rattle.rules.specs.declared.Unit.{Unit as UnitState}
use Rattle.rules.specs.declared.Outcome.{Outcome}
use Rattle.rules.specs.declared.Sending.{Sending}
use Rattle.rules.specs.declared.Way.{Way}
use Rattle.rules.specs.declared.Way.TheVariants.{Quiet, Reply, Follow, Store, Lower, Whole}
use Rattle.rules.specs.Send.{laid}
use Rattle.rules.specs.Trusted.{send_to}
use Rattle.rules.specs.Way.{reply_to, changed_by}
use Rattle.runs.specs.declared.Core.{Core}
use Rattle.runs.specs.Count.{plus}
use Rattle.runs.specs.Pool.Laws.{close_gap}
use Rattle.runs.specs.Trusted.{Oldest, Handed}

-- what a unit gives that writes no record
abbrev pub short_outcome : UnitState → ℕ → Outcome
short_outcome u sent = record { refusal = 0; unit = u; sent = sent; records = 0 }

-- what a way does to the pool, and how many messages are sent; the whole way does nothing yet
abbrev pub Passed : Way → Seat → List ℕ → List ℕ → Message → List ℕ → ℕ → ℕ → List ℕ → Type 0
Passed Quiet seat costs ahead m pool used sent after = (sent ≡ 0) × (after ≡ close_gap pool 0 (message_size * used))
Passed Reply seat costs ahead m pool used sent after =
    (sent ≡ 1) × Sized (reply_to seat costs ahead m) × (after ≡ put_into Estimate (reply_to seat costs ahead m) (close_gap pool 0 (message_size * used)) (message_size * (used - 1)))
Passed Follow seat costs ahead m pool used sent after =
    (sent ≡ 1) × Sized (reply_to seat costs ahead m) × (after ≡ put_into Estimate (reply_to seat costs ahead m) (close_gap pool 0 (message_size * used)) (message_size * (used - 1)))
Passed Store seat costs ahead m pool used sent after = (sent ≡ 0) × (after ≡ close_gap pool 0 (message_size * used))
Passed Lower seat costs ahead m pool used sent after = (sent ≡ 0) × (after ≡ close_gap pool 0 (message_size * used))
Passed Whole seat costs ahead m pool used sent after = (sent ≡ 0) × (after ≡ pool)

-- what a unit decided goes the whole way: the gap is closed, and all that is sent is put behind the others
abbrev pub SentOn : Seat → Sending → List ℕ → ℕ → ℕ → List ℕ → Type 0
SentOn seat s pool used sent after =
    let closed : List ℕ = close_gap pool 0 (message_size * used) in
    let ps : List Packet = send_to seat s (length (drop (message_size * (used - 1)) closed)) in
    Sized s.message × (sent ≡ length ps) × (after ≡ take (message_size * (used - 1)) closed ++ laid ps (drop (message_size * (used - 1)) closed))

-- the oldest message was heard: handed over where it goes a short way, else all is as it was
abbrev pub Heard : {order : ValueOrder} {u : UnitState} {own n : ℕ} {sizes costs ahead pool : List ℕ} {used : ℕ} → Oldest order u own n sizes costs ahead pool used → Way → Message → ℕ → List ℕ → Type 0
Heard {u = u} t Quiet m sent after = Handed t (short_outcome (changed_by Quiet m u) sent) after
Heard {u = u} t Reply m sent after = Handed t (short_outcome (changed_by Reply m u) sent) after
Heard {u = u} t Follow m sent after = Handed t (short_outcome (changed_by Follow m u) sent) after
Heard {u = u} t Store m sent after = Handed t (short_outcome (changed_by Store m u) sent) after
Heard {u = u} t Lower m sent after = Handed t (short_outcome (changed_by Lower m u) sent) after
Heard {pool = pool} t Whole m sent after = after ≡ pool

-- ---- the units and counts once it is handed over, but for the delivery itself

abbrev pub stepped : Core → ℕ → Outcome → Core
stepped core place r = record { units = set core.units place r.unit; records = plus r.records core.records; deliveries = core.deliveries }

-- ---- what each way leaves

-- the ways by number
abbrev pub way_code : Way → ℕ
way_code Quiet = 0
way_code Reply = 1
way_code Follow = 2
way_code Store = 3
way_code Lower = 4
way_code Whole = 5
