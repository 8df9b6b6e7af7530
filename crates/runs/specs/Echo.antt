-- PACKETS HEARD TWICE, 02, job 2, stated: "Let any message that was sent be delivered any number of times .. Still no beginning is written twice, box 1's report
-- is the least total when it stops, and until then some message that was never delivered is waiting. The limit on deliveries holds only for runs without
-- echoes." About `make_of`, `deliver_of` and `echo_of`, which the contracts of `network::make_by`, `deliver_by` and `echo_by` cite. 02 asks this of runs "where no
-- delivery is refused"; here refused ones may stand in the list too, as they change nothing. Proved in proofs/Echo/Theorem.antt (`heard-twice`, and 02's own words from it: `as_asked`). Assumes nothing.
--     Event                            a delivery that names a cell, or an echo that lends a packet
--     hear, hear_from, heard            over messages: an event, and a list of events
--     result_of, hear_bytes, heard_bytes  on bytes: the same
--     taken_in                          the bytes that accepted events handed over
--     Echoes                           every echo lends a packet that was sent before
--     HeardTwice                       what holds of such a list
--     AsAsked                          02's three claims, of one in which nothing is refused
use Rattle.std.specs.Prelude.{ℕ, ◌*◌, ◌%◌, ◌^◌, ◌<◌, ◌≡◌, ◌⊎◌, Bool, true, false, cond, List, [], ◌∷◌, ◌++◌, map, eqb, length}
use Rattle.base.specs.Members.{In}
use Rattle.costs.specs.declared.ValueOrder.{ValueOrder}
use Rattle.costs.specs.{Instance.Instance, Instance.instance_of, Bounds.Reported, Least.LeastFirst, Least.Padded}
use Rattle.message.specs.Message.{Packet}
use Rattle.rules.specs.{Send.packet_bytes, Units.Distinct}
use Rattle.runs.specs.{Count.value_of, Pool.cell_of, Run.History, Run.DeliveryOf, Run.refused_by, Run.by_decision, Run.cells, Run.stopped, Run.step_on, Run.onward, Run.begin, Run.hand_over}
use Rattle.runs.specs.{Calls.Result, Calls.deliver_of, Calls.echo_of, Demand3.Shed, Demand3.shed_of, Demand3.shed_made, Demand3.over, Demand3.report_of, Demand3.Honest, Demand3.Follows}

pub data Event : Type 0 where
  cell : ℕ → Event
  echo : Packet → Event

-- ---- over messages

-- 02: "nothing leaves the pool, and 15 is left out"
abbrev pub hear : ValueOrder → Instance → History → Event → DeliveryOf (List Packet)
hear order I H (cell c) = hand_over order I H c
hear order I H (echo p) = cond (stopped H) (refused_by 12) (by_decision I H p (cells.put H.waiting) (step_on order I H.units p))

unfoldable pub hear_from : ValueOrder → Instance → History → List Event → History
hear_from order I H [] = H
hear_from order I H (e ∷ es) = hear_from order I (onward H (hear order I H e)) es

abbrev pub heard : ValueOrder → Instance → List Event → History
heard order I events = hear_from order I (begin order I) events

-- ---- on bytes

-- 02: "the 64 bytes are lent again"
abbrev pub result_of : ValueOrder → List ℕ → Shed → Event → Result
result_of order stream S (cell c) = deliver_of order S.network stream S.pool c
result_of order stream S (echo p) = echo_of order S.network stream S.pool (packet_bytes p)

abbrev pub number_at : ValueOrder → List ℕ → Shed → Event → ℕ
number_at order stream S e = (result_of order stream S e).answer.refusal

unfoldable pub hear_bytes : ValueOrder → List ℕ → Shed → List Event → Shed
hear_bytes order stream S [] = S
hear_bytes order stream S (e ∷ es) = hear_bytes order stream (shed_of (result_of order stream S e)) es

abbrev pub heard_bytes : ValueOrder → List ℕ → List ℕ → List Event → Shed
heard_bytes order stream pool events = hear_bytes order stream (shed_made order stream pool) events

-- the 64 bytes that an event hands over
abbrev pub bytes_at : Shed → Event → List ℕ
bytes_at S (cell c) = cell_of S.pool c
bytes_at S (echo p) = packet_bytes p

-- those of the events that are accepted
unfoldable pub taken_in : ValueOrder → List ℕ → Shed → List Event → List (List ℕ)
taken_in order stream S [] = []
taken_in order stream S (e ∷ es) = cond (eqb (number_at order stream S e) 0) (bytes_at S e ∷ []) [] ++ taken_in order stream (shed_of (result_of order stream S e)) es

-- ---- 02: "any message that was sent"

abbrev pub SentBefore : History → Event → Type 0
SentBefore H (cell c) = Unit {0}
SentBefore H (echo p) = In p H.sent

abbrev pub EchoesFrom : ValueOrder → Instance → History → List Event → Type 0
EchoesFrom order I H [] = Unit {0}
EchoesFrom order I H (e ∷ es) = SentBefore H e × EchoesFrom order I (onward H (hear order I H e)) es

abbrev pub Echoes : ValueOrder → Instance → List Event → Type 0
Echoes order I events = EchoesFrom order I (begin order I) events

-- ---- what holds

-- 12 after the stop or 14; of a delivery also 15
abbrev pub HonestTo : Bool → Event → ℕ → Type 0
HonestTo ended (cell c) r = Honest ended r
HonestTo ended (echo p) r = ((r ≡ 12) × (ended ≡ true)) ⊎ (r ≡ 14)

pub record HeardTwice (order : ValueOrder) (stream pool : List ℕ) (events : List Event) : Type 0 where
  -- the byte run follows the run over messages
  pub follows : Follows (heard_bytes order stream pool events) (heard order (instance_of stream) events)
  -- "no beginning is written twice"
  pub distinct : Distinct (heard order (instance_of stream) events).written
  -- "box 1's report is the least total when it stops", or none; and its lotting is the first with that total, as without echoes
  pub reported : over (heard_bytes order stream pool events) ≡ true → Reported (instance_of stream) (report_of (heard_bytes order stream pool events)).total (report_of (heard_bytes order stream pool events)).assignment
  pub lotting : over (heard_bytes order stream pool events) ≡ true
      → LeastFirst order (instance_of stream) (report_of (heard_bytes order stream pool events)).total (report_of (heard_bytes order stream pool events)).assignment
      × Padded (instance_of stream).n (report_of (heard_bytes order stream pool events)).assignment
  -- "until then some message that was never delivered is waiting": no equal 64 bytes were delivered or echoed
  pub waits : over (heard_bytes order stream pool events) ≡ false
      → (cell : ℕ) × (cell < (heard_bytes order stream pool events).network.used) × (In (cell_of (heard_bytes order stream pool events).pool cell) (taken_in order stream (shed_made order stream pool) events) → ⊥)
  -- what accepted events handed over, in order, are these messages, all of which were sent
  pub taken : taken_in order stream (shed_made order stream pool) events ≡ map packet_bytes (heard order (instance_of stream) events).handed
  pub sent : (p : Packet) → In p (heard order (instance_of stream) events).handed → In p (heard order (instance_of stream) events).sent
  -- records are counted exactly, and what was handed over modulo 2^128
  pub records : value_of (heard_bytes order stream pool events).network.core.records ≡ length (heard order (instance_of stream) events).written
  pub deliveries : value_of (heard_bytes order stream pool events).network.core.deliveries ≡ length (heard order (instance_of stream) events).handed % (2 ^ 64 * 2 ^ 64)
  -- no unit refuses a message that was sent, however late it is heard again
  pub honest : (e : Event) → SentBefore (heard order (instance_of stream) events) e
      → (number_at order stream (heard_bytes order stream pool events) e ≡ 0) ⊎ HonestTo (over (heard_bytes order stream pool events)) e (number_at order stream (heard_bytes order stream pool events) e)

-- ---- 02's words alone: "in a run where no delivery is refused"

abbrev pub NoneRefused : ValueOrder → List ℕ → Shed → List Event → Type 0
NoneRefused order stream S [] = Unit {0}
NoneRefused order stream S (e ∷ es) = (number_at order stream S e ≡ 0) × NoneRefused order stream (shed_of (result_of order stream S e)) es

-- the bytes that its deliveries and echoes hand over
unfoldable pub bytes_of : ValueOrder → List ℕ → Shed → List Event → List (List ℕ)
bytes_of order stream S [] = []
bytes_of order stream S (e ∷ es) = bytes_at S e ∷ bytes_of order stream (shed_of (result_of order stream S e)) es

pub record AsAsked (order : ValueOrder) (stream pool : List ℕ) (events : List Event) : Type 0 where
  pub distinct : Distinct (heard order (instance_of stream) events).written
  pub reported : over (heard_bytes order stream pool events) ≡ true → Reported (instance_of stream) (report_of (heard_bytes order stream pool events)).total (report_of (heard_bytes order stream pool events)).assignment
  pub waits : over (heard_bytes order stream pool events) ≡ false
      → (cell : ℕ) × (cell < (heard_bytes order stream pool events).network.used) × (In (cell_of (heard_bytes order stream pool events).pool cell) (bytes_of order stream (shed_made order stream pool) events) → ⊥)
