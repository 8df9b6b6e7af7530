-- Runs with echoes. 02: "Let any message that was sent be delivered any number of times". An event is a delivery, which names a cell, or an echo, which names
-- a message. What was sent and what was handed over is kept beside the network, in a trace; no rule reads it.
--
-- An event that is refused changes nothing, and hands nothing over. So the runs of 02, "where no delivery is refused", are among these, and nothing is
-- asked of refusals here.
--
-- In order: events and traces; an event and a list of them; what is asked of echoes (`Echoes`); the statement (`HeardTwice`).
-- Assumes nothing.
use Rattle.std.specs.Prelude.{ℕ, suc, ◌≤◌, ◌≡◌, ◌≢◌, Bool, true, false, cond, List, [], ◌∷◌, ◌++◌, leb, length, take, drop}
use Rattle.base.specs.Members.{In, Every}
use Rattle.protocol.specs.Problem.{Problem, Full, ValidBound, Passed}
use Rattle.protocol.specs.Machine.{Msg, to, Agent, fresh, Result, refused, done, assign, step, Network, put, made}

-- ---- events and traces

pub data Event : Type 0 where
  cell : ℕ → Event  -- a delivery of the message at a cell
  echo : Msg → Event  -- a message heard again

-- the network, with all that was ever sent and all that was handed over, from a cell or as an echo, each oldest first
pub record Trace : Type 0 where
  pub network : Network
  pub sent : List Msg
  pub handed : List Msg

-- m is handed over; `rest` waits beside what its step sends
abbrev pub handed_over : Trace → Msg → List Msg → Agent → List Msg → Trace
handed_over T m rest u ms =
    record {
      network = record { units = put T.network.units (to m) u; pool = rest ++ ms; accepted = suc T.network.accepted };
      sent = T.sent ++ ms;
      handed = T.handed ++ (m ∷ []);
    }

-- 01: refusal 14, "outgoing messages don't fit the pool after the taken one left"
abbrev pub answered : ℕ → Trace → Msg → List Msg → Result → Trace
answered room T m rest refused = T
answered room T m rest (done u ms) = cond (leb (length (rest ++ ms)) room) (handed_over T m rest u ms) T

abbrev pub begun : Result → Trace
begun res = record { network = made res; sent = (made res).pool; handed = [] }

-- ---- an event, and a list of them

module _ (P : Problem) where
  -- as making leaves it
  abbrev pub start : Trace
  start = begun (assign P 0 fresh)

  abbrev pub hand : ℕ → Trace → Msg → List Msg → Trace
  hand room T m rest = answered room T m rest (step P (T.network.units (to m)) m)

  -- a delivery: refused by 15 where there is no message at the cell
  abbrev pub from_cell : ℕ → Trace → List Msg → List Msg → Trace
  from_cell room T before [] = T
  from_cell room T before (m ∷ after) = hand room T m (before ++ after)

  -- 02, of an echo: "nothing leaves the pool, and 15 is left out; the rest, counts included, goes as in a delivery". By 12 both are refused.
  abbrev pub unless_stopped : Bool → ℕ → Trace → Event → Trace
  unless_stopped true room T e = T
  unless_stopped false room T (cell c) = from_cell room T (take c T.network.pool) (drop c T.network.pool)
  unless_stopped false room T (echo m) = hand room T m T.network.pool

  abbrev pub hear : ℕ → Trace → Event → Trace
  hear room T e = unless_stopped (T.network.units 0).stopped room T e

  abbrev pub hear_all : ℕ → Trace → List Event → Trace
  hear_all room T [] = T
  hear_all room T (e ∷ es) = hear_all room (hear room T e) es

-- ---- what is asked: every echoed message was sent before

abbrev pub SentBefore : Trace → Event → Type 0
SentBefore T (cell c) = Unit {0}
SentBefore T (echo m) = In m T.sent

abbrev pub Echoes : Problem → ℕ → Trace → List Event → Type 0
Echoes P room T [] = Unit {0}
Echoes P room T (e ∷ es) = SentBefore T e × Echoes P room (hear P room T e) es

-- ---- the statement. That no prefix is written twice is said of the records themselves (Simulation/Units.antt: `Matches`).

-- m waits, and no message equal to it was ever handed over
abbrev pub Unheard : Trace → Msg → Type 0
Unheard T m = In m T.network.pool × (In m T.handed → ⊥)

pub record HeardTwice (P : Problem) (T : Trace) : Type 0 where
  -- until unit 1 stops a message waits that was never handed over
  pub waits : (T.network.units 0).stopped ≡ false → (m : Msg) × Unheard T m
  -- once it has stopped it reports a least total: none, or that of its best assignment
  pub report : (T.network.units 0).stopped ≡ true → ValidBound P (T.network.units 0).bound (T.network.units 0).best
  pub least : (T.network.units 0).stopped ≡ true → (l : List ℕ) → Full P l → (T.network.units 0).bound ≤ P.cost l
  -- and the best is the first with that total, in the order tried: all before it costs more
  pub first : (T.network.units 0).stopped ≡ true → Passed P (T.network.units 0).best (suc (T.network.units 0).bound)
  -- no unit refuses a message that was ever sent, whether it waits, was handed over or neither; and until unit 1 stops no other has
  pub honest : (m : Msg) → In m T.sent → step P (T.network.units (to m)) m ≢ refused
  pub running : (T.network.units 0).stopped ≡ false → (k : ℕ) → (T.network.units k).stopped ≡ false
  -- what waits and what was handed over was sent; every event that is accepted is counted
  pub waiting_sent : Every (λ m. In m T.sent) T.network.pool
  pub handed_sent : Every (λ m. In m T.sent) T.handed
  pub counted : T.network.accepted ≡ length T.handed
