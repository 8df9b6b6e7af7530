-- What the deciding functions ask of their arguments: ranges only, so that no sum wraps and no index leaves its array; and what they give.
-- Places count from 0: unit `own` is at place own - 1. Assumes nothing.
use Rattle.std.specs.Prelude.{ℕ, suc, ◌+◌, ◌-◌, ◌≤◌, ◌<◌, ◌≡◌, false, List, length, get_or}
use Rattle.costs.specs.declared.Seat.{Seat}
use Rattle.costs.specs.declared.ValueOrder.TheVariants.{CheapestFirst}
use Rattle.costs.specs.Cost.{as_number}
use Rattle.costs.specs.Cost.Laws.{AtMost}
use Rattle.costs.specs.Instance.{View}
use Rattle.costs.specs.Bounds.{cost_with, h}
use Rattle.message.specs.declared.Message.{Message}
use Rattle.rules.specs.declared.Unit.{Unit}
use Rattle.rules.specs.declared.Held.{Held}
use Rattle.rules.specs.declared.Decided.{Decided}
use Rattle.rules.specs.declared.Plan.TheVariants.{Forward}
use Rattle.rules.specs.Step.{Decision, refused, accepted, carried}
use Rattle.rules.specs.Tests.{silent}

-- a unit's number
pub record Own (own : ℕ) : Type 0 where
  pub first : 1 ≤ own
  pub last : own ≤ 16

-- one of at most 16 units, with at most 16 values
pub record Shaped (seat : Seat) : Type 0 where
  pub number : Own seat.own
  pub within : seat.own ≤ seat.n
  pub units : seat.n ≤ 16
  pub size : get_or seat.sizes (seat.own - 1) 0 ≤ 16

-- a state whose own value is one of the unit's or none, and whose threshold and counter may go up: the counter is used only with a cpa out
pub record Ready (seat : Seat) (u : Unit) : Type 0 where
  pub threshold : get_or u.threshold (seat.own - 1) 0 ≤ 17
  pub value : get_or u.values (seat.own - 1) 0 ≤ get_or seat.sizes (seat.own - 1) 0
  pub counter : 0 < get_or u.values (seat.own - 1) 0 → u.counter ≤ 16

-- the same of a cpa in hand, the own value off
pub record OwnOff (own : ℕ) (t : Held) : Type 0 where
  pub threshold : get_or t.threshold (own - 1) 0 ≤ 17
  pub counter : t.counter ≤ 16
  pub stamp : get_or t.stamp (own - 1) 0 ≡ 0
  pub value : get_or t.values (own - 1) 0 ≡ 0

-- a message to unit `own`: from a unit; one from a lower unit has no value of this one
pub record Heard (own : ℕ) (m : Message) : Type 0 where
  pub sender : Own m.sender
  pub stamp : get_or m.stamp (own - 1) 0 ≤ 17
  pub bare : m.sender < own → get_or m.values (own - 1) 0 ≡ 0

-- h of each value as a number, value v's at place v - 1; looked at only where values are tried by rising h
abbrev pub Keys : View → List ℕ → Type 0
Keys w keys = w.order ≡ CheapestFirst → (k : ℕ) → k < w.dom w.place → (get_or keys k 0 ≡ as_number (h w (suc k))) × AtMost 16711425 (h w (suc k))

-- what value v costs, alone and with the values of the units before, as a number
abbrev pub IsPaid : View → List ℕ → ℕ → ℕ → Type 0
IsPaid w values v x = x ≡ as_number (cost_with w values w.place v)

-- those of all values, value v's at place v - 1
abbrev pub Paid : View → List ℕ → List ℕ → Type 0
Paid w values paid = (k : ℕ) → k < w.dom w.place → IsPaid w values (suc k) (get_or paid k 0)

-- a decision as the code has it; a refusal keeps the state as it was
abbrev pub decided_of : Unit → Decision → Decided
decided_of was (refused r) = record { refusal = r; unit = was; sending = silent; records = 0 }
decided_of was (accepted u s ws) = record { refusal = 0; unit = u; sending = s; records = length ws }

-- a state and its cpa sent on, after k records
abbrev pub sent_on : View → ℕ → Unit → Decided
sent_on w k u = record { refusal = 0; unit = u; sending = record { plan = Forward; improved = false; message = carried w u }; records = k }

-- a decision after k records
abbrev pub counted : ℕ → Unit → Decision → Decided
counted k was (refused r) = record { refusal = r; unit = was; sending = silent; records = 0 }
counted k was (accepted u s ws) = record { refusal = 0; unit = u; sending = s; records = k + length ws }
