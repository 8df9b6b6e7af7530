-- A unit's state, and a network over either pool, as C lends them: the flag `stopped` is a byte there, and any byte can stand in it. One
-- that is neither 0 nor 1 makes the state one out of range: refusal 5, at its place in the order of step, delivery and echo.
--     unit_from, unit_back            a lent state read, and what stands there after the call
--     core_from, core_back            the same of a network's units and counts
--     network_from, answer_back       of a network over 01's pool
--     slots_back                     what stands there after a delivery over 02's pool, which has only units and counts beside it
-- Lent/Laws shows that such a state is out of range, and that what a call leaves alone comes back as lent. Assumes nothing.
use Rattle.std.specs.Prelude.{ℕ, zero, suc, Bool, cond, List, [], ◌∷◌, ◌++◌, leb, eqb, get_or, replicate}
use Rattle.rules.specs.{declared.Unit.Unit, declared.Outcome.Outcome, State.unit, State.empty_unit}
use Rattle.runs.specs.{declared.Core.Core, declared.Network.Network, declared.Answer.Answer}
use Rattle.slots.specs.{declared.Answer.Answer as SlotsAnswer}
use Rattle.cabi.specs.{declared.LentUnit.LentUnit, declared.LentOutcome.LentOutcome, declared.LentCore.LentCore, declared.LentNetwork.LentNetwork, declared.LentAnswer.LentAnswer, declared.LentSlotsAnswer.LentSlotsAnswer}
pub mod Laws

-- ---- one unit

-- a lent state's fields in their order
abbrev pub lent : List ℕ → ℕ → List ℕ → List ℕ → List ℕ → List ℕ → ℕ → ℕ → ℕ → LentUnit
lent t B l e s v c k z = record { threshold = t; bound = B; best = l; estimates = e; stamp = s; values = v; cost = c; counter = k; stopped = z }

-- the byte is a flag
abbrev pub flag_good : LentUnit → Bool
flag_good s = leb s.stopped 1

-- the state that is lent; where the byte is no flag, one out of range: 01 allows threshold bytes of at most 17
unfoldable pub unit_from : LentUnit → Unit
unit_from s = unit (cond (flag_good s) s.threshold (replicate 16 255)) s.bound s.best s.estimates s.stamp s.values s.cost s.counter (eqb s.stopped 1)

-- a state with its flag as a byte
abbrev pub lent_of : Unit → LentUnit
lent_of u = lent u.threshold u.bound u.best u.estimates u.stamp u.values u.cost u.counter (cond u.stopped 1 0)

-- what stands where s was lent, once the call leaves the unit u there: a byte that is no flag stays with its state, which no call touches
unfoldable pub unit_back : LentUnit → Unit → LentUnit
unit_back s u = cond (flag_good s) (lent_of u) s

-- what a step by value hands back
abbrev pub outcome_back : LentUnit → Outcome → LentOutcome
outcome_back s r = record { refusal = r.refusal; unit = unit_back s r.unit; sent = r.sent; records = r.records }

-- ---- a network

-- what stands past the end of a list of lent units
abbrev pub empty_lent : LentUnit
empty_lent = lent [] 0 [] [] [] [] 0 0 0

-- the list of f 0 to f (k - 1)
unfoldable pub up_to : {A : Type 0} → ℕ → (ℕ → A) → List A
up_to zero f = []
up_to (suc k) f = up_to k f ++ f k ∷ []

abbrev pub units_from : List LentUnit → List Unit
units_from ss = up_to 16 (λ (k : ℕ). unit_from (get_or ss k empty_lent))

abbrev pub units_back : List LentUnit → List Unit → List LentUnit
units_back ss us = up_to 16 (λ (k : ℕ). unit_back (get_or ss k empty_lent) (get_or us k empty_unit))

abbrev pub core_from : LentCore → Core
core_from s = record { units = units_from s.units; records = s.records; deliveries = s.deliveries }

abbrev pub core_back : LentCore → Core → LentCore
core_back s core = record { units = units_back s.units core.units; records = core.records; deliveries = core.deliveries }

abbrev pub network_from : LentNetwork → Network
network_from s = record { core = core_from s.core; used = s.used }

abbrev pub answer_back : LentNetwork → Answer → LentAnswer
answer_back s a = record { refusal = a.refusal; network = record { core = core_back s.core a.network.core; used = a.network.used } }

abbrev pub slots_back : LentCore → SlotsAnswer → LentSlotsAnswer
slots_back s a = record { refusal = a.refusal; core = core_back s a.core }
