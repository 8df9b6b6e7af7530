-- Parts of a step that its proofs speak of: small ones, and each test with what either answer leads to. Nobody has to believe these: Step has
-- the same.
-- Assumes nothing.
use Rattle.std.specs.Prelude.{ℕ, suc, ◌-◌, Bool, false, cond, List, eqb, get_or, set, Some}
use Rattle.base.specs.Sums.{sum_from}
use Rattle.costs.specs.{Cost.Cost, Cost.◌⊕◌, Instance.View, Bounds.cost_with}
use Rattle.message.specs.{declared.Message.Message, declared.Kind.Kind, Message.no_message}
use Rattle.rules.specs.{declared.Unit.Unit, declared.Held.Held, declared.Sending.Sending, declared.Plan.TheVariants.Nothing}
use Rattle.rules.specs.State.{unit, with_threshold, with_best, with_estimates, with_counter, compare_on}
use Rattle.rules.specs.Step.{Decision, refused, quiet, take_bound, take_off, backtrack, write, after_write, assign, resume, on_down, on_back, by_kind}

-- nothing is sent
abbrev pub silent : Sending
silent = record { plan = Nothing; improved = false; message = no_message }

-- the unit is unit n
abbrev pub is_last : View → Bool
is_last w = eqb (suc w.place) w.n

-- the cost with own value v
abbrev pub cost_at : View → ℕ → Unit → Cost
cost_at w v u = Some u.cost ⊕ cost_with w u.values w.place v

-- the unit with what is held of it and these estimates
abbrev pub holding : Held → List ℕ → Unit
holding t e = unit t.threshold t.bound t.best e t.stamp t.values t.cost t.counter t.stopped

-- unit n writes value v at cost c, takes it as its best and has it off again, the own value being off before
abbrev pub improved_by : View → ℕ → ℕ → Unit → Unit
improved_by w v c u = with_threshold (set u.stamp w.place (suc u.counter)) (with_counter (suc u.counter) (with_best c (set u.values w.place v) u))

-- the estimates of units i+1 to n, added up
abbrev pub sum_later : View → List ℕ → ℕ
sum_later w e = sum_from (λ (j : ℕ). get_or e j 0) (suc w.place) (w.n - suc w.place)

-- an estimate stored
abbrev pub stored : Message → Unit → Unit
stored m u = with_estimates (set u.estimates (m.sender - 1) m.cost) u

-- a bound is lower: `take_bound`
abbrev pub take_lower : Bool → ℕ → List ℕ → Unit → Unit
take_lower t B l u = cond t (with_best B l u) u

-- the cost without the own value is at least the bound: `resume`
abbrev pub reached_bound : View → Bool → Unit → Decision
reached_bound w t u = cond t (backtrack w false (take_off w u)) (assign w u)

-- a value costs less than the bound: `try_after`
abbrev pub try_value : View → Bool → ℕ → ℕ → Bool → Unit → (Bool → Unit → Decision) → Decision
try_value w t v c improved u again = cond t (after_write w (is_last w) (write w v c u) again) (again improved u)

-- a CPA going back is the one out: `on_back`
abbrev pub on_own : View → Bool → Unit → Message → Decision
on_own w t u m = cond t (resume w (take_bound m u)) (refused 11)

-- a CPA goes down: `on_cpa`
abbrev pub on_either : View → Bool → Unit → Message → Decision
on_either w t u m = cond t (on_down w (compare_on (suc w.place) m.stamp u.threshold) u m) (on_back w (compare_on (suc w.place) m.stamp u.threshold) u m)

-- the estimates reach the bound: `on_own_estimate`
abbrev pub reached_by_estimates : View → Bool → Unit → Decision
reached_by_estimates w t u = cond t (assign w u) (quiet u)

-- the unit has stopped: `respond`
abbrev pub unless_stopped : Bool → View → Kind → Unit → Message → Decision
unless_stopped t w k u m = cond t (refused 12) (by_kind w k u m)
