-- Many units, by place: the one that a packet is for and its step, and the records that they write together. No pool is met here. Assumes nothing.
use Rattle.std.specs.Prelude.{ℕ, pred, ◌≡◌, List, [], ◌∷◌, get_or}
use Rattle.base.specs.Members.{Every}
use Rattle.costs.specs.{declared.ValueOrder.ValueOrder, Instance.Instance, Instance.view_by}
use Rattle.message.specs.Message.{Packet}
use Rattle.rules.specs.{declared.Unit.Unit as State, State.empty_unit, Step.Decision, Step.Written, Step.respond}

-- the unit at a place
abbrev pub unit_at : List State → ℕ → State
unit_at us k = get_or us k empty_unit

-- the place of the unit that a packet is for
abbrev pub place_of : Packet → ℕ
place_of p = pred p.message.receiver

-- the step of that unit
abbrev pub step_on : ValueOrder → Instance → List State → Packet → Decision
step_on order I us p = respond (view_by order I (place_of p)) p.kind (unit_at us (place_of p)) p.message

-- two records are of one unit with the same values, 01: "a beginning: the values of units 1 to i"
abbrev pub SamePrefix : Written → Written → Type 0
SamePrefix r q = (r.unit ≡ q.unit) × (r.values ≡ q.values)

-- no two of a list are
abbrev pub Distinct : List Written → Type 0
Distinct [] = Unit {0}
Distinct (r ∷ rs) = Every (λ q. SamePrefix r q → ⊥) rs × Distinct rs
