-- `slot_of` meets its contract: of two units, the number of their kind.
-- Assumes nothing.
use Rattle.std.proofs.Common.{◌≡◌, true, sym, ◌∙◌}
use Rattle.message.specs.declared.Kind.{Kind}
use Rattle.message.specs.declared.Kind.TheVariants.{Cpa, Request, Estimate, Solution, Stop}
use Rattle.message.specs.Message.{is_unit}
use Rattle.slots.specs.Slot.{slot_or_none}
use Rattle.slots.specs.Slot.Laws.{slot_if_allowed}
use Rattle.slots.proofs.numbering.slot_of.Goals as goal
use Rattle.slots.proofs.numbering.slot_of.Goals.{Else-not-is_unit-2, then-not-is_unit-via-then-not-is_unit, then-not-is_unit-via-else-not-is_unit+then-not-is_unit-2}

-- both are units, and the kind decides then
by-kind : (c : Else-not-is_unit-2) (k : Kind) → let a = c.args in slot_or_none a.n k a.sender a.receiver ≡ slot_if_allowed a.n k a.sender a.receiver
unfolding slot_or_none
by-kind c k =
    let a = c.args in
    let from : is_unit a.n a.sender ≡ true = sym c.is_unit.ensures ∙ c.if-not-is_unit.false in
    let to : is_unit a.n a.receiver ≡ true = sym c.is_unit-else-not-is_unit.ensures ∙ c.if-not-is_unit-2.false in
    rw (from, to)

pub returns-then-not-is_unit : goal.returns-then-not-is_unit
unfolding slot_or_none
returns-then-not-is_unit c =
    elim c.then-not-is_unit.branch [
      | then-not-is_unit-via-then-not-is_unit w ↦ rw (sym c.is_unit.ensures ∙ w.if-not-is_unit.true)
      | then-not-is_unit-via-else-not-is_unit+then-not-is_unit-2 w ↦ rw (sym c.is_unit.ensures ∙ w.if-not-is_unit.false, sym w.is_unit-else-not-is_unit.ensures ∙ w.if-not-is_unit-2.true)
    ]

pub returns-in-Cpa : goal.returns-in-Cpa
returns-in-Cpa c = rw (c.in-Cpa.is, by-kind (goal.at.returns-in-Cpa c).Else-not-is_unit-2 Cpa) (rw (c.from-count.ensures, c.from-from.ensures, c.from-to.ensures) at c.cpa_slot.ensures)

pub returns-in-Request : goal.returns-in-Request
returns-in-Request c = rw (c.in-Request.is, by-kind (goal.at.returns-in-Request c).Else-not-is_unit-2 Request) (rw (c.from-count.ensures, c.from-from.ensures, c.from-to.ensures) at c.request_slot.ensures)

pub returns-in-Estimate : goal.returns-in-Estimate
returns-in-Estimate c = rw (c.in-Estimate.is, by-kind (goal.at.returns-in-Estimate c).Else-not-is_unit-2 Estimate) (rw (c.from-count.ensures, c.from-from.ensures, c.from-to.ensures) at c.estimate_slot.ensures)

pub returns-in-Solution : goal.returns-in-Solution
returns-in-Solution c = rw (c.in-Solution.is, by-kind (goal.at.returns-in-Solution c).Else-not-is_unit-2 Solution) (rw (c.from-count.ensures, c.from-from.ensures, c.from-to.ensures) at c.solution_slot.ensures)

pub returns-in-Stop : goal.returns-in-Stop
returns-in-Stop c = rw (c.in-Stop.is, by-kind (goal.at.returns-in-Stop c).Else-not-is_unit-2 Stop) (rw (c.from-count.ensures, c.from-from.ensures, c.from-to.ensures) at c.stop_slot.ensures)
