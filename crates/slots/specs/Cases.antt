-- The definitions computed: the cells of three units, and a run of 01's table T over this pool, in which two messages are overwritten.
-- Assumes nothing.
use Rattle.std.specs.Prelude.{◌≡◌, ℕ, Bool, true, List, [], ◌∷◌, map, length, take}
use Rattle.std.specs.Prelude.{refl}
use Rattle.costs.specs.declared.ValueOrder.TheVariants.{Ascending}
use Rattle.costs.specs.Bounds.{cost_with, h, estimate}
use Rattle.costs.specs.Order.{place_tried, value_at, next}
use Rattle.message.specs.declared.Kind.{Kind}
use Rattle.message.specs.declared.Kind.TheVariants.{Cpa, Request, Estimate, Solution, Stop}
use Rattle.message.specs.Message.{Packet, kind_code}
use Rattle.rules.specs.State.{compare_on, same_on}
use Rattle.rules.specs.Step.{backtrack, try_after, assign, resume, on_cpa, on_request, on_estimate, on_solution, on_stop, respond}
use Rattle.rules.specs.Send.{each, packets}
use Rattle.rules.specs.Units.{unit_at}
use Rattle.protocol.specs.Cases.{T}
use Rattle.runs.specs.Run.{run_in, stopped}
use Rattle.slots.specs.Slot.{triangle, slot_number}
use Rattle.slots.specs.Run.{Lost, History, place, overwritten_by, begin, run}

-- 02: "ordered by kind, sender, receiver"
abbrev cell_of_three : Kind × ℕ × ℕ → ℕ
cell_of_three t = slot_number 3 t.0 t.1 t.2

pub cells_of_three :
    map cell_of_three
    ((Cpa, 1, 2) ∷ (Cpa, 2, 1) ∷ (Cpa, 2, 3) ∷ (Cpa, 3, 2) ∷ (Request, 1, 2) ∷ (Request, 1, 3) ∷ (Request, 2, 3) ∷ (Estimate, 2, 1) ∷ (Estimate, 3, 1) ∷ (Estimate, 3, 2) ∷ (Solution, 3, 1) ∷ (Solution, 3, 2) ∷ (Stop, 1, 2) ∷ (Stop, 1, 3) ∷ [])
    ≡ 0 ∷ 1 ∷ 2 ∷ 3 ∷ 4 ∷ 5 ∷ 6 ∷ 7 ∷ 8 ∷ 9 ∷ 10 ∷ 11 ∷ 12 ∷ 13 ∷ []
unfolding slot_number triangle
cells_of_three = refl

-- what is seen of a run: whether unit 1 has stopped, its bound and best, how many records and deliveries, and the kinds of what was overwritten
abbrev seen : History → Bool × ℕ × List ℕ × ℕ × ℕ × List ℕ
seen H = (stopped H, (unit_at H.units 0).bound, take 2 (unit_at H.units 0).best, length H.written, length H.handed, map (λ (o : Lost Packet). kind_code o.older.kind) H.waiting.overwritten)

-- the CPA, back and forth: the first request and the first solution never arrive
pub on_T : seen (run Ascending T (0 ∷ 1 ∷ 0 ∷ 1 ∷ [])) ≡ (true, 2, 2 ∷ 1 ∷ [], 5, 4, 2 ∷ 4 ∷ [])
unfolding triangle slot_number cost_with h estimate place_tried value_at next compare_on same_on backtrack try_after assign resume on_cpa on_request on_estimate on_solution on_stop respond each packets place overwritten_by begin run_in run
on_T = refl
