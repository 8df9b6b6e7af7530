-- A network over 02's pool can be made of every accepted table, in a pool that is long enough (runs/specs/Made). Assumes nothing.
use Rattle.std.specs.Prelude.{◌≡◌, ℕ, ◌≤◌, List, length}
use Rattle.std.specs.Prelude.{refl}
use Rattle.table.specs.Stream.{units_of, Accepted}
use Rattle.costs.specs.declared.ValueOrder.{ValueOrder}
use Rattle.costs.specs.Instance.{view_by, instance_of}
use Rattle.rules.specs.State.{fresh}
use Rattle.rules.specs.Step.{Decision, refused, accepted, assign}
use Rattle.rules.specs.Calls.{unless_refused}
use Rattle.rules.specs.Laws.Refusals.{Accepts}
use Rattle.runs.specs.Calls.{making_refusal}
use Rattle.runs.specs.Made.{making_accepts}
use Rattle.slots.specs.Slot.{slot_pool_size}
use Rattle.slots.specs.Calls as C
use Rattle.slots.specs.Calls.{make_of}
use Rattle.slots.specs.Demand3.{Made}

pub accepted-made : (order : ValueOrder) (s pool : List ℕ) → Accepted s → slot_pool_size ≤ length pool → Made order s pool
unfolding make_of
accepted-made order s pool ok room =
    go (unless_refused (making_refusal slot_pool_size s (length pool)) (assign (view_by order (instance_of s) 0) fresh)) (making_accepts order slot_pool_size (length pool) s ok room)
  where
    go : (o : Decision) → Accepts o → (C.made (units_of s) pool o).answer.refusal ≡ 0
    go (refused r) a = absurd a
    go (accepted u o ws) a = refl
