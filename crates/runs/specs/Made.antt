-- A network can be made of every accepted table, in a pool that is long enough: unit 1's assigning is never refused. Assumes nothing.
use Rattle.std.specs.Prelude.{ℕ, ◌≤◌, ◌≡◌, refl, List, length}
use Rattle.std.proofs.Common.{sym, subst, le-ltb}
use Rattle.base.specs.Limits.{pool_size}
use Rattle.table.specs.Stream.{units_of, Accepted}
use Rattle.costs.specs.declared.ValueOrder.{ValueOrder}
use Rattle.costs.specs.Instance.{view_by, instance_of}
use Rattle.rules.specs.State.{fresh}
use Rattle.rules.specs.Step.{Decision, refused, accepted, assign}
use Rattle.rules.specs.Calls.{unless_refused}
use Rattle.rules.specs.Laws.Refusals.{Accepts, assign_accepts}
use Rattle.runs.specs.Calls as C
use Rattle.runs.specs.Calls.{making_refusal, make_of}
use Rattle.runs.specs.Demand3.{Made}

-- making refuses no accepted stream, in a pool of any kind that has the room asked for
no_refusal : (size room : ℕ) (s : List ℕ) → Accepted s → size ≤ room → making_refusal size s room ≡ 0
unfolding making_refusal Accepted
no_refusal size room s ok h = rw (ok, le-ltb room size h)

pub making_accepts : (order : ValueOrder) (size room : ℕ) (s : List ℕ) → Accepted s → size ≤ room → Accepts (unless_refused (making_refusal size s room) (assign (view_by order (instance_of s) 0) fresh))
making_accepts order size room s ok h =
    subst (λ r. Accepts (unless_refused r (assign (view_by order (instance_of s) 0) fresh))) (sym (no_refusal size room s ok h)) (assign_accepts (view_by order (instance_of s) 0) fresh)

-- over 01's pool
pub accepted-made : (order : ValueOrder) (s pool : List ℕ) → Accepted s → pool_size ≤ length pool → Made order s pool
unfolding make_of
accepted-made order s pool ok room =
    go (unless_refused (making_refusal pool_size s (length pool)) (assign (view_by order (instance_of s) 0) fresh)) (making_accepts order pool_size (length pool) s ok room)
  where
    go : (o : Decision) → Accepts o → (C.made (units_of s) pool o).answer.refusal ≡ 0
    go (refused r) a = absurd a
    go (accepted u o ws) a = refl
