-- Making gives the invariant (`make_invariant`), for a table that it accepts and a pool that is long enough. Unit 1's assigning is never refused.
-- Assumes nothing.
use Prim.Native.Nat.{ℕ, zero, suc}
use Rattle.std.specs.Prelude.{◌≡◌, List, [], length}
use Rattle.std.proofs.Math.Path.{refl, subst}
use Rattle.std.proofs.Common.{sym}
use native.Mathlib.Omega.{arith}
use Rattle.base.specs.Limits.{pool_size}
use Rattle.table.specs.Stream.{units_of, Accepted}
use Rattle.costs.specs.declared.ValueOrder.{ValueOrder}
use Rattle.costs.specs.Instance.{view_by, instance_of}
use Rattle.costs.specs.Laws.Tried.{problem_by}
use Rattle.costs.specs.Laws.Stream.{sound_of}
use Rattle.rules.specs.declared.Unit.{Unit as UnitState}
use Rattle.rules.specs.declared.Sending.{Sending}
use Rattle.rules.specs.State.{fresh}
use Rattle.rules.specs.Step as U
use Rattle.rules.specs.Step.{Decision, Written, assign}
use Rattle.rules.specs.Send.{packets}
use Rattle.rules.specs.Calls.{unless_refused}
use Rattle.protocol.specs.Machine as M
use Rattle.protocol.specs.Safety.Logs.{Safe}
use Rattle.protocol.specs.Theorem.{Kept}
use Rattle.protocol.proofs.Theorem.{make-kept}
use Rattle.protocol.proofs.Simulation.Table.{laws}
use Rattle.runs.specs.Run as R
use Rattle.runs.specs.Run.{History}
use Rattle.runs.specs.Calls as C
use Rattle.runs.specs.Calls.{making_refusal, make_of}
use Rattle.runs.specs.Demand3.{Shed, shed_of, shed_made, Made, times}
use Rattle.runs.proofs.CodeLaws.{makeable}
use Rattle.runs.specs.Pool.Stored.{start-stored}
use Rattle.runs.proofs.Steps.Core.{Begun, unit-made, core_starts}
use Rattle.runs.proofs.Steps.Stands.{Stands, sized}
use Rattle.runs.proofs.Steps.Invariant.{Invariant}

-- none was handed over by making
pub none_handed : (order : ValueOrder) (s : List ℕ) → (R.begin order (instance_of s)).handed ≡ []
unfolding R.begin
none_handed order s = go (assign (view_by order (instance_of s) 0) fresh)
  where
    go : (o : Decision) → (R.begun_with R.cells (instance_of s) o).handed ≡ []
    go (U.refused r) = refl
    go (U.accepted u o ws) = refl

module _ (order : ValueOrder) (s pool : List ℕ) (made : Made order s pool) where
  no_refusal : making_refusal pool_size s (length pool) ≡ 0
  unfolding make_of
  no_refusal = go (making_refusal pool_size s (length pool)) made
    where
      go : (r : ℕ) → (C.made (units_of s) pool (unless_refused r (assign (view_by order (instance_of s) 0) fresh))).answer.refusal ≡ 0 → r ≡ 0
      go zero e = refl
      go (suc r) e = absurd (omega arith)

  pub accepted-table : Accepted s
  accepted-table = (makeable pool_size s (length pool) no_refusal).0

  -- what holds of what unit 1 gives holds as making leaves it
  pub making_gives : (Q : Shed → History → Type 0) → ((u : UnitState) (o : Sending) (ws : List Written) → Begun order s accepted-table u o ws → Q (shed_of (C.made (units_of s) pool (U.accepted u o ws))) (R.begun_with R.cells (instance_of s) (U.accepted u o ws)))
      → Q (shed_made order s pool) (R.begin order (instance_of s))
  unfolding make_of R.begin
  making_gives Q f =
      subst (λ r. Q (shed_of (C.made (units_of s) pool (unless_refused r (assign (view_by order (instance_of s) 0) fresh)))) (R.begun_with R.cells (instance_of s) (assign (view_by order (instance_of s) 0) fresh))) (sym no_refusal)
      (unit-made order s accepted-table (λ o. Q (shed_of (C.made (units_of s) pool o)) (R.begun_with R.cells (instance_of s) o)) f)

  module _ (u : UnitState) (o : Sending) (ws : List Written) (b : Begun order s accepted-table u o ws) where
    pub start_stands : Safe (problem_by order (instance_of s)) (M.put (λ k. M.fresh) 0 b.steps.agent)
        → Stands order s accepted-table (shed_of (C.made (units_of s) pool (U.accepted u o ws))) (R.begun_with R.cells (instance_of s) (U.accepted u o ws)) (M.put (λ k. M.fresh) 0 b.steps.agent)
    unfolding instance_of
    start_stands safe =
        record {
          core = core_starts order s accepted-table R.cells u o ws b safe;
          sendable = b.leaves.sent;
          few = omega (arith, b.leaves.few);
          stored = start-stored (packets (units_of s) 0 o) pool (sized order s accepted-table (packets (units_of s) 0 o) b.leaves.sent) (omega (arith, b.leaves.few)) (makeable pool_size s (length pool) no_refusal).1;
        }

  pub make_invariant : Invariant order s accepted-table (shed_made order s pool) (R.begin order (instance_of s)) (M.make (problem_by order (instance_of s)))
  unfolding times
  make_invariant =
      making_gives (λ S H. Invariant order s accepted-table S H (M.make (problem_by order (instance_of s))))
      (λ u o ws b.
      let kept = subst (λ r. Kept (problem_by order (instance_of s)) (M.made r)) b.steps.steps (make-kept (problem_by order (instance_of s)) (laws order s accepted-table) (sound_of s accepted-table).n1) in
      subst (λ r. Invariant order s accepted-table (shed_of (C.made (units_of s) pool (U.accepted u o ws))) (R.begun_with R.cells (instance_of s) (U.accepted u o ws)) (M.made r)) (sym b.steps.steps)
      (record { stands = start_stands u o ws b kept.network.safe; kept = kept; reads = b.steps.reads; accepted = refl; balanced = λ t. omega arith }))
