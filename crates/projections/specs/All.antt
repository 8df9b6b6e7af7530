-- Everything projected once: for each unit and each of its values the binary projections with every other unit, then the unary projection of each
-- unit. One move after another, as their calls make them; the first that is refused ends it, and the moves before it stand.
-- That the floor is then a lower bound is in All/Laws. Assumes nothing.
use Rattle.std.specs.Prelude.{ℕ, suc, cond, true, List, eqb}
use Rattle.costs.specs.Instance.{dom_in}
use Rattle.projections.specs.Held.{Held}
use Rattle.projections.specs.Moves.{Outcome, in_order, refusal_by, project_of, unary_project_of}
pub mod Laws
pub mod Steps

-- a move more, where none was refused
abbrev pub then_move : (Held → Outcome) → Outcome → Outcome
then_move move x = cond (eqb x.refusal 0) (move x.held) x

-- of a value with another unit; with its own there is nothing to project
unfoldable pub project_with : ℕ → List ℕ → ℕ → ℕ → ℕ → Outcome → Outcome
project_with n sizes unit value other x = cond (eqb unit other) x (then_move (project_of n sizes unit value other) x)

unfoldable pub project_value : ℕ → List ℕ → ℕ → ℕ → Outcome → Outcome
project_value n sizes unit value x = in_order (λ (k : ℕ) (y : Outcome). project_with n sizes unit value (suc k) y) n x

-- of the unit at place i
unfoldable pub project_unit : ℕ → List ℕ → ℕ → Outcome → Outcome
project_unit n sizes i x = in_order (λ (k : ℕ) (y : Outcome). project_value n sizes (suc i) (suc k) y) (dom_in n sizes i) x

unfoldable pub project_units : ℕ → List ℕ → Outcome → Outcome
project_units n sizes x = in_order (λ (i : ℕ) (y : Outcome). project_unit n sizes i y) n x

-- into the floor
unfoldable pub project_own : ℕ → List ℕ → ℕ → Outcome → Outcome
project_own n sizes unit x = then_move (unary_project_of n sizes unit) x

unfoldable pub project_floor : ℕ → List ℕ → Outcome → Outcome
project_floor n sizes x = in_order (λ (i : ℕ) (y : Outcome). project_own n sizes (suc i) y) n x

-- before the first move: 5, 6, and 19 for an own cost or the floor
abbrev pub before_all : ℕ → List ℕ → Held → Outcome
before_all n sizes h = record { refusal = refusal_by n sizes h true true; held = h }

unfoldable pub project_all_of : ℕ → List ℕ → Held → Outcome
project_all_of n sizes h = project_floor n sizes (project_units n sizes (before_all n sizes h))
