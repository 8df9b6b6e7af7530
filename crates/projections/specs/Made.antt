-- The costs held of a table, from its stream. Document 02, job 8: "own costs before pair costs in form two's order, 4,294,967,295 as barred"; "the floor
-- starts at 0". That an assignment's total by them is the table's is in Made/Laws. Assumes nothing.
use Rattle.std.specs.Prelude.{ℕ, cond, List, [], ◌∷◌, ◌++◌, ltb, eqb, length}
use Rattle.base.specs.{declared.Length.Length, Join.join_to, Refusal.or_else, Sums.sum_to}
use Rattle.table.specs.Stream.{in_form_two, units_of, stream_refusal}
use Rattle.table.specs.File.{answer, leaves}
use Rattle.costs.specs.Cost.{pair_cost, as_number}
use Rattle.costs.specs.Instance.{cost_number, dom_of}
use Rattle.costs.specs.Gather.{sizes_in}
use Rattle.costs.specs.Laws.Stream.{unaries_from, costs_of, row_start}
use Rattle.projections.specs.declared.Moved.{Moved}
use Rattle.projections.specs.Moves.{Outcome, held_by, answer_of}
use Rattle.projections.specs.All.{project_all_of}
pub mod Laws
pub mod Fits
pub mod Steps

-- f 0, f 1, .., m of them
abbrev pub numbers : (ℕ → ℕ) → ℕ → List ℕ
numbers f m = join_to (λ k. f k ∷ []) m

-- own cost number k. "Old files read as own costs all zero."
abbrev pub own_number : List ℕ → ℕ → ℕ
own_number s k = cond (in_form_two s) (cost_number (unaries_from s) k) 0

-- pair cost number k; a forbidden one as a number is 4,294,967,295
abbrev pub pair_number : List ℕ → ℕ → ℕ
pair_number s k = as_number (pair_cost (cost_number (costs_of s) k))

unfoldable pub held_of : List ℕ → List ℕ
held_of s = numbers (own_number s) (sum_to (dom_of s) (units_of s)) ++ numbers (pair_number s) (row_start (dom_of s) (units_of s) (units_of s))

-- a stream's 5, 6, 7, then 13 where they don't all fit
unfoldable pub held_refusal : List ℕ → ℕ → ℕ
held_refusal s room = or_else (stream_refusal s) (cond (ltb room (length (held_of s))) 13 0)

-- the refusal, or 0 and how many numbers it writes; and the lent numbers with these in front
unfoldable pub hold_of : List ℕ → ℕ → Length
hold_of s room = answer (held_refusal s room) (length (held_of s))

unfoldable pub hold_into : List ℕ → List ℕ → List ℕ
hold_into s out = leaves (held_refusal s (length out)) (held_of s) out

-- ---- a lower bound

-- everything projected once, of these costs and from a floor of 0: `floor_bounds` of Made/Laws says that the floor is then at most the least total
abbrev pub projected_of : List ℕ → Outcome
projected_of s = project_all_of (units_of s) (sizes_in s) (held_by 0 (held_of s))

-- 5, 6, 7, 13 and no floor, or what that gives
unfoldable pub bound_of : List ℕ → ℕ → Moved
bound_of s room = cond (eqb (held_refusal s room) 0) (answer_of (projected_of s)) (record { refusal = held_refusal s room; floor = 0 })

unfoldable pub bound_into : List ℕ → List ℕ → List ℕ
bound_into s out = leaves (held_refusal s (length out)) (projected_of s).held.costs out
