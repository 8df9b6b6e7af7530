-- The problem: what the protocol asks of a table, what a valid bound is, and when all before an assignment costs more. `Problem`, `Full`, `Closed`
-- and `Laws`, all that the proof of demand 3 may use of costs, are those of `costs`, which shows that they hold of a table.
--
-- Units count from 0 here: unit k is 01's unit k + 1. A prefix of k units is the list of their values, the LAST unit's first, so
-- `v ∷ b` is the prefix b with the value v of unit `length b` behind it. A value is its place, from 1, in the order tried.
-- Assumes nothing.
use Rattle.std.specs.Prelude.{ℕ, suc, ◌-◌, ◌≤◌, ◌<◌, ◌≡◌, refl, ◌⊎◌, List, [], ◌∷◌}
use Rattle.std.proofs.Common.{inl, inr, arith}
use Rattle.base.specs.Sums.{sum_to}
pub use Rattle.base.specs.Limits.{NONE}
use Rattle.costs.specs.declared.ValueOrder.{ValueOrder}
use Rattle.costs.specs.Instance.{Instance}
use Rattle.costs.specs.Bounds as Bounds
use Rattle.costs.specs.Laws.Tried.{problem_by}
pub use Rattle.costs.specs.Bounds.{prefix_count}
pub use Rattle.costs.specs.Problem.{Problem, InDomains, Full, Closed, Laws, closed_mono, closed_by_values, closed_full, closed-least}

module _ (P : Problem) where
  -- a bound is none, or the total of its assignment, which is permitted
  abbrev pub ValidBound : ℕ → List ℕ → Type 0
  ValidBound B l = ((B ≡ NONE) × (l ≡ [])) ⊎ ((B ≡ P.cost l) × Full P l)

  pub valid_le_none : {B : ℕ} (l : List ℕ) → ValidBound B l → B ≤ NONE
  valid_le_none l (inl h) = omega (arith, h.0)
  valid_le_none l (inr h) = omega (arith, h.0, h.1.2)

  -- a bound that no permitted assignment is below is at most any other that is valid
  pub least_le : {B C : ℕ} (l m : List ℕ) → ValidBound B l → ((x : List ℕ) → Full P x → B ≤ P.cost x) → ValidBound C m → B ≤ C
  least_le l m v least (inl h) = omega (arith, h.0, valid_le_none l v)
  least_le l m v least (inr h) = omega (arith, h.0, least m h.1)

  -- each smaller value at each place of l is closed at C: all before l, in the order tried, costs at least C
  abbrev pub Passed : List ℕ → ℕ → Type 0
  Passed [] C = Unit {0}
  Passed (w ∷ p) C = ((v : ℕ) → 1 ≤ v → v < w → Closed P (v ∷ p) C) × Passed p C

  pub passed_mono : (l : List ℕ) (C D : ℕ) → D ≤ C → Passed l C → Passed l D
  passed_mono [] C D le h = tt
  passed_mono (w ∷ p) C D le h = ((λ v lo hi. closed_mono P (v ∷ p) C D le (h.0 v lo hi)), passed_mono p C D le h.1)

  -- where the lookahead is below a bound the cost is
  pub cost_below : Laws P → (b : List ℕ) (B : ℕ) → B ≤ NONE → P.lookahead b < B → P.cost b < B
  cost_below laws b B le low = omega (arith, low, laws.cost_le_lookahead b (omega (arith, low, le)))

  -- 01: "N is d(1) + d(1) × d(2) + .. up to d(1) × .. × d(n-1); 0 for n = 1"
  abbrev pub N : ℕ
  N = sum_to (λ k. prefix_count P.size (suc k)) (P.n - 1)

-- of a table's problem it is the table's N, in either order
pub N_of_instance : (order : ValueOrder) (I : Instance) → N (problem_by order I) ≡ Bounds.N I
N_of_instance order I = refl
