-- The three moves of held costs. Document 02, job 8, "Costs pushed forward": "do by calls of their own what source document 004 calls binary
-- projection, unary projection and extension", section 2.2 there. In order: costs changed; the moves; their refusals; the calls.
-- That they keep what every assignment is worth is in Moves/Worth. Assumes nothing.
use Rattle.std.specs.Prelude.{ℕ, zero, suc, pred, ◌+◌, ◌-◌, Bool, true, cond, not, ◌&&◌, List, ltb, leb, eqb, length, get_or, set, Result, Ok, Err, unwrap_or}
use Rattle.base.specs.{declared.Refusal.Refusal, Refusal.number_of, Every.every, Shape.is_value, Shape.shape_good, Sums.sum_to}
use Rattle.costs.specs.Cost.{Cost, least}
use Rattle.costs.specs.Instance.{dom_in}
use Rattle.projections.specs.Held.{own_at, with_at, cost_count, barred, held_cost, Held}
use Rattle.projections.specs.declared.Moved.{Moved}
pub mod Changed
pub mod Worth

-- ---- costs changed

-- f 0, then f 1, .., m of them
abbrev pub in_order : {A : Type 0} → (ℕ → A → A) → ℕ → A → A
in_order f zero a = a
in_order f (suc m) a = f m (in_order f m a)

abbrev pub change_at : (ℕ → ℕ) → ℕ → List ℕ → List ℕ
change_at f p costs = set costs p (f (get_or costs p 0))

-- the costs of values 1 to d, which stand at these places
abbrev pub change_each : (ℕ → ℕ) → (ℕ → ℕ) → ℕ → List ℕ → List ℕ
change_each f place d costs = in_order (λ (k : ℕ) (l : List ℕ). change_at f (place (suc k)) l) d costs

-- 02: "barred ones stay barred"
abbrev pub lowered : ℕ → ℕ → ℕ
lowered a x = cond (ltb x barred) (x - a) x

abbrev pub raised : ℕ → ℕ → ℕ
raised a x = cond (ltb x barred) (x + a) x

-- ---- how much is taken

-- 02: "the least permitted cost"
abbrev pub least_at : (ℕ → ℕ) → ℕ → List ℕ → Cost
least_at place d costs = least (λ v. held_cost (get_or costs (place v) 0)) d

-- 02: "a row fully barred is passed over": nothing is taken off it
abbrev pub taken : Cost → ℕ
taken c = unwrap_or c 0

-- off the costs of value u of unit i with unit j
abbrev pub row_taken : (ℕ → ℕ) → ℕ → ℕ → ℕ → ℕ → List ℕ → ℕ
row_taken dom n i u j costs = taken (least_at (with_at dom n i u j) (dom j) costs)

-- off the own costs of unit i
abbrev pub own_taken : (ℕ → ℕ) → ℕ → List ℕ → ℕ
own_taken dom i costs = taken (least_at (own_at dom i) (dom i) costs)

-- ---- the moves

-- 02: "Projection takes, for a value, the least permitted cost with one other unit off that row and adds it to the value's own cost"
unfoldable pub projected : (ℕ → ℕ) → ℕ → ℕ → ℕ → ℕ → Held → Held
projected dom n i u j h = record {
  floor = h.floor;
  costs = change_at (λ x. x + row_taken dom n i u j h.costs) (own_at dom i u) (change_each (lowered (row_taken dom n i u j h.costs)) (with_at dom n i u j) (dom j) h.costs);
}

-- "Unary projection takes the least own cost off all values of a unit and adds it to a floor."
unfoldable pub unary_projected : (ℕ → ℕ) → ℕ → Held → Held
unary_projected dom i h = record {
  floor = h.floor + own_taken dom i h.costs;
  costs = change_each (lowered (own_taken dom i h.costs)) (own_at dom i) (dom i) h.costs;
}

-- "Extension moves a stated part of a value's own cost into all its costs with one unit; barred ones stay barred."
unfoldable pub extended : (ℕ → ℕ) → ℕ → ℕ → ℕ → ℕ → ℕ → Held → Held
extended dom n i u j part h = record {
  floor = h.floor;
  costs = change_at (λ x. x - part) (own_at dom i u) (change_each (raised part) (with_at dom n i u j) (dom j) h.costs);
}

-- ---- refusals

-- 02: "A unit or value that isn't there, or a unit paired with itself, is 10"; numbers from 1 here, as they are lent
abbrev pub row_there : ℕ → (ℕ → ℕ) → ℕ → ℕ → ℕ → Bool
row_there n dom unit value other = is_value n unit && is_value (dom (pred unit)) value && is_value n other && not (eqb unit other)

-- "An own cost or floor lent as 4,294,967,295 is 19 too."
abbrev pub lent_good : (ℕ → ℕ) → ℕ → Held → Bool
lent_good dom n h = ltb h.floor barred && every (λ k. ltb (get_or h.costs k 0) barred) (sum_to dom n)

-- "a move that would take a cost or the floor above 4,294,967,294, is 19"
abbrev pub project_fits : (ℕ → ℕ) → ℕ → ℕ → ℕ → ℕ → Held → Bool
project_fits dom n i u j h = ltb (get_or h.costs (own_at dom i u) 0 + row_taken dom n i u j h.costs) barred

abbrev pub unary_fits : (ℕ → ℕ) → ℕ → Held → Bool
unary_fits dom i h = ltb (h.floor + own_taken dom i h.costs) barred

-- "An extension larger than the own cost .. is 19"
abbrev pub raise_fits : ℕ → ℕ → Bool
raise_fits part x = cond (ltb x barred) (ltb (x + part) barred) true

abbrev pub extend_fits : (ℕ → ℕ) → ℕ → ℕ → ℕ → ℕ → ℕ → Held → Bool
extend_fits dom n i u j part h = leb part (get_or h.costs (own_at dom i u) 0) && every (λ k. raise_fits part (get_or h.costs (with_at dom n i u j (suc k)) 0)) (dom j)

-- "5 and 6 come first, and 7 isn't used"; 10 "before 19", and 19 "before any cost is moved"
abbrev pub refusal_by : ℕ → List ℕ → Held → Bool → Bool → ℕ
refusal_by n sizes h there fits =
    cond (not (shape_good n sizes)) 5
    (cond (not (eqb (length h.costs) (cost_count (dom_in n sizes) n))) 6
    (cond (not there) 10
    (cond (lent_good (dom_in n sizes) n h && fits) 0 19)))

-- ---- the calls: the refusal with all as lent, or 0 with what the move left

pub record Outcome : Type 0 where
  pub refusal : ℕ
  pub held : Held

abbrev pub outcome_by : ℕ → Held → Held → Outcome
outcome_by r lent left = record { refusal = r; held = cond (eqb r 0) left lent }

-- of a value of a unit with another unit, by their numbers
abbrev pub project_refusal : ℕ → List ℕ → ℕ → ℕ → ℕ → Held → ℕ
project_refusal n sizes unit value other h = refusal_by n sizes h (row_there n (dom_in n sizes) unit value other) (project_fits (dom_in n sizes) n (pred unit) value (pred other) h)

unfoldable pub project_of : ℕ → List ℕ → ℕ → ℕ → ℕ → Held → Outcome
project_of n sizes unit value other h = outcome_by (project_refusal n sizes unit value other h) h (projected (dom_in n sizes) n (pred unit) value (pred other) h)

abbrev pub unary_project_refusal : ℕ → List ℕ → ℕ → Held → ℕ
unary_project_refusal n sizes unit h = refusal_by n sizes h (is_value n unit) (unary_fits (dom_in n sizes) (pred unit) h)

unfoldable pub unary_project_of : ℕ → List ℕ → ℕ → Held → Outcome
unary_project_of n sizes unit h = outcome_by (unary_project_refusal n sizes unit h) h (unary_projected (dom_in n sizes) (pred unit) h)

abbrev pub extend_refusal : ℕ → List ℕ → ℕ → ℕ → ℕ → ℕ → Held → ℕ
extend_refusal n sizes unit value other part h =
    refusal_by n sizes h (row_there n (dom_in n sizes) unit value other) (extend_fits (dom_in n sizes) n (pred unit) value (pred other) part h)

unfoldable pub extend_of : ℕ → List ℕ → ℕ → ℕ → ℕ → ℕ → Held → Outcome
extend_of n sizes unit value other part h =
    outcome_by (extend_refusal n sizes unit value other part h) h (extended (dom_in n sizes) n (pred unit) value (pred other) part h)

-- what is lent, from its two parts
abbrev pub held_by : ℕ → List ℕ → Held
held_by floor costs = record { floor = floor; costs = costs }

-- the answer of a call; the costs stay with the caller
abbrev pub answer_of : Outcome → Moved
answer_of x = record { refusal = x.refusal; floor = x.held.floor }

-- the same of a move that gives the floor as it leaves it, or the refusal: then the floor is as it was lent
abbrev pub moved_by : ℕ → Result ℕ Refusal → Moved
moved_by floor (Ok left) = record { refusal = 0; floor = left }
moved_by floor (Err r) = record { refusal = number_of r; floor = floor }
