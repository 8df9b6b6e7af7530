-- What the code that projects everything goes by: the folds, one step at a time. Assumes nothing.
use Rattle.std.specs.Prelude.{ℕ, suc, ◌+◌, ◌≡◌, true, List}
use Rattle.std.proofs.Math.Path.{refl}
use Rattle.std.proofs.Common.{ap, ◌∙◌}
use Rattle.costs.specs.Instance.{dom_in}
use Rattle.projections.specs.declared.Moved.{Moved}
use Rattle.projections.specs.Moves.{Outcome, in_order, refusal_by, held_by, answer_of}
use Rattle.projections.specs.Steps.{outcome_in, outcome_is, answer_is, in_order-next}
use Rattle.projections.specs.All.{project_with, project_value, project_unit, project_units, project_own, project_floor, before_all, project_all_of}

module _ (n : ℕ) (sizes : List ℕ) where
  abbrev pub with_each : ℕ → ℕ → ℕ → Outcome → Outcome
  with_each unit value k y = project_with n sizes unit value (suc k) y

  pub value_is : (unit value : ℕ) (x : Outcome) → in_order (with_each unit value) n x ≡ project_value n sizes unit value x
  unfolding project_value
  value_is unit value x = refl

  abbrev pub each_value : ℕ → ℕ → Outcome → Outcome
  each_value i k y = project_value n sizes (suc i) (suc k) y

  pub unit_is : (i : ℕ) (x : Outcome) → in_order (each_value i) (dom_in n sizes i) x ≡ project_unit n sizes i x
  unfolding project_unit
  unit_is i x = refl

  abbrev pub each_unit : ℕ → Outcome → Outcome
  each_unit i y = project_unit n sizes i y

  pub units_is : (x : Outcome) → in_order each_unit n x ≡ project_units n sizes x
  unfolding project_units
  units_is x = refl

  abbrev pub each_own : ℕ → Outcome → Outcome
  each_own i y = project_own n sizes (suc i) y

  pub floor_is : (x : Outcome) → in_order each_own n x ≡ project_floor n sizes x
  unfolding project_floor
  floor_is x = refl

-- a turn: m and l are what the call of one step left
pub fold_turn : (f : ℕ → Outcome → Outcome) (k : ℕ) (x y : Outcome) (m : Moved) (l : List ℕ) → y ≡ in_order f k x → m ≡ answer_of (f k y) → l ≡ (f k y).held.costs → outcome_in m l ≡ in_order f (k + 1) x
fold_turn f k x y m l e a b = in_order-next f k x y (outcome_in m l) e (outcome_is m l (f k y) a b)

-- the end
pub fold_end : (f : ℕ → Outcome → Outcome) (k count : ℕ) (x z : Outcome) (m : Moved) (l : List ℕ) → outcome_in m l ≡ in_order f k x → k ≡ count → in_order f count x ≡ z → (m ≡ answer_of z) × (l ≡ z.held.costs)
fold_end f k count x z m l e q r = answer_is m l z (e ∙ ap (λ (j : ℕ). in_order f j x) q ∙ r)

-- all of them
pub all_is : (n : ℕ) (sizes costs : List ℕ) (r floor : ℕ) (m w : Moved) (l k : List ℕ) → r ≡ refusal_by n sizes (held_by floor costs) true true
    → m ≡ answer_of (project_units n sizes (outcome_in (record { refusal = r; floor = floor }) costs)) → l ≡ (project_units n sizes (outcome_in (record { refusal = r; floor = floor }) costs)).held.costs
    → w ≡ answer_of (project_floor n sizes (outcome_in m l)) → k ≡ (project_floor n sizes (outcome_in m l)).held.costs
    → (w ≡ answer_of (project_all_of n sizes (held_by floor costs))) × (k ≡ (project_all_of n sizes (held_by floor costs)).held.costs)
unfolding project_all_of
all_is n sizes costs r floor m w l k e a b c d =
    let start : outcome_in (record { refusal = r; floor = floor }) costs ≡ before_all n sizes (held_by floor costs) = rw e in
    let units : outcome_in m l ≡ project_units n sizes (before_all n sizes (held_by floor costs)) = outcome_is m l (project_units n sizes (outcome_in (record { refusal = r; floor = floor }) costs)) a b ∙ ap (λ (x : Outcome). project_units n sizes x) start in
    (c ∙ ap (λ (x : Outcome). answer_of (project_floor n sizes x)) units, d ∙ ap (λ (x : Outcome). (project_floor n sizes x).held.costs) units)
