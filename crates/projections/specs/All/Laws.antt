-- Everything projected once keeps what every assignment is worth, as each move does; so the floor, from 0 on, is a lower bound of every total.
-- Assumes nothing.
use Rattle.std.specs.Prelude.{ℕ, zero, suc, ◌+◌, ◌*◌, ◌<◌, ◌≡◌, Bool, cond, List, eqb}
use Rattle.std.proofs.Common.{subst, arith}
use Rattle.std.proofs.Math.Bool.{true, false}
use Rattle.costs.specs.Instance.{dom_in}
use Rattle.projections.specs.Held.{Held}
use Rattle.projections.specs.Moves.{Outcome, in_order, project_of, unary_project_of}
use Rattle.projections.specs.Moves.Worth.{Kept, kept_all, kept_on, project_keeps, unary_project_keeps}
use Rattle.projections.specs.All.{then_move, project_with, project_value, project_unit, project_units, project_own, project_floor, before_all, project_all_of}

-- what a step takes from j to j + c, m steps take from j to j + c * m
pub in_order_counts : {A : Type 0} (P : ℕ → A → Type 0) (f : ℕ → A → A) (c m : ℕ) → ((k j : ℕ) (a : A) → k < m → P j a → P (j + c) (f k a))
    → (j : ℕ) (a : A) → P j a → P (j + c * m) (in_order f m a)
in_order_counts P f c zero e j a p = let z : j ≡ j + c * 0 = omega arith in subst (λ (i : ℕ). P i a) z p
in_order_counts P f c (suc m) e j a p =
    let z : j + c * m + c ≡ j + c * suc m = omega arith in
    subst (λ (i : ℕ). P i (in_order f (suc m) a)) z
    (e m (j + c * m) (in_order f m a) (omega arith) (in_order_counts P f c m (λ k i b h q. e k i b (omega arith) q) j a p))

in_order_keeps : {A : Type 0} (P : A → Type 0) (f : ℕ → A → A) → ((k : ℕ) (a : A) → P a → P (f k a)) → (m : ℕ) (a : A) → P a → P (in_order f m a)
in_order_keeps P f e m a p = in_order_counts (λ j. P) f 0 m (λ k j b h. e k b) 0 a p

module _ (n : ℕ) (sizes : List ℕ) (h : Held) where
  -- what was lent is kept so far
  abbrev Keeps : Outcome → Type 0
  Keeps x = Kept n sizes h x.held

  then_keeps : (move : Held → Outcome) → ((k : Held) → Kept n sizes k (move k).held) → (x : Outcome) → Keeps x → Keeps (then_move move x)
  then_keeps move e x p = go (eqb x.refusal 0)
    where
      go : (t : Bool) → Keeps (cond t (move x.held) x)
      go true = kept_on n sizes h x.held (move x.held).held p (e x.held)
      go false = p

  with_keeps : (unit value other : ℕ) (x : Outcome) → Keeps x → Keeps (project_with n sizes unit value other x)
  unfolding project_with
  with_keeps unit value other x p = go (eqb unit other)
    where
      go : (t : Bool) → Keeps (cond t x (then_move (project_of n sizes unit value other) x))
      go true = p
      go false = then_keeps (project_of n sizes unit value other) (λ y. project_keeps n sizes y unit value other) x p

  value_keeps : (unit value : ℕ) (x : Outcome) → Keeps x → Keeps (project_value n sizes unit value x)
  unfolding project_value
  value_keeps unit value x p = in_order_keeps Keeps (λ (k : ℕ) (y : Outcome). project_with n sizes unit value (suc k) y) (λ k. with_keeps unit value (suc k)) n x p

  unit_keeps : (i : ℕ) (x : Outcome) → Keeps x → Keeps (project_unit n sizes i x)
  unfolding project_unit
  unit_keeps i x p = in_order_keeps Keeps (λ (k : ℕ) (y : Outcome). project_value n sizes (suc i) (suc k) y) (λ k. value_keeps (suc i) (suc k)) (dom_in n sizes i) x p

  units_keep : (x : Outcome) → Keeps x → Keeps (project_units n sizes x)
  unfolding project_units
  units_keep x p = in_order_keeps Keeps (λ (i : ℕ) (y : Outcome). project_unit n sizes i y) unit_keeps n x p

  own_keeps : (unit : ℕ) (x : Outcome) → Keeps x → Keeps (project_own n sizes unit x)
  unfolding project_own
  own_keeps unit x p = then_keeps (unary_project_of n sizes unit) (λ y. unary_project_keeps n sizes y unit) x p

  floor_keeps : (x : Outcome) → Keeps x → Keeps (project_floor n sizes x)
  unfolding project_floor
  floor_keeps x p = in_order_keeps Keeps (λ (i : ℕ) (y : Outcome). project_own n sizes (suc i) y) (λ i. own_keeps (suc i)) n x p

  -- 02: "For every lotting, floor plus total is the same"
  pub project_all_keeps : Kept n sizes h (project_all_of n sizes h).held
  unfolding project_all_of
  project_all_keeps = floor_keeps (project_units n sizes (before_all n sizes h)) (units_keep (before_all n sizes h) (kept_all n sizes h))
