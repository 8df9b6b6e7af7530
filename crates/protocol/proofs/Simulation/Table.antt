-- What an accepted table gives the units of a run, whatever pool or air their packets are in: a unit without a value costs nothing, the laws of costs hold,
-- and every unit sees what is good. From the table's own laws. Assumes nothing.
use Rattle.std.specs.Prelude.{ℕ, ◌≤◌, ◌<◌, ◌≡◌, refl, Bool, true, false, cond, ◌&&◌, List, ltb, Some}
use Rattle.std.proofs.Common.{sym, arith}
use Rattle.base.specs.Shape.{is_value}
use Rattle.table.specs.Stream.{in_form_two, units_of, Accepted}
use Rattle.table.specs.StreamLaws.{accepted_units}
use Rattle.costs.specs.Cost.{Cost}
use Rattle.costs.specs.declared.ValueOrder.{ValueOrder}
use Rattle.costs.specs.Instance.{view_by, instance_of, dom_of}
use Rattle.costs.specs.Laws.Tried.{problem_by}
use Rattle.costs.proofs.Laws.Tried.{laws_by}
use Rattle.costs.specs.Laws.Stream.{sound_of}
use Rattle.costs.specs.Gather.{sizes_in}
use Rattle.costs.specs.Gather.Sizes.{length_sizes, sizes_at, accepted-sizes_good}
use Rattle.rules.specs.Laws.Views.{GoodView, view_good}
use Rattle.protocol.specs.Problem.{Laws}
use Rattle.protocol.specs.Simulation.Step.{FreeWhenUnassigned}

-- a unit without a value costs nothing
pub stream-free : (s : List ℕ) → FreeWhenUnassigned (instance_of s)
unfolding instance_of
stream-free s = (λ j. no_value (in_form_two s), λ i u j. never _ (ltb i j) (ltb j (units_of s)) (is_value (dom_of s i) u))
  where
    no_value : (t : Bool) → ◌≡◌ {A = ℕ} (cond t 0 0) 0
    no_value true = refl
    no_value false = refl

    never : (x : Cost) (a b c : Bool) → cond (a && b && c && false) x (Some 0) ≡ Some 0
    never x true true true = refl
    never x true true false = refl
    never x true false c = refl
    never x false b c = refl

module _ (order : ValueOrder) (s : List ℕ) (ok : Accepted s) where
  pub laws : Laws (problem_by order (instance_of s))
  laws = laws_by order (instance_of s) (sound_of s ok)

  pub views : (k : ℕ) → k < (instance_of s).n → GoodView (instance_of s).n (sizes_in s) (view_by order (instance_of s) k)
  unfolding instance_of
  views k lt =
      let n16 : units_of s ≤ 16 = (accepted_units s ok).1 in
      view_good order (instance_of s) (sizes_in s) k (sound_of s ok) (accepted-sizes_good s ok) (omega (arith, length_sizes s, n16)) lt (sym (sizes_at s k (omega (arith, lt, n16))))
