-- Runs on the air, computed: the most deliveries that there can be are reached with two units and with three. (By `ends` all units have then stopped.)
-- Assumes nothing.
use Rattle.std.specs.Prelude.{ℕ, ◌+◌, ◌*◌, ◌-◌, ◌≡◌, refl, List, [], ◌∷◌, get_or, Some}
use Rattle.costs.specs.declared.ValueOrder.TheVariants.{Ascending}
use Rattle.costs.specs.Instance.{Instance}
use Rattle.costs.specs.Order.{place_tried, value_at}
use Rattle.costs.specs.Laws.Tried.{problem_by}
use Rattle.protocol.specs.Machine.{make}
use Rattle.protocol.specs.Demand3.{most}
use Rattle.protocol.specs.Cases.{T}
use Rattle.protocol.specs.Air.Run.{air, most_on_air}

-- accepted deliveries, values ascending
abbrev after : Instance → List ℕ → ℕ
after I positions = (air (problem_by Ascending I) (make (problem_by Ascending I)) positions).accepted

-- three units of two values each, the costs of the pairs (1,2), (1,3), (2,3): each prefix of two units has a lower total than the one before
abbrev falling : Instance
falling =
    record {
      n = 3;
      dom = λ k. 2;
      unary = λ k v. 0;
      cost = λ i u j v. Some (get_or (16 ∷ 17 ∷ 3 ∷ 7 ∷ 9 ∷ 10 ∷ 14 ∷ 9 ∷ 18 ∷ 15 ∷ 9 ∷ 10 ∷ []) ((i + j - 1) * 4 + (u - 1) * 2 + (v - 1)) 0);
    }

-- newest-first on T, and the stop to unit 2 at the end: (3n - 1) × N + (n - 1)
pub two-boxes : after T (1 ∷ 1 ∷ 0 ∷ 1 ∷ 0 ∷ 1 ∷ 1 ∷ 0 ∷ 1 ∷ 0 ∷ 0 ∷ []) ≡ 11
unfolding place_tried value_at
two-boxes = refl

pub two-boxes-most : (most_on_air (problem_by Ascending T) ≡ 11) × (most (problem_by Ascending T) + 1 ≡ 11)
two-boxes-most = (refl, refl)

-- the same of three units: (3n - 1) × N + (n - 1) is 50 here
pub three-boxes
    : after falling (2 ∷ 2 ∷ 1 ∷ 1 ∷ 0 ∷ 1 ∷ 1 ∷ 0 ∷ 2 ∷ 1 ∷ 0 ∷ 1 ∷ 1 ∷ 0 ∷ 2 ∷ 1 ∷ 0 ∷ 0 ∷ 2 ∷ 2 ∷ 1 ∷ 1 ∷ 0 ∷ 1 ∷ 1 ∷ 0 ∷ 2 ∷ 1 ∷ 0 ∷ 1 ∷ 1 ∷ 0 ∷ 2 ∷ 1 ∷ 0 ∷ 0 ∷ 1 ∷ 0 ∷ []) ≡ 38
unfolding place_tried value_at
three-boxes = refl

pub three-boxes-most : (most_on_air (problem_by Ascending falling) ≡ 38) × (most (problem_by Ascending falling) + 2 ≡ 50)
three-boxes-most = (refl, refl)
