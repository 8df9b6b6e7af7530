-- What is checked of the costs lent with one unit. Assumes nothing.
use Rattle.std.specs.Prelude.{ℕ, ◌*◌, ◌-◌, pred, Bool, cond, ◌&&◌, List, eqb, length}
use Rattle.table.specs.Stream.{unary_good, pair_good, costs_good}
use Rattle.costs.specs.Instance.{dom_in, other_start}
pub mod Parts
pub mod Steps
pub mod Checks
pub mod Bounds

-- how many unary costs unit `own` has, and how many costs touch it
abbrev pub unary_count : ℕ → ℕ → List ℕ → ℕ
unary_count own n sizes = dom_in n sizes (pred own)

abbrev pub lent_count : ℕ → ℕ → List ℕ → ℕ
lent_count own n sizes = other_start (dom_in n sizes) (pred own) n

-- each passes its check 7: the unary costs, which come first, and the pair costs
unfoldable pub lent_good : List ℕ → ℕ → ℕ → Bool
lent_good costs unaries all = costs_good unary_good costs 0 unaries && costs_good pair_good costs (2 * unaries) (all - unaries)

-- The refusal of the costs lent with unit `own`, or 0.
-- 01: "6: stream, or a step's costs, shorter or longer than n and the sizes need"; "7: a cost above 60,000", which since 02, job 3, lets 65,535
-- through for pairs
unfoldable pub lent_refusal : ℕ → ℕ → List ℕ → List ℕ → ℕ
lent_refusal own n sizes costs =
    cond (eqb (length costs) (2 * lent_count own n sizes)) (cond (lent_good costs (unary_count own n sizes) (lent_count own n sizes)) 0 7) 6
