-- Costs held in 32 bits: where each stands, what it stands for, and what an assignment is worth by them. Document 02, job 8: "Hold these costs in 32
-- bits, own costs before pair costs in form two's order, 4,294,967,295 as barred."
-- Units count from 0 here, values from 1, as in costs/specs/Instance. Assumes nothing.
use Rattle.std.specs.Prelude.{ℕ, ◌+◌, ◌-◌, cond, List, ltb, get_or, Some, None}
use Rattle.base.specs.Sums.{sum_to}
use Rattle.costs.specs.Cost.{Cost, ◌⊕◌}
use Rattle.costs.specs.Instance.{Instance, dom_in, pair_start, in_pair}
use Rattle.costs.specs.Bounds.{total}
use Rattle.costs.specs.Laws.Stream.{row_start}
pub mod Laws

-- ---- where a cost stands, of n units with these domain sizes

-- the own cost (costs: unary cost) of value v of unit i: "unit by unit"
abbrev pub own_at : (ℕ → ℕ) → ℕ → ℕ → ℕ
own_at dom i v = sum_to dom i + (v - 1)

-- the cost of value u of unit i with value v of a later unit j, behind all own costs
abbrev pub pair_at : (ℕ → ℕ) → ℕ → ℕ → ℕ → ℕ → ℕ → ℕ
pair_at dom n i u j v = sum_to dom n + (pair_start dom n i j + in_pair (dom j) u v)

-- the same with value v of any other unit j
abbrev pub with_at : (ℕ → ℕ) → ℕ → ℕ → ℕ → ℕ → ℕ → ℕ
with_at dom n i u j v = cond (ltb i j) (pair_at dom n i u j v) (pair_at dom n j v i u)

-- how many there are: the own costs, and those of all pairs
abbrev pub cost_count : (ℕ → ℕ) → ℕ → ℕ
cost_count dom n = sum_to dom n + row_start dom n n

-- ---- what it stands for

abbrev pub barred : ℕ
barred = 4294967295

-- a number, or forbidden: barred is the last number of 32 bits
abbrev pub held_cost : ℕ → Cost
held_cost x = cond (ltb x barred) (Some x) None

-- what is lent to a move: the floor, and the costs
pub record Held : Type 0 where
  pub floor : ℕ
  pub costs : List ℕ

-- the instance that the costs describe
abbrev pub instance_by : (ℕ → ℕ) → ℕ → List ℕ → Instance
instance_by dom n costs = record {
  n = n;
  dom = dom;
  unary = λ k v. get_or costs (own_at dom k v) 0;
  cost = λ i u j v. held_cost (get_or costs (pair_at dom n i u j v) 0);
}

abbrev pub instance_in : ℕ → List ℕ → List ℕ → Instance
instance_in n sizes costs = instance_by (dom_in n sizes) n costs

-- 02: "For every lotting, floor plus total"; forbidden where it has a barred pair
abbrev pub worth : ℕ → List ℕ → Held → List ℕ → Cost
worth n sizes h l = Some h.floor ⊕ total (instance_in n sizes h.costs) l
