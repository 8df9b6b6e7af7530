-- The stream, of form one, of an instance whose unary costs are zero. 01: "n, then n sizes, then for pairs (1,2), (1,3) .. (n-1,n) the costs as
-- 16-bit numbers, by the value of the lower unit, then of the higher." Nobody has to believe it: Streamed/Laws shows that it is accepted, and
-- that its instance is the one it was made of. Assumes nothing.
use Rattle.std.specs.Prelude.{ℕ, suc, ◌+◌, ◌-◌, List, [], ◌∷◌, ◌++◌, Some, None}
use Rattle.base.specs.{Bytes.le16, Join.join_to, Limits.forbidden_pair}
use Rattle.costs.specs.Cost.{Cost}
use Rattle.costs.specs.Instance.{Instance}
pub mod Laws

-- the number that a cost stands in a table as
abbrev pub pair_number : Cost → ℕ
pair_number (Some x) = x
pair_number None = forbidden_pair

-- the costs of value u + 1 of unit i with each value of unit j
abbrev pub row_costs : Instance → ℕ → ℕ → ℕ → List ℕ
row_costs I i j u = join_to (λ v. le16 (pair_number (I.cost i (suc u) j (suc v)))) (I.dom j)

-- of every value of unit i
abbrev pub pair_costs : Instance → ℕ → ℕ → List ℕ
pair_costs I i j = join_to (row_costs I i j) (I.dom i)

-- of unit i with every later unit
abbrev pub later_costs : Instance → ℕ → List ℕ
later_costs I i = join_to (λ k. pair_costs I i (suc i + k)) (I.n - suc i)

abbrev pub sizes_for : Instance → List ℕ
sizes_for I = join_to (λ k. I.dom k ∷ []) I.n

unfoldable pub stream_for : Instance → List ℕ
stream_for I = I.n ∷ (sizes_for I ++ join_to (later_costs I) I.n)
