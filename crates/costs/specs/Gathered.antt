-- The bytes of the costs that touch one unit, 02, job 7: "A unit's own costs are lent before its pair costs."; 01: "by the other unit ascending,
-- each pair in the stream's order". Nobody has to believe it: that the unit sees in them what the stream says is `gathered-view` of Gather/Laws.
-- Assumes nothing.
use Rattle.std.specs.Prelude.{ℕ, ◌+◌, ◌*◌, pred, cond, List, [], ◌++◌, ltb, eqb, take, drop, replicate}
use Rattle.base.specs.{Join.join_to, Sums.sum_to}
use Rattle.table.specs.Stream.{in_form_two, units_of, unaries_at, pairs_at}
use Rattle.costs.specs.Instance.{dom_of, pair_start}

-- the bytes of the unary costs of the unit at place k: a stream of form one has none, and lends zeros
abbrev pub unary_bytes : List ℕ → ℕ → List ℕ
unary_bytes s k = cond (in_form_two s) (take (2 * dom_of s k) (drop (unaries_at s + 2 * sum_to (dom_of s) k) s)) (replicate (2 * dom_of s k) 0)

-- the bytes of the costs of the pair (i, j), i before j
abbrev pub pair_bytes : List ℕ → ℕ → ℕ → List ℕ
pair_bytes s i j = take (2 * (dom_of s i * dom_of s j)) (drop (pairs_at s + 2 * pair_start (dom_of s) (units_of s) i j) s)

-- the bytes of the costs of the units at places k and j
abbrev pub with_other : List ℕ → ℕ → ℕ → List ℕ
with_other s k j = cond (eqb j k) [] (cond (ltb j k) (pair_bytes s j k) (pair_bytes s k j))

-- those of place k, alone and with the first m places
abbrev pub gather_to : List ℕ → ℕ → ℕ → List ℕ
gather_to s k m = unary_bytes s k ++ join_to (with_other s k) m

-- the bytes of the costs that touch unit `own`, 1 to n
unfoldable pub gathered : List ℕ → ℕ → List ℕ
gathered s own = gather_to s (pred own) (units_of s)
