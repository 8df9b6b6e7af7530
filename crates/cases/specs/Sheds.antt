-- The small sheds that document 01's cases speak of, as streams.
-- Assumes nothing.
use Rattle.std.specs.Prelude.{ℕ, List, [], ◌∷◌, ◌++◌, length, replicate}
use Rattle.base.specs.Bytes.{le16}

abbrev cost_bytes : List ℕ → List ℕ
cost_bytes [] = []
cost_bytes (c ∷ l) = le16 c ++ cost_bytes l

-- 01: "n, then n sizes, then .. the costs as 16-bit numbers"
abbrev pub stream_with : List ℕ → List ℕ → List ℕ
stream_with sizes costs = length sizes ∷ sizes ++ cost_bytes costs

-- 02, job 7: "the stream opens with byte 200, then n, sizes, own costs unit by unit, pair costs"
abbrev pub stream_two : List ℕ → List ℕ → List ℕ → List ℕ
stream_two sizes unaries costs = 200 ∷ length sizes ∷ sizes ++ cost_bytes unaries ++ cost_bytes costs

-- 01: "Table T: n = 2, sizes 2 and 2, costs 5, 3, 2, 4"
abbrev pub stream_t : List ℕ
stream_t = stream_with (2 ∷ 2 ∷ []) (5 ∷ 3 ∷ 2 ∷ 4 ∷ [])

-- two units of one value each, at the cost c
abbrev pub pair_at : ℕ → List ℕ
pair_at c = stream_with (1 ∷ 1 ∷ []) (c ∷ [])

-- one unit of one value, at the unary cost c
abbrev pub alone_at : ℕ → List ℕ
alone_at c = stream_two (1 ∷ []) (c ∷ []) []

-- T, where unit 1's value 2 costs 2 alone
abbrev pub priced_t : List ℕ
priced_t = stream_two (2 ∷ 2 ∷ []) (0 ∷ 2 ∷ 0 ∷ 0 ∷ []) (5 ∷ 3 ∷ 2 ∷ 4 ∷ [])

-- n units of one value each, their m costs 0
abbrev pub single : ℕ → ℕ → List ℕ
single n m = stream_with (replicate n 1) (replicate m 0)
