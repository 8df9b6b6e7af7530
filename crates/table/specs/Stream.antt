-- The stream of a table: n, the n sizes, in form two the unary costs (02: "own costs"), the costs of all pairs; and what is wrong with a list
-- that is none. Document 01, "Stored table" and refusals 5, 6, 7; 02, job 7. The facts about these are in StreamLaws. Assumes nothing.
use Rattle.std.specs.Prelude.{ℕ, zero, suc, ◌+◌, ◌*◌, Bool, true, cond, ◌&&◌, ◌||◌, List, [], ◌∷◌, ◌≡◌, eqb, leb, length, get_or, take, drop}
use Rattle.base.specs.{Limits.form_two, Limits.pair_limit, Limits.forbidden_pair, Limits.unary_limit, Bytes.u16_at, Shape.shape_good}

-- 02, job 7: "Stored form two: the stream opens with byte 200, then n, sizes, own costs unit by unit, pair costs"
abbrev pub in_form_two : List ℕ → Bool
in_form_two s = eqb (get_or s 0 0) form_two

-- how many bytes stand before n: that one, or none
unfoldable pub opening : List ℕ → ℕ
opening s = cond (in_form_two s) 1 0

-- 01: "n, then n sizes". In a shorter stream, the sizes that are present.
abbrev pub units_of : List ℕ → ℕ
units_of s = get_or s (opening s) 0

abbrev pub after_units : List ℕ → List ℕ
after_units s = drop (opening s + 1) s

abbrev pub sizes_of : List ℕ → List ℕ
sizes_of s = take (units_of s) (after_units s)

unfoldable pub sum_list : List ℕ → ℕ
sum_list [] = 0
sum_list (d ∷ ds) = d + sum_list ds

-- 02: "Each unit gets a cost per value": how many unary costs the stream needs; one of form one has none
unfoldable pub unaries_in : List ℕ → ℕ
unaries_in s = cond (in_form_two s) (sum_list (sizes_of s)) 0

-- 01: "Each pair i < j has a cost .. for each value of i and of j": how many costs these sizes need
unfoldable pub pairs_in : List ℕ → ℕ
pairs_in [] = 0
pairs_in (d ∷ ds) = d * sum_list ds + pairs_in ds

-- the bytes at which unary costs and pair costs begin, and how many bytes there are
abbrev pub unaries_at : List ℕ → ℕ
unaries_at s = opening s + 1 + units_of s

abbrev pub pairs_at : List ℕ → ℕ
pairs_at s = unaries_at s + 2 * unaries_in s

abbrev pub needed : List ℕ → ℕ
needed s = pairs_at s + 2 * pairs_in (sizes_of s)

-- 01: "Each pair i < j has a cost, 0 to 60,000"; 02, job 3: "A pair cost of 65,535 means barred, and check 7 lets that number through for pairs."
unfoldable pub pair_good : ℕ → Bool
pair_good x = leb x pair_limit || eqb x forbidden_pair

-- 02, job 7: "0 to 60,000, never barred"
unfoldable pub unary_good : ℕ → Bool
unary_good x = leb x unary_limit

-- 01: "the costs as 16-bit numbers": the m that stand in s from byte k on pass check 7
unfoldable pub costs_good : (ℕ → Bool) → List ℕ → ℕ → ℕ → Bool
costs_good good s k zero = true
costs_good good s k (suc m) = good (u16_at s k) && costs_good good s (k + 2) m

-- 01: "In a stream too short for n or the sizes, those present are checked by 5, then it is 6"
unfoldable pub stream_refusal : List ℕ → ℕ
stream_refusal s =
    cond (leb (length s) (opening s)) 6
    (cond (shape_good (units_of s) (after_units s))
    (cond (eqb (length s) (needed s))
    (cond (costs_good unary_good s (unaries_at s) (unaries_in s) && costs_good pair_good s (pairs_at s) (pairs_in (sizes_of s))) 0 7)
    6)
    5)

-- the stream passes 5, 6 and 7
unfoldable pub Accepted : List ℕ → Type 0
Accepted s = stream_refusal s ≡ 0
