-- What the two searches give. 01: ".. gives the least total with its first lotting in ascending order." 02: "If no lotting remains, stop and
-- bench give *none* with best all zero." They differ in what they refuse alone.
-- costs/specs/Least says of the answer, without a search, which one it is; specs/Best is the search. Assumes nothing.
use Rattle.std.specs.Prelude.{ℕ, cond, List, ltb, eqb, replicate, Result, Ok, Err}
use Rattle.base.specs.Limits.{search_limit}
use Rattle.base.specs.{Refusal.number_of, declared.Refusal.Refusal}
use Rattle.table.specs.Stream.{stream_refusal}
use Rattle.costs.specs.{Instance.Instance, Instance.instance_of, Bounds.prefix_count}
use Rattle.search.specs.{declared.Found.Found, declared.Best.Best, Best.best_of}

-- ---- the two answers

abbrev pub refused_by : ℕ → Found
refused_by k = record { refusal = k; total = 0; values = replicate 16 0 }

abbrev pub found_best : Best → Found
found_best b = record { refusal = 0; total = b.total; values = b.values }

-- as C has it what a search found, or the refusal
abbrev pub found_by : Result Best Refusal → Found
found_by (Ok b) = found_best b
found_by (Err r) = refused_by (number_of r)

-- k is the refusal, or 0
abbrev pub answer_by : ℕ → List ℕ → Found
answer_by k s = cond (eqb k 0) (found_best (best_of (instance_of s))) (refused_by k)

-- ---- the exhaustive search

-- how many there are by the domain sizes alone. 02: "The bench counts barred lottings among its 1,048,576."
abbrev pub assignment_count : Instance → ℕ
assignment_count I = prefix_count I.dom I.n

-- 01: "Bench: 5, 6, 7, 16", and 16 is "more than 1,048,576 lottings"
unfoldable pub search_refusal : List ℕ → ℕ
search_refusal s = cond (eqb (stream_refusal s) 0) (cond (ltb search_limit (assignment_count (instance_of s))) 16 0) (stream_refusal s)

unfoldable pub search_of : List ℕ → Found
search_of s = answer_by (search_refusal s) s

-- ---- synchronous branch and bound

-- 02, job 6: "On every accepted table it gives the least total with its first lotting in ascending order, as the full search does where it takes
-- the table. It has no limit on lottings, so 16 isn't given here."
unfoldable pub branch_and_bound_of : List ℕ → Found
branch_and_bound_of s = answer_by (stream_refusal s) s
