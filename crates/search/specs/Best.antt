-- The exhaustive search. 01: "The bench search goes unit by unit, each choice handing on to the next unit's, and gives the least total
-- with its first lotting in ascending order." Every choice of all values is totalled on its own here; the code carries the cost of what is chosen
-- and goes no further where that is forbidden. Branch and bound (02, job 6) is the same search that goes no further where that cost reaches the best total,
-- and so has the same answer (`best_reached` of specs/Steps).
-- Nobody has to believe it: that the answer is the one that costs/specs/Least describes, and no other, is in specs/Laws. Assumes nothing.
use Rattle.std.specs.Prelude.{ℕ, zero, suc, cond, List, ltb, set, replicate}
use Rattle.base.specs.Limits.{NONE}
use Rattle.costs.specs.{Instance.Instance, Cost.as_number, Bounds.total}
use Rattle.search.specs.declared.Best.{Best}

-- no assignment yet. 02: "*none* with best all zero"
abbrev pub nothing : Best
nothing = record { values = replicate 16 0; total = NONE }

-- the values l, which total t, take b's place only where t is lower: the first of equal totals stays
abbrev pub keep : Best → ℕ → List ℕ → Best
keep b t l = cond (ltb t b.total) (record { values = l; total = t }) b

-- f at v, v + 1, .., d of them in that order
unfoldable pub in_turn : {A : Type 0} → (ℕ → A → A) → ℕ → ℕ → A → A
in_turn f v zero a = a
in_turn f v (suc d) a = in_turn f (suc v) d (f v a)

-- The best of b and of the assignments that begin with the first k values of l, where `left` units come after these:
-- each value of unit k, ascending, with the best of the units after it. 02: "A lotting with a barred pair isn't a lotting": its total counts as
-- NONE, and so is never lower.
unfoldable pub best_from : Instance → ℕ → ℕ → List ℕ → Best → Best
best_from I zero k l b = keep b (as_number (total I l)) l
best_from I (suc left) k l b = in_turn (λ (v : ℕ) (a : Best). best_from I left (suc k) (set l k v) a) 1 (I.dom k) b

-- over all of them
abbrev pub best_of : Instance → Best
best_of I = best_from I I.n 0 (replicate 16 0) nothing
