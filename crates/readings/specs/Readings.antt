-- The table of lines of wool whose mean fibre diameters were read. Document 02, job 1, "Costs from the readings". Assumes nothing.
use Rattle.std.specs.Prelude.{ℕ, suc, ◌*◌, ◌/◌, Bool, cond, not, ◌&&◌, List, [], ◌∷◌, ltb, leb, eqb, length, get_or, Some}
use Rattle.base.specs.{declared.Length.Length, Bytes.u16_at, Every.every, Limits.pair_limit, Limits.stream_size, Shape.shape_good}
use Rattle.std.specs.Prelude.{ℤ, pos, negsuc, ◌-ℤ◌}
use Rattle.table.specs.File.{answer, leaves}
use Rattle.costs.specs.{Instance.Instance, Instance.dom_in, Streamed.stream_for}

-- ---- readings

-- 02: "a reading per line in tenths of a micron, 100 to 400"
abbrev pub reading_good : ℕ → Bool
reading_good x = leb 100 x && leb x 400

-- the reading of line k + 1: two bytes each
abbrev pub reading_at : List ℕ → ℕ → ℕ
reading_at readings k = u16_at readings (2 * k)

-- ---- what two lines cost

-- 02: "For gaps 0 to 19 the schedule is .."
abbrev pub schedule : List ℕ
schedule = 0 ∷ 0 ∷ 1 ∷ 2 ∷ 4 ∷ 7 ∷ 11 ∷ 16 ∷ 22 ∷ 29 ∷ 37 ∷ 46 ∷ 56 ∷ 67 ∷ 79 ∷ 92 ∷ 106 ∷ 121 ∷ 137 ∷ 154 ∷ []

-- 02: "20 or more costs 60,000"
unfoldable pub penalty : ℕ → ℕ
penalty size = cond (ltb size 20) (get_or schedule size 0) pair_limit

-- 02: "the gap is the later line's reading less the earlier line's, below zero when finer"
abbrev pub gap : ℕ → ℕ → ℤ
gap earlier later = pos later -ℤ pos earlier

-- 02: "A negative gap costs half of its positive twin, rounded down."
unfoldable pub gap_cost : ℤ → ℕ
gap_cost (pos size) = penalty size
gap_cost (negsuc size) = penalty (suc size) / 2

-- 02: "two lines in different lots cost 0"; "A lot is the same lot when its number is the same."
abbrev pub in_lots : ℕ → ℕ → ℕ → ℕ
in_lots cost u v = cond (eqb u v) cost 0

-- ---- the table

-- n lines with their numbers of lots; the cost of lot u of line i with lot v of a later line j, never forbidden
unfoldable pub lines_of : ℕ → List ℕ → List ℕ → Instance
lines_of n sizes readings = record { n = n; dom = dom_in n sizes; unary = λ k v. 0; cost = λ i u j v. Some (in_lots (gap_cost (gap (reading_at readings i) (reading_at readings j))) u v) }

-- 02: "Readings other than one a line are 6. A reading out of range is 17, found after 5 and 6 and before any cost is made; 13 comes last."
unfoldable pub readings_refusal : ℕ → List ℕ → List ℕ → ℕ → ℕ
readings_refusal n sizes readings room =
    cond (not (shape_good n sizes)) 5
    (cond (not (eqb (length readings) (2 * n))) 6
    (cond (not (every (λ k. reading_good (reading_at readings k)) n)) 17
    (cond (ltb room stream_size) 13 0)))

-- the refusal, or 0 and the stream's length; and the lent buffer with the stream in front
unfoldable pub table_of : ℕ → List ℕ → List ℕ → ℕ → Length
table_of n sizes readings room = answer (readings_refusal n sizes readings room) (length (stream_for (lines_of n sizes readings)))

unfoldable pub table_into : ℕ → List ℕ → List ℕ → List ℕ → List ℕ
table_into n sizes readings out = leaves (readings_refusal n sizes readings (length out)) (stream_for (lines_of n sizes readings)) out
