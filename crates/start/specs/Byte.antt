-- What a byte of a stream does: where the stream then is, and what of it touches a unit. One byte after the other, as a block's end can split a cost.
-- 01, "Stored table": "n, then n sizes, then for pairs (1,2), (1,3) .. (n-1,n) the costs as 16-bit numbers"; 02, job 7: "the stream opens with byte
-- 200, then n, sizes, own costs unit by unit, pair costs". Costs that units have alone are a row before the first, as with a unit of one value.
-- Assumes nothing.
use Rattle.std.specs.Prelude.{ℕ, ◌+◌, ◌*◌, ◌-◌, ◌≤◌, ◌≡◌, Bool, cond, ◌&&◌, ◌||◌, List, [], ◌∷◌, ◌++◌, eqb, leb, ltb, length, get_or, set, replicate}
use Rattle.base.specs.{Limits.places, Limits.form_two, Shape.is_value, Put.put_within}
use Rattle.table.specs.Stream.{unary_good, pair_good, costs_good}
use Rattle.start.specs.declared.Reader.{Reader}
use Rattle.start.specs.declared.Stage.{Stage}
use Rattle.start.specs.declared.Stage.TheVariants.{Opening, Units, Sizes, Low, High, Whole, Long, Misshapen}

-- ---- where the stream is

-- the same, but for what is to come next
abbrev pub with_stage : Reader → Stage → Reader
with_stage r g = record { stage = g; n = r.n; sizes = r.sizes; row = r.row; unit = r.unit; left = r.left; low = r.low; refusal = r.refusal }

-- no byte is in
abbrev pub unread : Reader
unread = record { stage = Opening; n = 0; sizes = replicate places 0; row = 0; unit = 0; left = 0; low = 0; refusal = 0 }

-- how many values a row or a unit has; row 0 has one
abbrev pub values_of : List ℕ → ℕ → ℕ
values_of sizes k = get_or (1 ∷ sizes) k 0

-- before the first cost of a run
abbrev pub at_run : Reader → ℕ → ℕ → Reader
at_run r row unit = record { stage = Low; n = r.n; sizes = r.sizes; row = row; unit = unit; left = values_of r.sizes row * values_of r.sizes unit; low = 0; refusal = r.refusal }

-- behind the last cost
abbrev pub at_end : Reader → Reader
at_end r = record { stage = Whole; n = r.n; sizes = r.sizes; row = 0; unit = 0; left = 0; low = 0; refusal = r.refusal }

-- before the run of a row with a unit, where there is such a unit; else before the next row's first run, where there is one
unfoldable pub to_run : Reader → ℕ → ℕ → Reader
to_run r row unit = cond (leb unit r.n) (at_run r row unit) (cond (leb (row + 2) r.n) (at_run r (row + 1) (row + 2)) (at_end r))

-- ---- what a byte changes

-- 01, refusal 5: "n or a size not 1 to 16"
abbrev pub with_units : Reader → ℕ → ℕ → Reader
with_units r row b = cond (is_value places b)
    (record { stage = Sizes; n = b; sizes = r.sizes; row = row; unit = 0; left = 0; low = 0; refusal = r.refusal })
    (with_stage r Misshapen)

-- one size more is in
abbrev pub one_size : Reader → ℕ → Reader
one_size r b = record { stage = Sizes; n = r.n; sizes = set r.sizes r.unit b; row = r.row; unit = r.unit + 1; left = r.left; low = r.low; refusal = r.refusal }

abbrev pub with_size : Reader → ℕ → Reader
with_size r b = cond (is_value places b) (cond (ltb (r.unit + 1) r.n) (one_size r b) (to_run (one_size r b) r.row (r.row + 1))) (with_stage r Misshapen)

abbrev pub with_low : Reader → ℕ → Reader
with_low r b = record { stage = High; n = r.n; sizes = r.sizes; row = r.row; unit = r.unit; left = r.left; low = b; refusal = r.refusal }

-- check 7 of the costs of a row: those of row 0 are unary costs
abbrev pub test_of : ℕ → ℕ → Bool
test_of row = cond (eqb row 0) unary_good pair_good

-- one cost more is in
abbrev pub one_cost : Reader → ℕ → Reader
one_cost r b = record {
  stage = Low;
  n = r.n;
  sizes = r.sizes;
  row = r.row;
  unit = r.unit;
  left = r.left - 1;
  low = 0;
  refusal = cond (costs_good (test_of r.row) (r.low ∷ b ∷ []) 0 1) r.refusal 7;
}

abbrev pub with_high : Reader → ℕ → Reader
with_high r b = cond (ltb 1 r.left) (one_cost r b) (to_run (one_cost r b) r.row (r.unit + 1))

-- the first byte says the form
abbrev pub with_opening : Reader → ℕ → Reader
with_opening r b = cond (eqb b form_two) (with_stage r Units) (with_units r 1 b)

abbrev pub with_byte : Stage → Reader → ℕ → Reader
with_byte Opening r b = with_opening r b
with_byte Units r b = with_units r 0 b
with_byte Sizes r b = with_size r b
with_byte Low r b = with_low r b
with_byte High r b = with_high r b
with_byte Whole r b = with_stage r Long
with_byte Long r b = r
with_byte Misshapen r b = r

abbrev pub after_byte : Reader → ℕ → Reader
after_byte r b = with_byte r.stage r b

-- ---- what of a byte touches unit `own`

-- the byte itself, of a cost of a run that is the unit's
abbrev pub touching : ℕ → Reader → ℕ → List ℕ
touching own r b = cond (eqb r.row own || eqb r.unit own) (b ∷ []) []

-- a table of form one has no unary costs, and lends zeros: as many as the unit's size says, once it is in
abbrev pub zeros_due : ℕ → Reader → ℕ → Bool
zeros_due own r b = is_value places b && eqb r.row 1 && eqb (r.unit + 1) own

abbrev pub zeros_for : ℕ → Reader → ℕ → List ℕ
zeros_for own r b = cond (zeros_due own r b) (replicate (2 * b) 0) []

abbrev pub kept_by : Stage → ℕ → Reader → ℕ → List ℕ
kept_by Opening own r b = []
kept_by Units own r b = []
kept_by Sizes own r b = zeros_for own r b
kept_by Low own r b = touching own r b
kept_by High own r b = touching own r b
kept_by Whole own r b = []
kept_by Long own r b = []
kept_by Misshapen own r b = []

abbrev pub kept_of : ℕ → Reader → ℕ → List ℕ
kept_of own r b = kept_by r.stage own r b

-- it is written at a place of what is lent, where it fits; and the place after it, at most 32 bytes further
abbrev pub Keeps : List ℕ → ℕ → List ℕ → ℕ → List ℕ → Type 0
Keeps out at w next left = (next ≡ at + length w) × (next ≤ at + 32) × (left ≡ put_within out at w)

-- ---- bytes, one after the other

unfoldable pub after : Reader → List ℕ → Reader
after r [] = r
after r (b ∷ l) = after (after_byte r b) l

-- what of them touches the unit
unfoldable pub kept : ℕ → Reader → List ℕ → List ℕ
kept own r [] = []
kept own r (b ∷ l) = kept_of own r b ++ kept own (after_byte r b) l

-- the same written from a place on, each byte's as it comes
unfoldable pub filled : ℕ → Reader → ℕ → List ℕ → List ℕ → List ℕ
filled own r at [] out = out
filled own r at (b ∷ l) out = filled own (after_byte r b) (at + length (kept_of own r b)) l (put_within out at (kept_of own r b))

-- what is wrong with the stream where no byte is to come, 01: 5, 6, 7
abbrev pub end_by : Stage → ℕ → ℕ
end_by Opening x = 6
end_by Units x = 6
end_by Sizes x = 6
end_by Low x = 6
end_by High x = 6
end_by Whole x = x
end_by Long x = 6
end_by Misshapen x = 5

abbrev pub end_refusal : Reader → ℕ
end_refusal r = end_by r.stage r.refusal
