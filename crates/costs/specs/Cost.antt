-- A cost is a number or forbidden. 02, job 3: "Looking up a cost now gives a number or "barred", and everything that adds costs must heed it."
-- In order: costs; how they are added; the least of some; what a cost counts as where a number is asked for. Their laws are in Cost/Laws.
-- Assumes nothing.
use Rattle.std.specs.Prelude.{ℕ, zero, suc, ◌+◌, min, Bool, false, cond, ltb, eqb, Option, Some, None, unwrap_or}
use Rattle.base.specs.Limits.{NONE, forbidden_pair}
pub mod Laws

-- `costs::Cost`: a number, or none where it is forbidden
abbrev pub Cost : Type 0
Cost = Option ℕ

-- the cost that a 16-bit number of a table stands for. 02: "A pair cost of 65,535 means barred"
abbrev pub pair_cost : ℕ → Cost
pair_cost x = cond (eqb x forbidden_pair) None (Some x)

-- ---- sums: forbidden as soon as one part is

infixl 40 ◌⊕◌
abbrev pub ◌⊕◌ : Cost → Cost → Cost
Some m ⊕ Some n = Some (m + n)
Some m ⊕ None = None
None ⊕ d = None

-- f lo ⊕ f (lo + 1) ⊕ .., m of them
abbrev pub sum_from : (ℕ → Cost) → ℕ → ℕ → Cost
sum_from f lo zero = Some 0
sum_from f lo (suc m) = f lo ⊕ sum_from f (suc lo) m

-- f 0 ⊕ f 1 ⊕ .., m of them, the last one added last
abbrev pub sum_to : (ℕ → Cost) → ℕ → Cost
sum_to f zero = Some 0
sum_to f (suc m) = sum_to f m ⊕ f m

-- ---- the least, over what is not forbidden; forbidden if there is nothing else

abbrev pub lesser : Cost → Cost → Cost
lesser (Some m) (Some n) = Some (min m n)
lesser (Some m) None = Some m
lesser None d = d

-- of f 1, .., f d
abbrev pub least : (ℕ → Cost) → ℕ → Cost
least f zero = None
least f (suc d) = lesser (least f d) (f (suc d))

-- ---- where a number is asked for

-- below a bound: what is forbidden is below none. 02: "the value can't be written, even with no bound"
abbrev pub below : Cost → ℕ → Bool
below (Some n) B = ltb n B
below None B = false

-- as a message carries it. 02: "An estimate with no value left carries 4,294,967,295"
abbrev pub as_number : Cost → ℕ
as_number c = unwrap_or c NONE
