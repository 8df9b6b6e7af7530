-- `size_of` meets its contract. The gap is not below zero, so the cast is defined, and its result is the gap's natural number.
-- Assumes nothing.
use mathlib.Core.Path.{sym, subst, ◌∙◌}
use native.Mathlib.Nat.{lt_of_le_of_lt}
use lib.IntN.{ℤ, pos, nat_abs}
use lib.Dec.{lit<}
use lib.Signed.{◌≤ℤ◌, yes_non_neg, pos-nat_abs, nat_abs-le}
use mir.Syntax.{w32, w64}
use mir.Val.{Fits, to_z, of_z}
use mir.ValLaws.{to_z-of_z}
use Rattle.readings.proofs.gap.size_of.Goals as goal
use Rattle.readings.proofs.gap.size_of.Goals.{Start}

-- what the machine reads back from the bits of the gap is not below zero
read_back : (c : Start) → pos 0 ≤ℤ to_z w32 (of_z w32 c.args.gap)
read_back c = subst (λ (z : ℤ). pos 0 ≤ℤ z) (sym (to_z-of_z w32 c.args.gap c.ranges.gap)) c.requires

pub overflow_cast-result : goal.overflow_cast-result
overflow_cast-result c = (yes_non_neg (read_back (goal.at.overflow_cast-result c).Start), subst (λ (z : ℤ). Fits w64 (nat_abs z)) (sym (to_z-of_z w32 c.args.gap c.ranges.gap)) (record { fits = lt_of_le_of_lt (nat_abs-le c.args.gap c.ranges.gap.sfits) (lit< tt) }))

pub returns : goal.returns
returns c = pos-nat_abs _ (yes_non_neg (read_back (goal.at.returns c).Start)) ∙ to_z-of_z w32 c.args.gap c.ranges.gap
