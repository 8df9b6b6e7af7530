-- `gap_of` meets its contract: the machine reads the two numbers back, and their difference is small. Assumes nothing.
use mathlib.Core.Path.{◌≡◌, sym, ap, subst, ◌∙◌}
use lib.IntN.{ℤ, pos, ◌-ℤ◌}
use mir.Syntax.{w32}
use mir.Val.{SFits, to_z, of_z}
use Rattle.readings.specs.Readings.{gap}
use Rattle.readings.specs.Laws.{gap_small}
use Rattle.readings.proofs.Signed.{small_fits, reads_back}
use Rattle.readings.proofs.gap.gap_of.Goals as goal
use Rattle.readings.proofs.gap.gap_of.Goals.{After-signed-2}

difference : (c : After-signed-2) → to_z w32 (of_z w32 c.signed.result) -ℤ to_z w32 (of_z w32 c.signed-2.result) ≡ gap c.args.earlier c.args.later
difference c =
    ap (λ (z : ℤ). z -ℤ to_z w32 (of_z w32 c.signed-2.result)) (reads_back c.signed.result (pos c.args.later) c.signed.ensures c.requires.1)
    ∙ ap (λ (z : ℤ). pos c.args.later -ℤ z) (reads_back c.signed-2.result (pos c.args.earlier) c.signed-2.ensures c.requires.0)

small : (c : After-signed-2) → SFits w32 (gap c.args.earlier c.args.later)
small c =
    small_fits (gap c.args.earlier c.args.later) (gap_small c.args.earlier c.args.later c.requires.0 c.requires.1)

pub overflow_sub-result : goal.overflow_sub-result
overflow_sub-result c =
    let past = goal.at.overflow_sub-result c in
    subst (λ (z : ℤ). SFits w32 z) (sym (difference past.After-signed-2)) (small past.After-signed-2)

pub returns : goal.returns
returns c =
    reads_back _ (gap c.args.earlier c.args.later) (difference (goal.at.returns c).After-signed-2) (gap_small c.args.earlier c.args.later c.requires.0 c.requires.1)
