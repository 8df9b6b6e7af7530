-- `pair_cost` meets its contract: the gap of two readings is small, and its cost is taken. Assumes nothing.
use Prim.Native.Nat.{◌<◌}
use mathlib.Core.Path.{◌≡◌, sym, ap, subst, ◌∙◌}
use lib.IntN.{ℤ, nat_abs}
use mir.Syntax.{w32}
use mir.Val.{to_z, of_z}
use Rattle.readings.specs.Readings.{gap, gap_cost}
use Rattle.readings.specs.Laws.{gap_small}
use Rattle.readings.proofs.Signed.{reads_back}
use Rattle.readings.proofs.gap.pair_cost.Goals as goal
use Rattle.readings.proofs.gap.pair_cost.Goals.{After-gap_of}

small : (c : After-gap_of) → let a = c.args in nat_abs (gap a.earlier a.later) < 65536
small c = gap_small c.args.earlier c.args.later c.requires.0 c.requires.1

same : (c : After-gap_of) → let a = c.args in to_z w32 (of_z w32 c.gap_of.result) ≡ gap a.earlier a.later
same c = reads_back c.gap_of.result (gap c.args.earlier c.args.later) c.gap_of.ensures (small c)

pub gap_cost-requires : goal.gap_cost-requires
gap_cost-requires c =
    let past = goal.at.gap_cost-requires c in
    subst (λ (z : ℤ). nat_abs z < 65536) (sym (same past.After-gap_of)) (small past.After-gap_of)

pub returns : goal.returns
returns c = (c.gap_cost.ensures.0 ∙ ap gap_cost (same (goal.at.returns c).After-gap_of), c.gap_cost.ensures.1)
