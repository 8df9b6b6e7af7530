-- `gap_cost` meets its contract, by the gap's sign. Assumes nothing.
use mathlib.Core.Path.{◌≡◌, sym, ap, subst, ◌∙◌}
use mathlib.Core.Bool.{true}
use native.Mathlib.Omega.{arith}
use lib.IntN.{ℤ, pos, neg_ℤ, ◌-ℤ◌}
use lib.Signed.{◌≤ℤ◌, lt_z}
use mir.Syntax.{w32}
use mir.Val.{SFits, to_z, of_z}
use mir.ValLaws.{to_z-of_z}
use Rattle.readings.proofs.Signed.{small_fits, from_zero, negated_small, cost_below, twin_above, not_below, cost_above, reads_back}
use Rattle.readings.proofs.gap.gap_cost.Goals as goal
use Rattle.readings.proofs.gap.gap_cost.Goals.{Start, Then-gap-lt0}

-- the gap, as it is read back
same : (c : Start) → to_z w32 (of_z w32 c.args.gap) ≡ c.args.gap
same c = to_z-of_z w32 c.args.gap c.ranges.gap

-- its positive twin
twin : (c : Start) → pos 0 -ℤ to_z w32 (of_z w32 c.args.gap) ≡ neg_ℤ c.args.gap
twin c = ap (λ (z : ℤ). pos 0 -ℤ z) (same c) ∙ from_zero c.args.gap

twin-back : (c : Start) → to_z w32 (of_z w32 (pos 0 -ℤ to_z w32 (of_z w32 c.args.gap))) ≡ neg_ℤ c.args.gap
twin-back c = reads_back _ (neg_ℤ c.args.gap) (twin c) (negated_small c.args.gap c.requires)

below : (c : Then-gap-lt0) → lt_z c.args.gap (pos 0) ≡ true
below c = ap (λ (z : ℤ). lt_z z (pos 0)) (sym (same (goal.at.Then-gap-lt0 c).Start)) ∙ c.if-gap-lt0.true

pub overflow_sub-gap : goal.overflow_sub-gap
overflow_sub-gap c = subst (λ (z : ℤ). SFits w32 z) (sym (twin (goal.at.overflow_sub-gap c).Start)) (small_fits (neg_ℤ c.args.gap) (negated_small c.args.gap c.requires))

pub size_of-requires : goal.size_of-requires
size_of-requires c =
    let past = goal.at.size_of-requires c in
    subst (λ (z : ℤ). pos 0 ≤ℤ z) (sym (twin-back past.Start)) (twin_above c.args.gap (below past.Then-gap-lt0))

pub returns-then-gap-lt0 : goal.returns-then-gap-lt0
returns-then-gap-lt0 c =
    let past = goal.at.returns-then-gap-lt0 c in
    (cost_below c.args.gap c.size_of.result c.penalty.result (below past.Then-gap-lt0) (c.size_of.ensures ∙ twin-back past.Start) c.penalty.ensures.0, omega (arith, c.penalty.ensures.1))

pub size_of-requires-2 : goal.size_of-requires-2
size_of-requires-2 c = not_below (to_z w32 (of_z w32 c.args.gap)) c.if-gap-lt0.false

pub returns : goal.returns
returns c =
    (cost_above c.args.gap c.size_of-2.result c.penalty-2.result (c.size_of-2.ensures ∙ same (goal.at.returns c).Start) c.penalty-2.ensures.0, c.penalty-2.ensures.1)
