-- `limits_kept` meets its contract: there are 16 places of each. Assumes nothing.
use Rattle.std.specs.Prelude.{◌≡◌, true, false, length}
use Rattle.std.proofs.Common.{rules, sym, ◌∙◌}
use Rattle.base.specs.Limits.{estimate_limit}
use Rattle.rules.specs.State.{all_at_most}
use Rattle.decide.proofs.Ranges.{sixteen_at_most}
use Rattle.decide.proofs.state.limits_kept.Goals as goal

pub returns-then-thresholds_kept : goal.returns-then-thresholds_kept
returns-then-thresholds_kept c =
    let a = c.args in
    let places : length a.threshold.now ≡ 16 = search rules in
    let also : length a.estimates.now ≡ 16 = search rules in
    let t : all_at_most 17 a.threshold.now ≡ true = sym (sixteen_at_most 17 a.threshold.now places) ∙ sym c.thresholds_kept.ensures ∙ c.if-thresholds_kept.true in
    rw t (c.estimates_kept.ensures ∙ sixteen_at_most estimate_limit a.estimates.now also)

pub returns-else-thresholds_kept : goal.returns-else-thresholds_kept
returns-else-thresholds_kept c =
    let a = c.args in
    let places : length a.threshold.now ≡ 16 = search rules in
    let t : all_at_most 17 a.threshold.now ≡ false = sym (sixteen_at_most 17 a.threshold.now places) ∙ sym c.thresholds_kept.ensures ∙ c.if-thresholds_kept.false in
    rw (t, c.if-thresholds_kept.false)
