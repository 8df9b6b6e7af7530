-- `known_h` meets its contract: the number of a value that is known, and else what `later_cost` gives.
-- Assumes nothing.
use Rattle.std.proofs.Common.{sym, ◌∙◌}
use Rattle.costs.specs.Instance.{view_from}
use Rattle.costs.specs.Knowing.{h_unknown, h_known}
use Rattle.costs.proofs.known_h.Goals as goal

pub returns-then-is_value : goal.returns-then-is_value
returns-then-is_value c =
    let a = c.args in
    (c.ahead_cost.ensures.0 ∙ h_known (view_from a.seat a.costs.now) a.ahead.now a.v (sym c.is_value.ensures ∙ c.if-is_value.true), c.ahead_cost.ensures.1)

pub returns-else-is_value : goal.returns-else-is_value
returns-else-is_value c =
    let a = c.args in
    (c.later_cost.ensures.0 ∙ h_unknown (view_from a.seat a.costs.now) a.ahead.now a.v (sym c.is_value.ensures ∙ c.if-is_value.false), c.later_cost.ensures.1)
