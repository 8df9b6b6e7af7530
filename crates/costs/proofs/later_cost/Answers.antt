-- `later_cost` meets its contract: h of a value is in its runs, and of what is no value in runs of no bytes.
-- Assumes nothing.
use Rattle.std.proofs.Common.{sym, ◌∙◌}
use Rattle.costs.specs.Lent.Steps.{later_value, later_no_value}
use Rattle.costs.proofs.later_cost.Goals as goal

pub returns-then-is_value : goal.returns-then-is_value
returns-then-is_value c =
    let a = c.args in
    let q = sym c.is_value.ensures ∙ c.if-is_value.true in
    let value = later_value a.seat a.costs.now a.v (rw (c.size_of.ensures.0, c.place.ensures.0) at q) in
    (c.least_runs.ensures.0 ∙ sym value, c.least_runs.ensures.1)

pub returns-else-is_value : goal.returns-else-is_value
returns-else-is_value c =
    let a = c.args in
    let q = sym c.is_value.ensures ∙ c.if-is_value.false in
    let none = later_no_value a.seat a.costs.now a.v 1 (rw (c.size_of.ensures.0, c.place.ensures.0) at q) in
    (c.least_runs-else-is_value.ensures.0 ∙ sym none, c.least_runs-else-is_value.ensures.1)
