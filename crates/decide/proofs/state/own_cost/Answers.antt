-- `own_cost` meets its contract: the value's costs are taken at the unit's place, and no value costs nothing.
-- Assumes nothing.
use mathlib.Core.Path.{ap, ◌∙◌}
use Rattle.costs.specs.Cost.{as_number}
use Rattle.decide.proofs.Lent.{own-cost-lent, no_value_no_cost}
use Rattle.decide.proofs.state.own_cost.Goals as goal

pub returns-then-value-eq0 : goal.returns-then-value-eq0
returns-then-value-eq0 c = λ ahead u e. let a = c.args in no_value_no_cost a.seat a.costs.now ahead u (rw e (rw c.from.ensures at c.if-value-eq0.true))

pub returns : goal.returns
returns c = λ ahead u e. let a = c.args in c.as_number.ensures ∙ ap as_number c.cost_with.ensures ∙ rw (c.from.ensures, ← e) (own-cost-lent a.seat a.costs.now ahead u)
