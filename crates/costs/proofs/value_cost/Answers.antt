-- `value_cost` meets its contract: a part that is forbidden makes the sum so, and two numbers are added.
-- Assumes nothing.
use Rattle.std.proofs.Common.{◌≡◌, sym, ◌∙◌}
use Rattle.costs.specs.Instance.{view_from, view_knowing}
use Rattle.costs.specs.Bounds.{cost_with}
use Rattle.costs.specs.Knowing.{cost-knowing}
use Rattle.costs.proofs.value_cost.Goals as goal
use Rattle.costs.proofs.value_cost.Goals.{After-prefix_cost}

-- known h changes no cost
cost-is : (c : After-prefix_cost) → let a = c.args in c.prefix_cost.result ≡ cost_with (view_knowing a.seat a.costs.now a.ahead.now) a.values a.k a.v
cost-is c = let a = c.args in c.prefix_cost.ensures.0 ∙ sym (cost-knowing (view_from a.seat a.costs.now) a.ahead.now a.values a.k a.v)

pub returns-in_err-cost : goal.returns-in_err-cost
returns-in_err-cost c = rw c.from_residual.ensures (rw (← cost-is (goal.at.returns-in_err-cost c).After-prefix_cost, c.in_err-cost.was))

pub returns : goal.returns
returns c = rw (← cost-is (goal.at.returns c).After-prefix_cost, c.in_ok-cost.was, ← c.known_h.ensures.0, c.in_ok-later.was)
