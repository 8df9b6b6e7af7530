-- `project_all` meets its contract: the values' projections, then the units'.
-- Assumes nothing.
use mathlib.Core.Path.{◌∙◌}
use Rattle.projections.specs.All.Steps.{all_is}
use Rattle.projections.proofs.all.project_all.Goals as goal

pub returns : goal.returns
returns c =
    let a = c.args in
    all_is a.n a.sizes a.costs.now c.told-refusal.result a.floor c.project_units-moved.result c.project_floor.result c.project_units-moved.new.costs c.project_floor.new.costs (c.told-refusal.ensures ∙ c.check_lent.ensures) c.project_units-moved.ensures.0 c.project_units-moved.ensures.1 c.project_floor.ensures.0 c.project_floor.ensures.1
