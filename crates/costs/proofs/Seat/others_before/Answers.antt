-- `others_before` meets its contract: all sizes before place j, less the own one if it is among them.
-- Assumes nothing.
use Rattle.std.proofs.Common.{◌≡◌, ◌+◌, sym, ap, ◌∙◌, arith}
use Rattle.costs.specs.Lent.Parts.{others_before, dom_from}
use Rattle.costs.specs.Lent.Steps.{others_none, others_all}
use Rattle.costs.proofs.Seat.others_before.Goals as goal
use Rattle.costs.proofs.Seat.others_before.Goals.{After-size_of}

pub returns-then-j-place : goal.returns-then-j-place
returns-then-j-place c =
    let a = c.args in
    (c.sum_sizes-all.ensures.0 ∙ others_none a.self a.j (omega (arith, c.place-place.ensures.0)), c.sum_sizes-all.ensures.1)

-- the own size is among them
whole : (c : After-size_of) → let a = c.args in c.sum_sizes-all.result ≡ others_before a.self a.j + c.size_of.result
whole c =
    let a = c.args in
    let p = c.place-place in
    c.sum_sizes-all.ensures.0
    ∙ others_all a.self a.j (omega (arith, p.ensures.0))
    ∙ ap (λ x. others_before a.self a.j + x) (ap (dom_from a.self) (sym p.ensures.0) ∙ sym c.size_of.ensures.0)

pub overflow_sub-result : goal.overflow_sub-result
overflow_sub-result c = omega (arith, whole (goal.at.overflow_sub-result c).After-size_of)

pub returns-else-j-place : goal.returns-else-j-place
returns-else-j-place c = (omega (arith, whole (goal.at.returns-else-j-place c).After-size_of), omega (arith, c.sum_sizes-all.ensures.1))
