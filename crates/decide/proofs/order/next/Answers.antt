-- `next` meets its contract: by the seat's order, either way of finding the value.
-- Assumes nothing.
use mathlib.Core.Path.{◌∙◌}
use Rattle.costs.specs.Instance.{view_knowing}
use Rattle.decide.proofs.Lent.{order-lent, dom-lent}
use Rattle.decide.proofs.order.next.Goals as goal

pub returns-in-Ascending : goal.returns-in-Ascending
returns-in-Ascending c =
    let seat = c.args.seat in
    (λ costs ahead known. c.number_after.ensures.1 (view_knowing seat costs ahead) (order-lent seat costs ahead ∙ c.in-Ascending.is) (rw c.from.ensures (dom-lent seat costs ahead c.requires.0.number.first c.requires.0.within)), rw c.from.ensures at c.number_after.ensures.0)

pub returns-in-CheapestFirst : goal.returns-in-CheapestFirst
returns-in-CheapestFirst c =
    let seat = c.args.seat in
    (λ costs ahead known. c.cheapest_after.ensures.1 (view_knowing seat costs ahead) (order-lent seat costs ahead ∙ c.in-CheapestFirst.is) (rw c.from.ensures (dom-lent seat costs ahead c.requires.0.number.first c.requires.0.within)) known, rw c.from.ensures at c.cheapest_after.ensures.0)
