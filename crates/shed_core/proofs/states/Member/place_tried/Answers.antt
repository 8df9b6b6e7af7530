-- `shed_core::states::Member::place_tried` meets its contract: ascending, a value is its own place; by rising h, its own function has it.
-- Assumes nothing.
use Rattle.std.proofs.Common.{pred, sym, ap, ◌∙◌}
use Rattle.costs.specs.declared.ValueOrder.{ValueOrder}
use Rattle.costs.specs.Instance.{View, view_by, instance_of}
use Rattle.costs.specs.Order.{place_tried}
use Rattle.costs.specs.Order.Laws.{ascending_place}
use Rattle.shed_core.proofs.states.Member.place_tried.Goals as goal

pub returns-in-Ascending : goal.returns-in-Ascending
returns-in-Ascending c =
    let a = c.args in
    let w : View = view_by a.order (instance_of a.self.now.stream.now) (pred a.self.now.own) in
    c.from.ensures ∙ sym (ascending_place w c.in-Ascending.is a.v)

pub returns-in-CheapestFirst : goal.returns-in-CheapestFirst
returns-in-CheapestFirst c =
    let a = c.args in
    c.place_by_h.ensures ∙ ap (λ (o : ValueOrder). place_tried (view_by o (instance_of a.self.now.stream.now) (pred a.self.now.own)) a.v) (sym c.in-CheapestFirst.is)
