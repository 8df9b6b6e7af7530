-- `shed_core::states::Member::place_asked` meets its contract: no value's place is below 1. Assumes nothing.
use Rattle.std.proofs.Common.{pred, leb, sym, ap, ◌∙◌, arith, le-leb}
use Rattle.costs.specs.Instance.{View, view_by, instance_of}
use Rattle.costs.specs.Order.{place_tried}
use Rattle.costs.specs.Order.Laws.{place_of_none, place-least}
use Rattle.shed_core.proofs.states.Member.place_asked.Goals as goal

pub returns-then-v-eq0 : goal.returns-then-v-eq0
returns-then-v-eq0 c =
    let a = c.args in
    let w : View = view_by a.order (instance_of a.self.now.stream.now) (pred a.self.now.own) in
    rw (c.if-v-eq0.true, place_of_none w)

pub returns-then-counter-le1 : goal.returns-then-counter-le1
returns-then-counter-le1 c =
    let a = c.args in
    let w : View = view_by a.order (instance_of a.self.now.stream.now) (pred a.self.now.own) in
    le-leb a.counter 1 c.if-counter-le1.true ∙ sym (le-leb a.counter (place_tried w a.v) (omega (arith, c.if-counter-le1.true, place-least w a.v (omega (arith, c.if-v-eq0.false)))))

pub returns-else-counter-le1 : goal.returns-else-counter-le1
returns-else-counter-le1 c = ap (λ p. leb c.args.counter p) c.place_tried.ensures
