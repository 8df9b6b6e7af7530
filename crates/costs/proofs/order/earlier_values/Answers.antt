-- `earlier_values` meets its contract. The loop's invariant: the count is of the first i values.
-- Assumes nothing.
use Rattle.std.proofs.Common.{◌≡◌, ◌≤◌, Bool, true, false, cond, refl, sym, ap, ◌∙◌, arith}
use mir.Val.{bool_byte}
use Rattle.costs.specs.Instance.{view_knowing}
use Rattle.costs.specs.Lent.Parts.{dom_from, earlier_up_to}
use Rattle.costs.specs.Lent.Steps.{earlier_none, earlier_more}
use Rattle.costs.proofs.order.earlier_values.Goals as goal

pub loop-i-init : goal.loop-i-init
loop-i-init c =
    let a = c.args in
    (omega arith, sym (earlier_none (view_knowing a.seat a.costs.now a.ahead.now) a.v))

-- a test as a number
byte_is : (b : Bool) → bool_byte b ≡ cond b 1 0
byte_is true = refl
byte_is false = refl

one_at_most : (b : Bool) → bool_byte b ≤ 1
one_at_most true = omega arith
one_at_most false = omega arith

pub loop-i-preserved : goal.loop-i-preserved
loop-i-preserved c =
    let a = c.args in
    let l = c.loop-i in
    let more = earlier_more (view_knowing a.seat a.costs.now a.ahead.now) a.v l.i in
    (omega (arith, c.from-count.ensures, one_at_most c.comes_first.result), rw (more, c.from-count.ensures, c.comes_first.ensures, c.known_h.ensures.0, c.known_h-later.ensures.0, l.invariant.1, byte_is))

pub returns : goal.returns
returns c =
    let a = c.args in
    let l = c.loop-i in
    let e : l.i ≡ c.size_of-d.result = omega arith in
    (l.invariant.1 ∙ ap (earlier_up_to (view_knowing a.seat a.costs.now a.ahead.now) a.v) (e ∙ c.size_of-d.ensures.0 ∙ ap (dom_from a.seat) c.place.ensures.0), omega (arith, c.size_of-d.ensures.1))
