-- `least_cost` meets its contract. The loop's invariant: the best is the least of the values up to i, as a number.
-- Assumes nothing.
use Rattle.std.proofs.Common.{◌≡◌, ◌+◌, ◌≤◌, sym, ap, ◌∙◌, arith, rules}
use Rattle.costs.specs.Cost.{◌⊕◌, as_number}
use Rattle.costs.specs.Cost.Laws.{lesser_number}
use Rattle.costs.specs.Instance.{view_knowing}
use Rattle.costs.specs.Bounds.{cost_with, h}
use Rattle.costs.specs.Lent.Parts.{least_cost}
use Rattle.costs.specs.Lent.Steps.{estimate-least, least_cost_none, least_cost_more}
use Rattle.costs.proofs.least_cost.Goals as goal

pub loop-i-init : goal.loop-i-init
loop-i-init c =
    let a = c.args in
    (ap as_number (sym (least_cost_none (view_knowing a.seat a.costs.now a.ahead.now) a.values a.k)), omega arith)

pub loop-i-preserved : goal.loop-i-preserved
loop-i-preserved c =
    let a = c.args in
    let l = c.loop-i in
    let n = c.as_number in
    let number = n.ensures ∙ ap as_number c.value_cost.ensures in
    let small : n.result ≤ 4294967295 = search rules in
    let w = view_knowing a.seat a.costs.now a.ahead.now in
    let both = lesser_number (least_cost w a.values a.k l.i) (cost_with w a.values a.k (l.i + 1) ⊕ h w (l.i + 1)) (omega (arith, l.invariant.0, l.invariant.1)) (omega (arith, number, small)) in
    (rw (c.min-best.ensures, l.invariant.0, number, least_cost_more w a.values a.k l.i, both), omega (arith, c.min-best.ensures))

pub returns : goal.returns
returns c =
    let a = c.args in
    let l = c.loop-i in
    let e : l.i ≡ a.d = omega arith in
    l.invariant.0 ∙ rw (e, c.requires.1, estimate-least a.seat a.costs.now a.ahead.now a.values a.k)
