-- `least_sum` meets its contract. The loop's invariant: the best is the least of the first i values, as a number, whatever their sums are of.
-- Assumes nothing.
use Rattle.std.proofs.Common.{◌≡◌, pred, ◌+◌, ◌<◌, ◌≤◌, sym, ap, ◌∙◌, add-one, arith, rules}
use Rattle.costs.specs.Cost.{◌⊕◌, as_number}
use Rattle.costs.specs.Cost.Laws.{lesser_number}
use Rattle.costs.specs.Instance.{view_from, view_knowing}
use Rattle.costs.specs.Bounds.{cost_with, h}
use Rattle.costs.specs.Lent.Parts.{dom_from, least_cost}
use Rattle.costs.specs.Lent.Steps.{estimate-least, least_cost_none, least_cost_more}
use Rattle.costs.specs.Knowing.{cost-knowing}
use Rattle.costs.specs.Rows.{dom_is}
use Rattle.costs.proofs.rows.least_sum.Goals as goal

pub loop-i-init : goal.loop-i-init
loop-i-init c = let a = c.args in (omega arith, λ values k s. ap as_number (sym (least_cost_none (view_knowing a.seat a.costs.now a.ahead.now) values k)))

pub loop-i-preserved : goal.loop-i-preserved
loop-i-preserved c =
    let a = c.args in
    let l = c.loop-i in
    let n = c.as_number in
    let small : n.result ≤ 4294967295 = search rules in (
      omega (arith, c.min-best.ensures, l.invariant.0),
      λ values k told.
          let w = view_knowing a.seat a.costs.now a.ahead.now in
          let below : l.i < dom_from a.seat (pred a.seat.own) = omega (arith, c.requires.1, c.loop-i-test.true) in
          let i16 : l.i < 16 = omega (arith, c.requires.0, c.loop-i-test.true) in
          let number : n.result ≡ as_number (cost_with w values k (l.i + 1) ⊕ h w (l.i + 1)) =
          n.ensures ∙ ap as_number c.with_h.ensures ∙ rw ((told l.i i16 (omega (arith, below, dom_is a.seat a.costs.now values))).told, cost-knowing (view_from a.seat a.costs.now) a.ahead.now values k (l.i + 1), add-one) in
          let both = lesser_number (least_cost w values k l.i) (cost_with w values k (l.i + 1) ⊕ h w (l.i + 1)) (omega (arith, l.invariant.1 values k told, l.invariant.0)) (omega (arith, number, small)) in
          rw (c.min-best.ensures, l.invariant.1 values k told, number, least_cost_more w values k l.i, both),
    )

pub returns : goal.returns
returns c =
    let a = c.args in
    let l = c.loop-i in
    let e : l.i ≡ a.d = omega arith in
    λ values k told. l.invariant.1 values k told ∙ rw (e, c.requires.1, estimate-least a.seat a.costs.now a.ahead.now values k)
