-- `lookahead` meets its contract. The loop's invariant: the first k numbers are known.
-- Assumes nothing.
use Rattle.std.proofs.Common.{◌≡◌, length, ap, ◌∙◌, add-one, arith, length-set}
use Rattle.costs.specs.Cost.{as_number}
use Rattle.costs.specs.Instance.{view_from}
use Rattle.costs.specs.Knowing.{ahead_more}
use Rattle.costs.proofs.lookahead.Goals as goal

pub loop-k-preserved : goal.loop-k-preserved
loop-k-preserved c =
    let a = c.args in
    let l = c.loop-k in
    let q = c.later_cost in
    (simp length-set l.invariant.0, rw add-one (ahead_more (view_from a.seat a.costs.now) l.ahead l.k c.as_number.result (omega (arith, l.invariant.0)) l.invariant.1 (c.as_number.ensures ∙ ap as_number (rw add-one at q.ensures.0)) (rw (q.ensures.0, add-one) at q.ensures.1)))

pub returns : goal.returns
returns c =
    let l = c.loop-k in
    let e : l.k ≡ length l.ahead = omega (arith, l.invariant.0) in
    rw e at l.invariant.1
