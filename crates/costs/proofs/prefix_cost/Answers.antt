-- `prefix_cost` meets its contract. The loop's invariant: the sum is the cost with the units passed, and `before` counts the values of the others among them.
-- Assumes nothing.
use Rattle.std.proofs.Common.{◌≡◌, get_or, sym, refl, ap, ◌∙◌, arith, Some}
use Rattle.costs.specs.Instance.{view_from}
use Rattle.costs.specs.Lent.Steps.{sum_to_more, unary_from, cost_none, cost_more, cost_forbidden, pair_from_lem}
use Rattle.costs.proofs.prefix_cost.Goals as goal
use Rattle.costs.proofs.prefix_cost.Goals.{After-pair_cost}

pub loop-j-init : goal.loop-j-init
loop-j-init c =
    let a = c.args in
    let w = view_from a.seat a.costs.now in
    let unary : c.unary_cost-sum.result ≡ w.unary a.v =
    c.unary_cost-sum.ensures.0 ∙ rw (c.size_of-d.ensures.0, c.place-place.ensures.0) (sym (unary_from a.seat a.costs.now a.v)) in
    (ap Some unary ∙ sym (cost_none w a.values a.v), omega arith, refl, omega arith)

-- the cost of the pair; it is no more than 16 bits hold
pair_is : (c : After-pair_cost)
    → let a = c.args in
    let j = c.loop-j.j in
    c.pair_cost.result ≡ (view_from a.seat a.costs.now).pair j (get_or a.values j 0) a.v
pair_is c =
    rw (
      c.pair_cost.ensures.0,
      c.size_of-d.ensures.0,
      c.place-place.ensures.0,
      c.size_of-e.ensures.0,
      c.value_at-u.ensures.0,
      c.loop-j.invariant.2,
      pair_from_lem,
    )

pub returns-in_err-sum : goal.returns-in_err-sum
returns-in_err-sum c =
    let a = c.args in
    rw c.from_residual.ensures (sym (cost_forbidden (view_from a.seat a.costs.now) a.values c.loop-j.j a.k a.v c.loop-j-test.true (sym (pair_is (goal.at.returns-in_err-sum c).After-pair_cost) ∙ c.in_err-sum.was)), tt)

pub loop-j-preserved : goal.loop-j-preserved
loop-j-preserved c =
    let past = goal.at.loop-j-preserved c in
    let l = c.loop-j in (
      rw (cost_more, ← l.invariant.0, ← pair_is past.After-pair_cost, c.in_ok-sum.was),
      omega (arith, c.in_ok-sum.ensures.1),
      rw (l.invariant.2, c.other_size.ensures.0, sum_to_more),
      omega arith,
    )
