-- `least_runs` meets its contract. The loop's invariant: the whole is the sum and the runs from place j on; `before` counts the values of the others before place j.
-- Assumes nothing.
use Rattle.std.proofs.Common.{◌≡◌, pred, ◌+◌, ◌<◌, sym, arith, rules, Some}
use Rattle.costs.specs.Cost.{◌⊕◌}
use Rattle.costs.specs.Cost.Laws.{zero_add, add_zero, add_assoc}
use Rattle.costs.specs.Lent.Parts.{runs_from}
use Rattle.costs.specs.Lent.Steps.{others_later, runs_step, runs_done}
use Rattle.costs.proofs.least_runs.Goals as goal
use Rattle.costs.proofs.least_runs.Goals.{After-least_run}

pub loop-j-init : goal.loop-j-init
loop-j-init c =
    let a = c.args in
    (sym (zero_add (runs_from a.seat a.costs.now a.v (c.place-place.result + 1))), omega arith, c.others_before-before.ensures.0, omega (arith, c.others_before-before.ensures.1), omega arith)

-- the least of the run is the first of those that are left
runs-next : (c : After-least_run)
    → let a = c.args in
    let j = c.loop-j.j in
    runs_from a.seat a.costs.now a.v j ≡ c.least_run.result ⊕ runs_from a.seat a.costs.now a.v (j + 1)
runs-next c =
    let a = c.args in
    let l = c.loop-j in
    rw (runs_step a.seat a.costs.now a.v l.j (omega arith), c.least_run.ensures.0, c.size_of-e.ensures.0, l.invariant.2, c.size_of-d.ensures.0, c.place-place.ensures.0)

pub returns-in_err-sum : goal.returns-in_err-sum
returns-in_err-sum c =
    rw c.from_residual.ensures (rw (← c.place-place.ensures.0, c.loop-j.invariant.0, runs-next (goal.at.returns-in_err-sum c).After-least_run, c.in_err-sum.was), tt)

pub loop-j-preserved : goal.loop-j-preserved
loop-j-preserved c =
    let earlier = goal.at.loop-j-preserved c in
    let a = c.args in
    let l = c.loop-j in
    let small : a.seat.n < 256 = search rules in
    let past : pred a.seat.own < l.j = omega (arith, c.place-place.ensures.0) in (
      rw (l.invariant.0, runs-next earlier.After-least_run, c.in_ok-sum.was) (sym (add_assoc (Some l.sum) (Some c.in_ok-sum.field-0) (runs_from a.seat a.costs.now a.v (l.j + 1)))),
      omega (arith, c.in_ok-sum.ensures.1),
      rw (l.invariant.2, c.size_of-e.ensures.0, others_later a.seat l.j past),
      omega arith,
      omega arith,
    )

pub returns : goal.returns
returns c =
    let a = c.args in
    let l = c.loop-j in
    (rw (← c.place-place.ensures.0, l.invariant.0, runs_done a.seat a.costs.now a.v l.j (omega arith), add_zero), omega arith)
