-- `cheapest_after` meets its contract. The loop's invariant: what was found is the earliest of the first u values that are later than v.
-- Assumes nothing.
use native.Mathlib.Omega.{arith}
use Prim.Native.Nat.{ℕ, ◌+◌, ◌-◌}
use mathlib.Core.Path.{◌≡◌, refl, sym, ap, ◌∙◌}
use lib.ListN.{get_or}
use Rattle.decide.proofs.Later.{earliest_none, earliest_next, found-next}
use Rattle.decide.proofs.order.cheapest_after.Goals as goal
use Rattle.decide.proofs.order.cheapest_after.Goals.{then-comes_next, else-comes_next}

pub loop-u-init : goal.loop-u-init
loop-u-init c = (omega arith, (λ e. refl, λ e. absurd (omega arith)), λ w cheapest d known. earliest_none w c.args.v)

pub loop-u-preserved : goal.loop-u-preserved
loop-u-preserved c =
    let a = c.args in
    let o = c.of_value-low in
    let l = c.loop-u in
    let n = c.comes_next in
    let k = ap (λ (i : ℕ). get_or a.keys i 0) c.from.ensures in
    elim c.if-comes_next.branch [
      | then-comes_next w ↦
          rw (w.best-is, w.found-is) (
            omega arith,
            (λ e. absurd (omega arith), λ e. let i : l.u + 1 - 1 ≡ l.u = omega arith in rw i (w.from-best.ensures ∙ k)),
            λ w' cheapest d known.
                rw (sym n.ensures.0 ∙ w.if-comes_next.true) at
                (found-next w' cheapest a.keys known a.v l.u o.result (get_or a.keys c.from.result 0) l.best l.found (omega arith) (omega arith) o.ensures k n.ensures.1 l.invariant.1 l.invariant.0 (l.invariant.2 w' cheapest d known)),
          )
      | else-comes_next w ↦
          rw (w.best-is, w.found-is) (
            omega arith,
            l.invariant.1,
            λ w' cheapest d known.
                rw (sym n.ensures.0 ∙ w.if-comes_next.false) at
                (found-next w' cheapest a.keys known a.v l.u o.result (get_or a.keys c.from.result 0) l.best l.found (omega arith) (omega arith) o.ensures k n.ensures.1 l.invariant.1 l.invariant.0 (l.invariant.2 w' cheapest d known)),
          )
    ]

pub returns : goal.returns
returns c =
    let a = c.args in
    let l = c.loop-u in
    (omega arith, λ w cheapest d known. let e : l.u ≡ w.dom w.place = omega arith in earliest_next w a.v l.found (omega arith) (rw e at (l.invariant.2 w cheapest d known)))
