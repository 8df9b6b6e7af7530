-- `stays_below` meets its contract: past both tests it is the sum against the bound.
-- Assumes nothing.
use Prim.Native.Nat.{◌-◌}
use lib.ListN.{set}
use mathlib.Core.Path.{◌≡◌, sym, ◌∙◌}
use mathlib.Core.Bool.{true}
use native.Mathlib.Omega.{arith}
use borrow.Author.Tests.{ltb-true}
use Rattle.rules.specs.State.{same_on}
use Rattle.decide.proofs.Ways.{same_stamp, summed}
use Rattle.decide.proofs.short.stays_below.Goals as goal
use Rattle.decide.proofs.short.stays_below.Goals.{then-u-from-gt0, else-u-from-gt0}

pub returns-then-same : goal.returns-then-same
returns-then-same c =
    let a = c.args in
    elim c.if-u-from-gt0.branch [
      | then-u-from-gt0 w ↦
          let same : same_on a.seat.own a.m.stamp a.u.stamp ≡ true = sym (rw w.from-then-u-from-gt0.ensures at w.same.ensures) ∙ sym w.value-is ∙ c.if-same.true in
          same_stamp a.seat.own a.seat.n a.u a.m (rw c.from.ensures at w.if-u-from-gt0.true) same c.from-then-same.result c.from-then-same-2.result c.sum_later.result c.from-then-same.ensures c.from-then-same-2.ensures
          (summed a.seat (set a.u.estimates (a.m.sender - 1) a.m.cost) c.sum_later.result c.requires.0.first (rw c.with_estimate.ensures at c.sum_later.ensures.1))
      | else-u-from-gt0 w ↦ absurd (omega (arith, ltb-true _ _ (sym w.value-is ∙ c.if-same.true)))
    ]
