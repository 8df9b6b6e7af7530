-- `begin` meets its contract: the parts set are those of `begun`, at the unit's place.
-- Assumes nothing.
use Prim.Native.Nat.{◌-◌}
use native.Mathlib.Omega.{arith}
use mathlib.Core.Path.{◌≡◌, ap}
use borrow.Author.Tests.{eq-eqb, ne_eqb}
use Rattle.rules.specs.declared.Unit.{Unit}
use Rattle.rules.specs.State.{zeros, with_counter}
use Rattle.decide.proofs.assign.begin.Goals as goal

pub returns-then-t-from-eq0 : goal.returns-then-t-from-eq0
returns-then-t-from-eq0 c =
    λ w e o q. let p : w.place ≡ c.args.own - 1 = omega arith in
    rw (p, eq-eqb _ _ (rw c.from.ensures at c.if-t-from-eq0.true)) (rw p at (ap (λ (u : Unit). with_counter 0 u) (c.take_off-s.ensures w zeros o q)))

pub returns-else-t-from-eq0 : goal.returns-else-t-from-eq0
returns-else-t-from-eq0 c =
    λ w e o q. let p : w.place ≡ c.args.own - 1 = omega arith in
    rw (p, ne_eqb _ _ (rw c.from.ensures at c.if-t-from-eq0.false)) (rw p at (c.take_off-s.ensures w zeros o q))
