-- `count_back` meets its contract: what is handed back, and a solution to each of the others.
-- Assumes nothing.
use Prim.Native.Nat.{◌+◌, ◌-◌}
use mathlib.Core.Path.{refl}
use mathlib.Core.List.{[]}
use native.Mathlib.Omega.{arith}
use Rattle.rules.specs.Laying.{back_count}
use Rattle.unit.proofs.sending.count_back.Goals as goal

pub returns-then-improved : goal.returns-then-improved
returns-then-improved c =
    let a = c.args in
    let h = c.count_handed-handed in (
      λ m z. omega (arith, c.from.ensures, c.requires.first, c.requires.last, back_count a.seat.n a.seat.own m [] c.requires.first z a.improved h.result (h.result + (a.seat.own - 1)) (c.if-improved.true) (h.ensures.0 m z) refl),
      omega (arith, h.ensures.1, c.from.ensures, c.requires.units),
    )
