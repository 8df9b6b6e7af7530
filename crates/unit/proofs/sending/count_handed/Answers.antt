-- `count_handed` meets its contract: a stop for each of the others, or one cpa.
-- Assumes nothing.
use mathlib.Core.List.{[]}
use native.Mathlib.Omega.{arith}
use Rattle.rules.specs.Laying.{stops_count}
use Rattle.unit.proofs.sending.count_handed.Goals as goal

pub returns-then-seat-eq1 : goal.returns-then-seat-eq1
returns-then-seat-eq1 c =
    let a = c.args.seat in
    (λ m z. omega (arith, c.from.ensures, stops_count a.n a.own m [] c.requires.first z c.if-seat-eq1.true), omega (arith, c.from.ensures, c.requires.units))
