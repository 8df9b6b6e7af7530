-- `way` meets its contract: a seat and a sender that passed the tests are numbers of units. Assumes nothing.
use native.Mathlib.Omega.{arith}
use mathlib.Core.Path.{sym, ◌∙◌}
use Rattle.rules.specs.Laws.Views.{unit_range}
use Rattle.decide.proofs.short.way.Goals as goal

pub by_kind-requires : goal.by_kind-requires
by_kind-requires c =
    let o = unit_range c.args.seat.n c.args.seat.own (sym c.is_unit.ensures ∙ c.if-not-is_unit.false) in
    let f = unit_range 16 c.in-Ok.m.sender (sym c.is_unit-else-seat-gt16.ensures ∙ c.if-not-is_unit-2.false) in
    let few = c.if-seat-gt16.false in
    (record { first = o.0; last = omega (arith, o.1, few) }, o.1, few, record { first = f.0; last = f.1 })
