-- `hand_back` meets its contract: unit 1 spreads stops, another sends the cpa to the unit before.
-- Assumes nothing.
use mathlib.Core.Path.{◌∙◌}
use native.Mathlib.Omega.{arith}
use Rattle.message.specs.Sized.{Sized}
use Rattle.rules.specs.Laying.{stops_laid, stops_count, back_one_laid, back_one_count}
use borrow.Author.Rules.{rules}
use Rattle.unit.proofs.sending.hand_back.Goals as goal
use Rattle.unit.proofs.sending.hand_back.Goals.{Start}

-- what the types say of the message
sized : (c : Start) → Sized c.args.m
sized c = record { stamp = search rules; values = search rules; best = search rules; cost = search rules; bound = search rules }

pub spread-requires : goal.spread-requires
spread-requires c =
    let a = c.args in
    (omega arith, omega arith, omega (arith, c.requires.1, stops_count a.seat.n a.seat.own a.m a.out.now c.requires.0.first (sized (goal.at.spread-requires c).Start) c.if-seat-eq1.true))

pub spread-requires-else-seat-eq1 : goal.spread-requires-else-seat-eq1
spread-requires-else-seat-eq1 c =
    let a = c.args in
    (omega arith, omega arith, omega (arith, c.requires.1, back_one_count a.seat.n a.seat.own a.m a.out.now c.requires.0.first (sized (goal.at.spread-requires-else-seat-eq1 c).Start) c.if-seat-eq1.false))

pub returns-then-seat-eq1 : goal.returns-then-seat-eq1
returns-then-seat-eq1 c =
    let a = c.args in
    let z = sized (goal.at.returns-then-seat-eq1 c).Start in
    let e = c.if-seat-eq1.true in
    let all = c.spread.ensures in
    (all.0 ∙ stops_count a.seat.n a.seat.own a.m a.out.now (omega arith) z e, all.1 ∙ stops_laid a.seat.n a.seat.own a.m a.out.now (omega arith) z e _ c.bound_only.ensures)

pub returns-else-seat-eq1 : goal.returns-else-seat-eq1
returns-else-seat-eq1 c =
    let a = c.args in
    let z = sized (goal.at.returns-else-seat-eq1 c).Start in
    let e = c.if-seat-eq1.false in
    let all = c.spread-else-seat-eq1.ensures in
    (all.0 ∙ back_one_count a.seat.n a.seat.own a.m a.out.now (omega arith) z e, all.1 ∙ back_one_laid a.seat.n a.seat.own a.m a.out.now (omega arith) z e)
