-- `filled_to` meets its contract: a place that is not good decides, and past the last all are. Assumes nothing.
use mathlib.Core.Path.{◌≡◌, sym, ◌∙◌}
use native.Mathlib.Omega.{arith}
use Rattle.base.specs.Every.Laws.{every_more, every_not}
use Rattle.message.specs.Message.{place_at, filled_to}
use Rattle.message.proofs.fields.filled_to.Goals as goal
use Rattle.message.proofs.fields.filled_to.Goals.{After-place_good}

-- the place is tested as it is defined
tested : (c : After-place_good) → c.place_good.result ≡ place_at c.args.k c.args.sizes c.args.places c.loop-i.i
tested c = rw (← c.from.ensures) c.place_good.ensures

pub returns-then-not-place_good : goal.returns-then-not-place_good
unfolding filled_to
returns-then-not-place_good c =
    let a = c.args in
    sym (every_not (place_at a.k a.sizes a.places) 16 c.loop-i.i c.loop-i-test.true (sym (tested (goal.at.returns-then-not-place_good c).After-place_good) ∙ c.if-not-place_good.true))

pub loop-i-preserved : goal.loop-i-preserved
loop-i-preserved c =
    let a = c.args in
    every_more (place_at a.k a.sizes a.places) c.loop-i.i c.loop-i.invariant (sym (tested (goal.at.loop-i-preserved c).After-place_good) ∙ c.if-not-place_good.false)

pub returns : goal.returns
unfolding filled_to
returns c = let l = c.loop-i in let e : l.i ≡ 16 = omega (arith, c.loop-i-test.false) in sym (rw e at l.invariant)
