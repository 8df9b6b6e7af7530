-- `spread` meets its contract. The loop's invariant: the messages to the first i units are put; the measure is how many are left.
-- Assumes nothing.
use mathlib.Core.Path.{◌≡◌, refl, ◌∙◌}
use native.Mathlib.Omega.{arith}
use borrow.Author.Rules.{rules}
use Rattle.message.specs.Sized.{Sized}
use Rattle.rules.specs.Laying.{spread_none, spread_more}
use Rattle.unit.proofs.sending.spread.Goals as goal

pub loop-i-init : goal.loop-i-init
loop-i-init c = let a = c.args in (refl, spread_none a.kind a.m a.out.now a.lo a.sent)

pub loop-i-preserved : goal.loop-i-preserved
loop-i-preserved c =
    let a = c.args in
    let l = c.loop-i in
    let z : Sized a.m = record { stamp = search rules; values = search rules; best = search rules; cost = search rules; bound = search rules } in
    (search rules, c.put.ensures.1 ∙ rw (c.from-at.ensures, c.address-to.ensures) (spread_more a.kind a.m z a.out.now l.out a.lo a.sent l.i l.invariant.1 l.invariant.0 (omega arith)))

pub returns : goal.returns
returns c = let l = c.loop-i in let e : l.i ≡ c.args.count = omega arith in (refl, rw (← e) l.invariant.1)
