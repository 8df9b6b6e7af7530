-- `readings_good` meets its contract. The loop's invariant: the first k readings are in range. Assumes nothing.
use mathlib.Core.Path.{◌≡◌, refl, sym, ap, ◌∙◌}
use mathlib.Core.Bool.{true, false}
use native.Mathlib.Omega.{arith}
use Rattle.base.specs.Every.{every}
use Rattle.base.specs.Every.Laws.{every_more, every_not}
use Rattle.readings.specs.Readings.{reading_good, reading_at}
use Rattle.readings.proofs.readings_good.Goals as goal

pub returns-then-not-reading_good : goal.returns-then-not-reading_good
returns-then-not-reading_good c =
    let a = c.args in
    let l = c.loop-k in
    let e : reading_good (reading_at a.readings.now l.k) ≡ false = ap reading_good (sym c.u16_at.ensures.0) ∙ sym c.reading_good.ensures ∙ c.if-not-reading_good.true in
    sym (every_not (λ i. reading_good (reading_at a.readings.now i)) a.count l.k (omega arith) e)

pub loop-k-preserved : goal.loop-k-preserved
loop-k-preserved c =
    let a = c.args in
    let l = c.loop-k in
    let e : reading_good (reading_at a.readings.now l.k) ≡ true = ap reading_good (sym c.u16_at.ensures.0) ∙ sym c.reading_good.ensures ∙ c.if-not-reading_good.false in
    every_more (λ i. reading_good (reading_at a.readings.now i)) l.k l.invariant e

pub returns : goal.returns
returns c =
    let a = c.args in
    let l = c.loop-k in
    let e : l.k ≡ a.count = omega arith in
    sym (ap (λ m. every (λ i. reading_good (reading_at a.readings.now i)) m) (sym e) ∙ l.invariant)

pub loop-k-init : goal.loop-k-init
loop-k-init c = refl
