-- `penalty` meets its contract: an entry of the schedule, or the most. Assumes nothing.
use mathlib.Core.Path.{sym}
use native.Mathlib.Omega.{arith}
use Rattle.readings.specs.Laws.{schedule-most, penalty_short, penalty_long}
use Rattle.readings.proofs.gap.penalty.Goals as goal

pub overflow_cast-result : goal.overflow_cast-result
overflow_cast-result c = record { fits = omega (arith, schedule-most c.args.size c.if-size-lt20.true) }

pub returns-then-size-lt20 : goal.returns-then-size-lt20
returns-then-size-lt20 c =
    let k = c.args.size in
    (sym (penalty_short k c.if-size-lt20.true), omega (arith, schedule-most k c.if-size-lt20.true))

pub returns : goal.returns
returns c = (sym (penalty_long c.args.size c.if-size-lt20.false), omega arith)
