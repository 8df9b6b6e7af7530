-- `count` meets its contract: each plan's messages are counted.
-- Assumes nothing.
use Prim.Native.Nat.{◌-◌}
use mathlib.Core.Path.{refl}
use mathlib.Core.List.{[]}
use native.Mathlib.Omega.{arith}
use Rattle.message.specs.Sized.{Sized}
use Rattle.rules.specs.declared.Plan.TheVariants.{Nothing, Forward, Back, Reply}
use Rattle.rules.specs.Laying.{forward_count, count_by}
use borrow.Author.Rules.{rules}
use Rattle.unit.proofs.sending.count.Goals as goal
use Rattle.unit.proofs.sending.count.Goals.{Start}

-- what the types say of the message
sized : (c : Start) → Sized c.args.s.message
sized c = record { stamp = search rules; values = search rules; best = search rules; cost = search rules; bound = search rules }

pub returns-in-Nothing : goal.returns-in-Nothing
returns-in-Nothing c = let a = c.args in (count_by a.seat.n (a.seat.own - 1) a.s Nothing _ c.in-Nothing.is refl, omega arith)

pub returns-in-Forward : goal.returns-in-Forward
returns-in-Forward c =
    let a = c.args in (
      count_by a.seat.n (a.seat.own - 1) a.s Forward _ c.in-Forward.is (omega (arith, c.from.ensures, forward_count a.seat.n a.seat.own a.s.message [] c.requires.first (sized (goal.at.returns-in-Forward c).Start) a.s.improved 1 refl)),
      omega (arith, c.from.ensures, c.requires.units),
    )

pub returns-in-Back : goal.returns-in-Back
returns-in-Back c =
    let a = c.args in
    (count_by a.seat.n (a.seat.own - 1) a.s Back _ c.in-Back.is (c.count_back.ensures.0 a.s.message (sized (goal.at.returns-in-Back c).Start)), c.count_back.ensures.1)

pub returns-in-Reply : goal.returns-in-Reply
returns-in-Reply c = let a = c.args in (count_by a.seat.n (a.seat.own - 1) a.s Reply _ c.in-Reply.is refl, omega arith)
