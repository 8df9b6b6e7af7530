-- `forward` meets its contract: the requests are laid behind the cpa.
-- Assumes nothing.
use mathlib.Core.Path.{◌∙◌}
use native.Mathlib.Omega.{arith}
use Rattle.message.specs.Sized.{Sized}
use Rattle.rules.specs.Laying.{forward_laid, forward_count}
use borrow.Author.Rules.{rules}
use Rattle.unit.proofs.sending.forward.Goals as goal
use Rattle.unit.proofs.sending.forward.Goals.{Start}

-- what the types say of the message
sized : (c : Start) → Sized c.args.m
sized c = record { stamp = search rules; values = search rules; best = search rules; cost = search rules; bound = search rules }

pub returns : goal.returns
returns c =
    let a = c.args in
    let z = sized (goal.at.returns c).Start in
    let one = c.spread-sent.ensures in
    let all = c.spread.ensures in
    λ b. (
      all.0 ∙ forward_count a.seat.n a.seat.own a.m a.out.now (omega arith) z b _ one.0,
      all.1 ∙ forward_laid a.seat.n a.seat.own a.m a.out.now (omega arith) z b _ _ _ one.1 c.no_bound.ensures one.0 (omega arith),
    )
