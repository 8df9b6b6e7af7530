-- `lay` meets its contract: each plan's messages are what its function lays.
-- Assumes nothing.
use Prim.Native.Nat.{◌-◌}
use lib.ListN.{length}
use mathlib.Core.Path.{refl, sym, ◌∙◌}
use native.Mathlib.Omega.{arith}
use Rattle.message.specs.Sized.{Sized}
use Rattle.rules.specs.declared.Plan.TheVariants.{Nothing, Forward, Back, Reply}
use Rattle.rules.specs.Laying.{forward_count, laid_none, reply-laid, sent_by_lem, fits_by}
use borrow.Author.Rules.{rules}
use Rattle.unit.proofs.sending.lay.Goals as goal
use Rattle.unit.proofs.sending.lay.Goals.{Start}

-- what the types say of the message
sized : (c : Start) → Sized c.args.s.message
sized c = record { stamp = search rules; values = search rules; best = search rules; cost = search rules; bound = search rules }

pub forward-requires : goal.forward-requires
forward-requires c =
    let a = c.args in
    let all = fits_by a.seat.n (a.seat.own - 1) a.s Forward (length a.out.now) c.in-Forward.is c.requires.1 in
    (c.requires.0, omega (arith, all, forward_count a.seat.n a.seat.own a.s.message a.out.now c.requires.0.first (sized (goal.at.forward-requires c).Start) a.s.improved 1 refl))

pub back-requires : goal.back-requires
back-requires c = (c.requires.0, fits_by c.args.seat.n (c.args.seat.own - 1) c.args.s Back (length c.args.out.now) c.in-Back.is c.requires.1)

pub returns-in-Nothing : goal.returns-in-Nothing
returns-in-Nothing c = let a = c.args in sent_by_lem a.seat.n (a.seat.own - 1) a.s Nothing _ a.out.now _ c.in-Nothing.is (refl, sym (laid_none a.out.now))

pub returns-in-Forward : goal.returns-in-Forward
returns-in-Forward c = let a = c.args in sent_by_lem a.seat.n (a.seat.own - 1) a.s Forward _ a.out.now _ c.in-Forward.is (c.forward.ensures a.s.improved)

pub returns-in-Back : goal.returns-in-Back
returns-in-Back c = let a = c.args in sent_by_lem a.seat.n (a.seat.own - 1) a.s Back _ a.out.now _ c.in-Back.is c.back.ensures

pub returns-in-Reply : goal.returns-in-Reply
returns-in-Reply c =
    let a = c.args in
    let fits = fits_by a.seat.n (a.seat.own - 1) a.s Reply (length a.out.now) c.in-Reply.is c.requires.1 in
    sent_by_lem a.seat.n (a.seat.own - 1) a.s Reply _ a.out.now _ c.in-Reply.is (refl, c.put.ensures.1 ∙ reply-laid a.s.message a.out.now (sized (goal.at.returns-in-Reply c).Start) (omega (arith, fits)))
