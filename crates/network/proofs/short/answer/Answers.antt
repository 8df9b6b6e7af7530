-- `answer` meets its contract: the gap closed, then the estimate put behind.
-- Assumes nothing.
use Rattle.std.specs.Prelude.{Result, Ok, Err, IsOk}
use Rattle.std.proofs.Common.{◌≡◌, ◌+◌, ◌-◌, ◌*◌, true, leb, length, refl, ◌∙◌, arith, le-leb}
use Rattle.base.specs.declared.Refusal.{Refusal}
use Rattle.base.specs.Refusal.{told}
use Rattle.base.specs.Refusal.Laws.{number_some}
use Rattle.message.specs.Decode.{put_refusal}
use Rattle.message.specs.Sized.{Sized}
use borrow.Author.Rules.{rules}
use Rattle.network.proofs.short.answer.Goals as goal
use Rattle.network.proofs.short.answer.Goals.{After-reply-estimate}

-- what the types say of the estimate
sized : (c : After-reply-estimate) → Sized c.reply-estimate.result
sized c = record { stamp = search rules; values = search rules; best = search rules; cost = search rules; bound = search rules }

told_ok : (r : Result Unit Refusal) → told r ≡ 0 → IsOk r
told_ok (Ok x) e = refl
told_ok (Err r) e = absurd (number_some r e)

-- the estimate fits
pub unwrap-requires : goal.unwrap-requires
unfolding put_refusal
unwrap-requires c =
    let same : length c.close.new.pool ≡ length c.args.pool.now = search rules in
    let fits : leb (64 * (c.args.used - 1) + 64) (length c.close.new.pool) ≡ true = le-leb _ _ (omega (arith, same)) in
    told_ok c.put.result (c.put.ensures.0 ∙ rw fits)

pub returns : goal.returns
returns c =
    let r = c.reply-estimate in
    (refl, rw r.ensures at (sized (goal.at.returns c).After-reply-estimate), c.put.ensures.1 ∙ rw (r.ensures, c.close.ensures))
