-- `answer` meets its contract: the message is that of `reply`.
-- Assumes nothing.
use Rattle.rules.specs.Laws.Ways.{reply_is}
use Rattle.decide.proofs.estimate.answer.Goals as goal

pub returns : goal.returns
returns c = λ was. let a = c.args in rw (c.reply.ensures, reply_is a.seat a.costs.now a.ahead.now a.m c.requires.first)
