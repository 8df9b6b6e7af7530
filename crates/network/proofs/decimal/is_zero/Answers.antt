-- `network::decimal::is_zero` meets its contract: a number is 0 where both its words are. Assumes nothing.
use mathlib.Core.Path.{sym}
use borrow.Author.Tests.{ne_eqb}
use Rattle.runs.specs.Count.Laws.{value_some, value_low}
use Rattle.network.proofs.decimal.is_zero.Goals as goal

pub returns-then-c-eq0 : goal.returns-then-c-eq0
returns-then-c-eq0 c = sym (value_low c.args.c c.if-c-eq0.true)

pub returns-else-c-eq0 : goal.returns-else-c-eq0
returns-else-c-eq0 c = rw (ne_eqb c.args.c.high 0 c.if-c-eq0.false) (sym (value_some c.args.c c.if-c-eq0.false))
