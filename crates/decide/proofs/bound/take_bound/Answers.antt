-- `take_bound` meets its contract: the test is that of `take_bound`.
-- Assumes nothing.
use borrow.Author.Tests.{lt-ltb, le-ltb}
use Rattle.decide.proofs.bound.take_bound.Goals as goal

pub returns-then-m-t : goal.returns-then-m-t
returns-then-m-t c = λ e. simp (lt-ltb _ _ c.if-m-t.true) (c.with_best.ensures e)

pub returns-else-m-t : goal.returns-else-m-t
returns-else-m-t c = λ e. simp (le-ltb _ _ c.if-m-t.false)
