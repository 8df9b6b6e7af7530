-- `with_size` meets its contract: behind the last size the costs begin. Assumes nothing.
use Rattle.start.specs.Steps.{to_first}
use Rattle.std.proofs.Common.{◌+◌, ◌∙◌, arith, sym}
use borrow.Author.Tests.{le-ltb}
use Rattle.start.proofs.byte.with_size.Goals as goal

pub returns : goal.returns
returns c =
    let a = c.args in
    rw (sym c.in_sixteen.ensures ∙ c.if-not-in_sixteen.false, le-ltb (a.r.unit + 1) a.r.n (omega (arith, c.if-from.false)))
    (c.to_run.ensures ∙ to_first a.r a.b c.stored.ensures c.from-row.ensures c.from-row.ensures)
