-- `keep_zeros` meets its contract: 32 zeros are enough. Assumes nothing.
use Rattle.std.proofs.Common.{◌*◌, sym, ◌∙◌, arith}
use Rattle.start.specs.Steps.{due_small, keeps_zeros}
use Rattle.start.proofs.byte.keep_zeros.Goals as goal

pub returns : goal.returns
returns c =
    let a = c.args in
    let due = sym c.zeros_due.ensures ∙ c.if-not-zeros_due.false in
    rw due (keeps_zeros a.out.now c.put.new.out a.at a.b c.from-count.result (2 * c.from-count.result) c.from-count.ensures (omega arith) (due_small a.own a.r a.b due) c.put.ensures)
