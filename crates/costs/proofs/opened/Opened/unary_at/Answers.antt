-- `unary_at` meets its contract: in form one there is none, in form two it is read. Assumes nothing.
use Rattle.std.proofs.Common.{◌∙◌, arith}
use Rattle.costs.specs.Gather.Steps.{Opened, opened_one, opened-two}
use Rattle.costs.proofs.opened.Opened.unary_at.Goals as goal

pub returns-then-self-eq0 : goal.returns-then-self-eq0
returns-then-self-eq0 c =
    let o : Opened c.args.self.now.stream.now c.args.self.now.before = record { is = c.args.self.now.is; most = c.args.self.now.most } in
    (rw (opened_one o c.if-self-eq0.true), omega arith)

pub returns : goal.returns
returns c =
    let o : Opened c.args.self.now.stream.now c.args.self.now.before = record { is = c.args.self.now.is; most = c.args.self.now.most } in
    (c.u16_at.ensures.0 ∙ rw (c.unaries_at.ensures.0, opened-two o c.if-self-eq0.false), c.u16_at.ensures.1)
