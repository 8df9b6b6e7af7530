-- `pairs_at` meets its contract: behind the unary costs, one for each value in form two. Assumes nothing.
use Rattle.std.proofs.Common.{mul-le-mul, arith}
use Rattle.costs.specs.Gather.Steps.{Opened, pairs-begin}
use Rattle.costs.proofs.opened.Opened.pairs_at.Goals as goal

pub returns : goal.returns
returns c =
    let o : Opened c.args.self.now.stream.now c.args.self.now.before = record { is = c.args.self.now.is; most = c.args.self.now.most } in
    (pairs-begin o c.unaries_at.result c.args.values c.unaries_at.ensures.0 c.requires.0, omega (arith, mul-le-mul c.args.self.now.most c.requires.1))
