-- `find` meets its contract: it is the search over all n units, with nothing chosen and nothing found.
-- Assumes nothing.
use lib.ListN.{replicate}
use Rattle.search.specs.Steps.{best_of_all, extending_first}
use Rattle.search.proofs.find.Goals as goal

pub extend-requires : goal.extend-requires
extend-requires c =
    extending_first c.args.stream.now c.cost_starts-starts.result c.args.first c.args.n (replicate 16 0) c.requires c.cost_starts-starts.ensures

pub returns : goal.returns
returns c =
    best_of_all c.args.stream.now c.args.n c.extend.result c.requires.units c.extend.ensures
