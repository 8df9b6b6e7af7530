-- `put_pair` meets its contract: the part that is copied is where the bytes of the pair stand, and as long.
-- Assumes nothing.
use Rattle.std.proofs.Common.{◌+◌, ◌*◌, get_or, ◌∙◌, arith}
use Rattle.table.specs.Stream.{pairs_at}
use Rattle.costs.specs.Lent.Parts.{dom_from}
use Rattle.costs.specs.Gathered.{pair_bytes}
use Rattle.costs.specs.Gather.Steps.{Part, pair_from_lem, pair_part}
use Rattle.costs.proofs.stream.Gathering.put_pair.Goals as goal
use Rattle.costs.proofs.stream.Gathering.put_pair.Goals.{After-size_of}

-- what is copied
part : (c : After-size_of)
    → let a = c.args in
    Part a.self.now.opened.stream.now (pair_bytes a.self.now.opened.stream.now a.i a.j) (get_or a.self.now.rows a.i 0 + 2 * (c.size_of-d.result * c.sum_sizes.result)) (2 * (c.size_of-d.result * c.size_of.result))
part c =
    let a = c.args in
    let pre = c.requires in
    let self = a.self.now in
    pair_part self.seated a.i a.j (get_or a.self.now.rows a.i 0 + 2 * (c.size_of-d.result * c.sum_sizes.result)) c.size_of-d.result c.size_of.result pre.0 pre.1
    (pair_from_lem (dom_from a.self.now.seat) a.self.now.seat.n a.i a.j (pairs_at a.self.now.opened.stream.now) (get_or a.self.now.rows a.i 0) c.size_of-d.result c.sum_sizes.result (self.found.are a.i (omega arith)) c.size_of-d.ensures.0 c.sum_sizes.ensures.0)
    c.size_of-d.ensures.0 c.size_of.ensures.0

pub copy_part-requires : goal.copy_part-requires
copy_part-requires c =
    let past = goal.at.copy_part-requires c in
    ((part past.After-size_of).inside, omega (arith, (part past.After-size_of).counted, c.requires.2))

pub returns : goal.returns
returns c =
    let past = goal.at.returns c in
    let a = c.args in (omega (arith, (part past.After-size_of).counted), c.copy_part.ensures ∙ (part past.After-size_of).put a.out.now a.at)
