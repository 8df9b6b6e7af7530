-- `put_lines` meets its contract: what the two lines cost in one lot, and how many lots they have, make their costs. Assumes nothing.
use Prim.Native.Nat.{◌+◌}
use mathlib.Core.Path.{◌≡◌, ap, ◌∙◌}
use native.Mathlib.Omega.{arith}
use lib.ListN.{length}
use Rattle.base.specs.Put.{put_at}
use Rattle.readings.specs.Readings.{gap, gap_cost}
use Rattle.readings.specs.Pieces.{pair_of, lines_pair}
use borrow.Author.Rules.{rules}
use Rattle.readings.proofs.put_lines.Goals as goal
use Rattle.readings.proofs.put_lines.Goals.{After-put_pair-arg-1}

-- what is written is the costs of the two lines
same : (c : After-put_pair-arg-1) → let a = c.args in
    pair_of c.pair_cost.result c.from.result c.from-2.result ≡ lines_pair a.sizes a.readings.now a.i a.j
same c =
    let e : c.pair_cost.result ≡ gap_cost (gap c.u16_at-earlier.result c.u16_at-later.result) = c.pair_cost.ensures.0 in
    rw (c.from-2.ensures, c.from.ensures, e, c.u16_at-later.ensures.0, c.u16_at-earlier.ensures.0)

pub put_pair-requires : goal.put_pair-requires
put_pair-requires c = (omega arith, rw c.from.ensures (search rules), rw c.from-2.ensures (search rules), rw (same (goal.at.put_pair-requires c).After-put_pair-arg-1) c.requires.2)

pub returns : goal.returns
returns c =
    let past = goal.at.returns c in
    let a = c.args in
    (c.put_pair.ensures.0 ∙ ap (λ m. a.at + length m) (same past.After-put_pair-arg-1), c.put_pair.ensures.1 ∙ ap (λ m. put_at a.stream.now a.at m) (same past.After-put_pair-arg-1))
