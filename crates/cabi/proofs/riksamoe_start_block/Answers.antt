-- `riksamoe_start_block` meets its contract: the lent state is read, `start::take_block` has the answer, and the state goes back.
-- Assumes nothing.
use mathlib.Core.Bool.{not}
use lib.Dec.{eqb}
use lib.ListN.{length}
use Rattle.cabi.specs.Begun.{block_is, costs_are}
use Rattle.cabi.proofs.riksamoe_start_block.Goals as goal

pub returns : goal.returns
returns c =
    let a = c.args in (
      block_is a.state a.block.now (not (eqb a.last 0)) c.start_from-read.ensures (length a.costs.now) c.take_block-r.ensures.0 c.take_block-r.ensures.1 c.started_back.ensures,
      costs_are a.state a.block.now (not (eqb a.last 0)) c.start_from-read.ensures a.costs.now c.take_block-r.ensures.2,
    )
