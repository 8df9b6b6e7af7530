-- `fill_block` meets its contract: the parts are written one behind the other, by the law that they make the block.
-- Assumes nothing.
use Rattle.table.specs.BlockLaws.{filled, sum_fits}
use Rattle.table.proofs.fill_block.Goals as goal

pub overflow_cast-check : goal.overflow_cast-check
overflow_cast-check c = record { fits = sum_fits _ _ c.sum-check.ensures }

pub returns : goal.returns
returns c =
    let z = c.args in
    filled z.number z.payload.now z.block.now c.requires.0 c.requires.1 c.put_u16.ensures c.put_u16-2.ensures c.put.ensures c.put_zeros.ensures c.sum-check.ensures c.put_u16-3.ensures
