-- `read_block` meets its contract: the payload's end is within the block, by what holds of an accepted block.
-- Assumes nothing.
use mathlib.Core.Path.{sym}
use native.Mathlib.Omega.{arith}
use Rattle.table.specs.BlockLaws.{block_size_lem, block_most_lem}
use Rattle.table.proofs.read_block.Goals as goal

pub payload-requires : goal.payload-requires
payload-requires c =
    let a = c.args in
    let ok = sym c.in_ok-check_block.ensures in
    omega (arith, block_size_lem a.number a.last a.block.now ok, block_most_lem a.number a.last a.block.now ok)
