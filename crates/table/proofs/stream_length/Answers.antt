-- `stream_length` meets its contract: 506 bytes for each block before the last, and the last's count.
-- Assumes nothing.
use native.Mathlib.Omega.{arith}
use Rattle.table.specs.FileLaws.{stream_length}
use Rattle.table.proofs.stream_length.Goals as goal

pub returns : goal.returns
returns c =
    omega (arith, stream_length c.args.file.now c.requires.0 c.requires.1, c.u16_at.ensures.0)
