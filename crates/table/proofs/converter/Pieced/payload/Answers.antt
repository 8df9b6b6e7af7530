-- `payload` meets its contract. The loop's invariant: the first i bytes are those of the result's stream from byte `from` on.
-- Assumes nothing.
use native.Mathlib.Omega.{arith}
use borrow.Author.Rules.{rules}
use Rattle.table.specs.File.{stream_of}
use Rattle.table.specs.Form.Pieces.{pieced, laid_more}
use Rattle.table.proofs.converter.Pieced.payload.Goals as goal

pub loop-i-preserved : goal.loop-i-preserved
loop-i-preserved c =
    (search rules, laid_more c.loop-i.payload (pieced c.args.self.now.pieces (stream_of c.args.self.now.table.bytes.now)) c.args.from c.loop-i.i c.byte.result (omega arith) (omega arith) c.loop-i.invariant.1 c.byte.ensures)
