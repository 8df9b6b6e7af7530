-- `zero_between` meets its contract. The loop's invariant: the whole answer is that of the bytes from place k on.
-- Assumes nothing.
use mathlib.Core.Path.{sym, ◌∙◌}
use native.Mathlib.Omega.{arith}
use Rattle.table.specs.BlockLaws.{zero_bad, zero_next, zero_end}
use Rattle.table.specs.File.{stream_of}
use Rattle.table.proofs.converter.Table.zero_between.Goals as goal

pub returns-then-byte-ne0 : goal.returns-then-byte-ne0
returns-then-byte-ne0 c =
    zero_bad (stream_of c.args.self.now.bytes.now) c.loop-k.k c.args.to c.requires.1 c.loop-k.invariant (omega arith) (λ e. c.if-byte-ne0.true (c.byte.ensures ∙ e))

pub loop-k-preserved : goal.loop-k-preserved
loop-k-preserved c =
    zero_next (stream_of c.args.self.now.bytes.now) c.loop-k.k c.args.to c.requires.1 c.loop-k.invariant (omega arith) (sym c.byte.ensures ∙ c.if-byte-ne0.false)

pub returns : goal.returns
returns c =
    zero_end (stream_of c.args.self.now.bytes.now) c.loop-k.k c.args.to c.requires.1 c.loop-k.invariant (omega arith)
