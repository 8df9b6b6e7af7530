-- `byte` meets its contract: the byte is that of the piece that it falls into.
-- Assumes nothing.
use mathlib.Core.Path.{◌∙◌}
use native.Mathlib.Omega.{arith}
use Rattle.table.specs.File.{stream_of}
use Rattle.table.specs.Form.Pieces.{accepted_by, stream-most, pieced_length, byte_rest}
use Rattle.table.proofs.converter.Pieced.byte.Goals as goal

pub overflow_add-pieces-2 : goal.overflow_add-pieces-2
overflow_add-pieces-2 c =
    record { fits = omega (arith, c.args.self.now.within.inside, c.args.self.now.within.few, pieced_length c.args.self.now.pieces (stream_of c.args.self.now.table.bytes.now) c.args.self.now.within, stream-most c.args.self.now.table.bytes.now (accepted_by _ c.args.self.now.table.accepted)) }

pub returns : goal.returns
returns c =
    c.byte-2.ensures ∙ byte_rest c.args.self.now.pieces (stream_of c.args.self.now.table.bytes.now) c.args.self.now.within c.args.k c.if-k-pieces.false c.if-behind-pieces.false c.if-last-pieces.false
