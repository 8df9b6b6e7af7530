-- `pieces_to_one` meets its contract: in form two one byte stands before n.
-- Assumes nothing.
use mathlib.Core.Path.{sym}
use native.Mathlib.Omega.{arith}
use Rattle.table.specs.File.{stream_of}
use Rattle.table.specs.StreamLaws.{opening-two}
use Rattle.table.specs.Form.Laws.{accepted-stream}
use Rattle.table.specs.Form.Pieces.{accepted_by, made_one}
use Rattle.table.proofs.converter.Table.pieces_to_one.Goals as goal

pub shape-shape-requires : goal.shape-shape-requires
shape-shape-requires c = let f = c.args.self.now.bytes.now in (sym (opening-two (stream_of f) c.requires), omega arith)

pub returns : goal.returns
returns c =
    let f = c.args.self.now.bytes.now in
    made_one (stream_of f) (accepted-stream f (accepted_by _ c.args.self.now.accepted)) c.shape-shape.result c.shape-shape.ensures c.requires
