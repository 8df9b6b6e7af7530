-- `pieces_to_two` meets its contract: in form one no byte stands before n.
-- Assumes nothing.
use mathlib.Core.Path.{sym}
use native.Mathlib.Omega.{arith}
use Rattle.table.specs.File.{stream_of}
use Rattle.table.specs.StreamLaws.{opening_one}
use Rattle.table.proofs.converter.Table.pieces_to_two.Goals as goal

pub shape-shape-requires : goal.shape-shape-requires
shape-shape-requires c = let f = c.args.self.now.bytes.now in (sym (opening_one (stream_of f) c.requires), omega arith)
