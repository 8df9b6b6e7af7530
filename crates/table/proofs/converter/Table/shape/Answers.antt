-- `shape` meets its contract: n stands behind what comes before it, the sizes behind n, and the file is a view of its stream.
-- Assumes nothing.
use mathlib.Core.Path.{ap, ◌∙◌}
use native.Mathlib.Omega.{arith}
use lib.ListN.{length}
use Rattle.table.specs.File.{stream_of}
use Rattle.table.specs.Form.Laws.{accepted-stream}
use Rattle.table.specs.Form.Pieces.{accepted_by, accepted_blocks, two-bytes-there, sizes-there, shape_read}
use Rattle.table.proofs.converter.Table.shape.Goals as goal

pub byte-requires : goal.byte-requires
byte-requires c =
    let f = c.args.self.now.bytes.now in
    let ok = accepted_by _ c.args.self.now.accepted in
    omega (arith, c.requires.1, two-bytes-there (stream_of f) (accepted-stream f ok))

pub of_file-requires : goal.of_file-requires
of_file-requires c = accepted_blocks c.args.self.now.bytes.now (accepted_by _ c.args.self.now.accepted)

pub sum_sizes-values-requires : goal.sum_sizes-values-requires
sum_sizes-values-requires c =
    let f = c.args.self.now.bytes.now in
    let t = sizes-there (stream_of f) (accepted-stream f (accepted_by _ c.args.self.now.accepted)) c.args.before c.from-n.result c.requires.0 (c.from-n.ensures ∙ c.byte.ensures) in
    (omega (arith, c.requires.1), t.1, omega (arith, t.0, c.of_file.result.viewed.counted, ap length c.of_file.ensures))

pub returns : goal.returns
returns c =
    let f = c.args.self.now.bytes.now in
    let sum = rw c.of_file.ensures at c.sum_sizes-values.ensures.0 in
    shape_read (stream_of f) (accepted-stream f (accepted_by _ c.args.self.now.accepted)) c.args.before c.from-n.result c.requires.0 (c.from-n.ensures ∙ c.byte.ensures) c.sum_sizes-values.result sum c.sum_sizes-values.ensures.1
