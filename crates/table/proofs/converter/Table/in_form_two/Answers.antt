-- `in_form_two` meets its contract: an accepted stream has a first byte. Assumes nothing.
use native.Mathlib.Omega.{arith}
use Rattle.table.specs.File.{stream_of}
use Rattle.table.specs.Form.Laws.{accepted-stream}
use Rattle.table.specs.Form.Pieces.{accepted_by, two-bytes-there}
use Rattle.table.proofs.converter.Table.in_form_two.Goals as goal

pub byte-requires : goal.byte-requires
byte-requires c =
    let f = c.args.self.now.bytes.now in
    omega (arith, two-bytes-there (stream_of f) (accepted-stream f (accepted_by _ c.args.self.now.accepted)))
