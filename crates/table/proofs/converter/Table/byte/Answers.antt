-- `byte` meets its contract: the byte stands where the file's blocks put it.
-- Assumes nothing.
use Prim.Native.Nat.{ℕ}
use mathlib.Core.Path.{ap, ◌∙◌}
use native.Mathlib.Omega.{arith}
use lib.ListN.{get_or}
use Rattle.table.specs.Form.Pieces.{accepted_by, stream-most, stream_at}
use Rattle.table.proofs.converter.Table.byte.Goals as goal

pub place_in_file-requires : goal.place_in_file-requires
place_in_file-requires c = omega (arith, stream-most c.args.self.now.bytes.now (accepted_by _ c.args.self.now.accepted))

pub returns : goal.returns
returns c =
    let f = c.args.self.now.bytes.now in
    c.byte_at.ensures ∙ ap (λ (x : ℕ). get_or f x 0) c.place_in_file.ensures ∙ stream_at f (accepted_by _ c.args.self.now.accepted) c.args.k c.requires
