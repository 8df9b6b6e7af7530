-- `len` meets its contract: the blocks of an accepted file are accepted. Assumes nothing.
use Rattle.table.specs.Form.Pieces.{accepted_by, accepted_blocks}
use Rattle.table.proofs.converter.Table.len.Goals as goal

pub stream_length-requires : goal.stream_length-requires
stream_length-requires c = accepted_blocks c.args.self.now.bytes.now (accepted_by _ c.args.self.now.accepted)
