-- `of_file` meets its contract: accepted blocks are a view of the stream that they carry. Assumes nothing.
use Rattle.table.specs.FileLaws.{stream_viewed}
use Rattle.table.proofs.view.View.of_file.Goals as goal

pub invariant_of-result : goal.invariant_of-result
invariant_of-result c = record { viewed = stream_viewed c.args.file.now c.requires.0 c.requires.1 c.stream_length.result c.stream_length.ensures }
