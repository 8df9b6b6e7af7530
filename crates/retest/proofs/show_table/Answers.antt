-- `show_table` is safe: the stream that was read is the front of the buffer.
use mathlib.Core.Path.{sym}
use native.Mathlib.Omega.{arith}
use lib.Seq.{length-take-le}
use Rattle.retest.proofs.Laws.{read_fits}
use Rattle.retest.proofs.show_table.Goals as goal

pub slice_bounds-stream-end : goal.slice_bounds-stream-end
slice_bounds-stream-end g c = omega (arith, read_fits _ _ _ c.in-Ok.ensures.0)

pub slice_bounds-show_stream-end : goal.slice_bounds-show_stream-end
slice_bounds-show_stream-end g c = sym (length-take-le _ _ (omega (arith, read_fits _ _ _ c.in-Ok.ensures.0)))
