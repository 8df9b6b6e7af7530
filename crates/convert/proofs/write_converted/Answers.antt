-- `write_converted` meets its contract: what the converter says it wrote fits the buffer, so the front of it can be handed on.
use mathlib.Core.Path.{sym}
use native.Mathlib.Omega.{arith}
use lib.Seq.{length-take-le}
use Rattle.table.specs.Form.Laws.{convert_fits}
use Rattle.convert.proofs.write_converted.Goals as goal

pub slice_bounds-out-end : goal.slice_bounds-out-end
slice_bounds-out-end g c = omega (arith, convert_fits _ _ _ _ c.in-Ok.ensures.0)

pub slice_bounds-write_all-end : goal.slice_bounds-write_all-end
slice_bounds-write_all-end g c = sym (length-take-le _ _ (omega (arith, convert_fits _ _ _ _ c.in-Ok.ensures.0)))
