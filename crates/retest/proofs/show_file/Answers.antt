-- `show_file` is safe: what the converter says it wrote fits the buffer, so the front of it can be handed on.
use mathlib.Core.Path.{sym}
use native.Mathlib.Omega.{arith}
use lib.Seq.{length-take-le}
use Rattle.table.specs.Form.Laws.{convert_fits}
use Rattle.retest.proofs.show_file.Goals as goal

pub slice_bounds-two-end : goal.slice_bounds-two-end
slice_bounds-two-end g c = omega (arith, convert_fits _ _ _ _ c.in-Ok.ensures.0)

pub slice_bounds-show_table-end : goal.slice_bounds-show_table-end
slice_bounds-show_table-end g c = sym (length-take-le _ _ (omega (arith, convert_fits _ _ _ _ c.in-Ok.ensures.0)))
