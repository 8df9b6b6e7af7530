-- `main` is safe: what was read fits the buffer, so the front of it can be handed on.
use mathlib.Core.Path.{sym}
use native.Mathlib.Omega.{arith}
use lib.Seq.{length-take-le}
use Rattle.floor.proofs.Laws.{read_fits}
use Rattle.floor.proofs.main.Goals as goal

pub slice_bounds-stream-end : goal.slice_bounds-stream-end
slice_bounds-stream-end c = omega (arith, read_fits _ _ _ c.in-Ok.ensures.0)

pub slice_bounds-print_floor-end : goal.slice_bounds-print_floor-end
slice_bounds-print_floor-end c = sym (length-take-le _ _ (omega (arith, read_fits _ _ _ c.in-Ok.ensures.0)))
