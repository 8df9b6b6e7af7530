-- `taken` meets its contract: a row without a fault has a name, and a reading and a number of lots that fit.
-- Assumes nothing.
use native.Mathlib.Omega.{arith}
use Rattle.rows.specs.Sheet.Laws.{sound}
use Rattle.rows.proofs.reading.taken.Goals as goal

pub overflow_sub-entries : goal.overflow_sub-entries
overflow_sub-entries c = let f = sound c.args.r c.requires.2 in omega (arith, f.named)

pub overflow_cast-entries : goal.overflow_cast-entries
overflow_cast-entries c = let f = sound c.args.r c.requires.2 in record { fits = omega (arith, f.most) }

pub overflow_cast-entries-2 : goal.overflow_cast-entries-2
overflow_cast-entries-2 c = let f = sound c.args.r c.requires.2 in record { fits = omega (arith, f.few) }
