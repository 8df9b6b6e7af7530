-- `u16_at` meets its contract: two bytes below 256 make a number below 65,536, and past the end both are 0.
-- Assumes nothing.
use mathlib.Core.Path.{sym}
use native.Mathlib.Omega.{arith}
use Rattle.base.specs.Bytes.Laws.{u16_past}
use Rattle.base.proofs.u16_at.Goals as goal

pub returns-then-s-k : goal.returns-then-s-k
returns-then-s-k c = let a = c.args in (sym (u16_past a.s.now a.k (omega arith)), omega arith)
