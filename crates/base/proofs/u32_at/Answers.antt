-- `u32_at` meets its contract: past the end, or past its first two bytes, what is not there counts as 0.
-- Assumes nothing.
use Prim.Native.Nat.{◌+◌}
use native.Mathlib.Omega.{arith}
use Rattle.base.specs.Bytes.Laws.{u16_past}
use Rattle.base.proofs.u32_at.Goals as goal

pub returns-then-s-k : goal.returns-then-s-k
returns-then-s-k c = let a = c.args in omega (arith, u16_past a.s.now a.k (omega arith), u16_past a.s.now (a.k + 2) (omega arith))

pub returns-then-s-k-lt2 : goal.returns-then-s-k-lt2
returns-then-s-k-lt2 c = let a = c.args in omega (arith, u16_past a.s.now (a.k + 2) (omega arith))
