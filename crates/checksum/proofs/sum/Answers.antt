-- `sum` meets its contract: the check is the remainder of the sum. Assumes nothing.
use mathlib.Core.Path.{ap}
use Prim.Native.Nat.{ℕ, ◌%◌}
use Rattle.checksum.specs.Sum.{modulus, sum_of}
use Rattle.checksum.proofs.sum.Goals as goal

pub returns-then-bytes-le-CHECKED_SIZE : goal.returns-then-bytes-le-CHECKED_SIZE
unfolding sum_of
returns-then-bytes-le-CHECKED_SIZE c = ap (λ (x : ℕ). x % modulus) c.short_sum.ensures
