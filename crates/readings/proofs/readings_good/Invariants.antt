-- `readings_good` meets its contract. The loop's invariant: the first k readings are in range. Assumes nothing.
use mathlib.Core.Path.{◌≡◌}
use mathlib.Core.Bool.{true}
use Rattle.base.specs.Every.{every}
use Rattle.readings.specs.Readings.{reading_good, reading_at}
use Rattle.readings.proofs.readings_good.Given as goal

abbrev pub invariant-loop-k : goal.invariant-loop-k
invariant-loop-k l = every (λ i. reading_good (reading_at l.readings i)) l.k ≡ true
