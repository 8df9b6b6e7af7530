-- `shed_core::states::units_in_range` meets its contract. Invariant: the first k units are in range. Assumes nothing.
use Rattle.std.proofs.Common.{◌≡◌, true}
use Rattle.base.specs.Every.{every}
use Rattle.runs.specs.Code.{unit_in_range}
use Rattle.shed_core.proofs.states.units_in_range.Given as goal

abbrev pub invariant-loop-k : goal.invariant-loop-k
invariant-loop-k l = every (unit_in_range l.order l.stream l.units) l.k ≡ true
