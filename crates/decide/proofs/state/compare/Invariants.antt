-- `compare` meets its contract. The loop's invariant: the first i places are equal.
-- Assumes nothing.
use Rattle.std.proofs.Common.{◌≡◌}
use Rattle.std.specs.declared.cmp.Ordering.TheVariants.{Equal}
use Rattle.rules.specs.State.{compare_on}
use Rattle.decide.proofs.state.compare.Given as goal

abbrev pub invariant-loop-i : goal.invariant-loop-i
invariant-loop-i l = compare_on l.i l.fn.a l.fn.b ≡ Equal
