-- `agreeing` meets its contract. The loop's invariant: `count` is how many of the first `number` tables agree.
use Rattle.std.proofs.Common.{◌≡◌, ◌≤◌}
use mathlib.Core.Bool.{cond}
use Rattle.base.specs.Sums.{sum_to}
use Rattle.tiny.specs.Tiny.{tiny_stream}
use Rattle.agreement.specs.Agreement.{agree_of}
use Rattle.agreement.proofs.agreeing.Given as goal

abbrev pub invariant-loop-number : goal.invariant-loop-number
invariant-loop-number l = (l.count ≤ l.number) × (l.count ≡ sum_to (λ x. cond (agree_of l.pool l.order (tiny_stream l.n x)) 1 0) l.number)
