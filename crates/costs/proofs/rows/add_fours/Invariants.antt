-- `add_fours` meets its contract. The loop's invariant: the numbers before place 4 * four are added, four at a time; the sums from there on are as
-- they were. Assumes nothing.
use Rattle.std.proofs.Common.{ℕ, ◌+◌, ◌*◌}
use Rattle.base.specs.Bytes.{u16_at}
use Rattle.costs.specs.Rows.{widened, Passing}
use Rattle.costs.proofs.rows.add_fours.Given as goal

abbrev pub invariant-loop-four : goal.invariant-loop-four
invariant-loop-four l = Passing l.most (4 * l.four) (λ (k : ℕ). widened (u16_at l.costs (l.at + 2 * k))) l.initial.sums l.sums
