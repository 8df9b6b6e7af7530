-- `lookahead` meets its contract. The loop's invariant: the first k numbers are known.
-- Assumes nothing.
use Rattle.std.proofs.Common.{◌≡◌, length}
use Rattle.costs.specs.Instance.{view_from}
use Rattle.costs.specs.Knowing.{Ahead}
use Rattle.costs.proofs.lookahead.Given as goal

abbrev pub invariant-loop-k : goal.invariant-loop-k
invariant-loop-k l = (length l.ahead ≡ 16) × Ahead (view_from l.seat l.costs) l.ahead l.k
