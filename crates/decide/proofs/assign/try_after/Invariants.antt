-- `try_after` meets its contract. The loop's invariant: what all values give is what those after v give, after the records written.
-- Each turn is a law of proofs/Trying. Assumes nothing.
use Prim.Native.Nat.{◌-◌}
use lib.ListN.{get_or}
use Rattle.costs.specs.Instance.{view_knowing}
use Rattle.costs.specs.Order.{left}
use Rattle.decide.proofs.Trying.{Tried}
use Rattle.decide.proofs.assign.try_after.Given as goal

abbrev pub invariant-loop-v : goal.invariant-loop-v
invariant-loop-v l = Tried (view_knowing l.seat l.costs l.ahead) l.seat.own (get_or l.seat.sizes (l.seat.own - 1) 0) l.from l.initial.t l.v l.records l.improved l.t

abbrev pub decreases-loop-v : goal.decreases-loop-v
decreases-loop-v l = left (view_knowing l.seat l.costs l.ahead) l.v
