-- `put_own` meets its contract. The loop's invariant: the first k own costs are written.
-- Assumes nothing.
use mathlib.Core.Path.{◌≡◌}
use Rattle.base.specs.Put.{put_at}
use Rattle.projections.specs.Made.{numbers, own_number}
use Rattle.projections.proofs.held.put_own.Given as goal

abbrev pub invariant-loop-k : goal.invariant-loop-k
invariant-loop-k l = l.out ≡ put_at l.initial.out 0 (numbers (own_number l.stream) l.k)
