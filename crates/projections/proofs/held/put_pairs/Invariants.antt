-- `put_pairs` meets its contract. The loop's invariant: the first k pair costs are written.
-- Assumes nothing.
use mathlib.Core.Path.{◌≡◌}
use Rattle.base.specs.Put.{put_at}
use Rattle.projections.specs.Made.{numbers, pair_number}
use Rattle.projections.proofs.held.put_pairs.Given as goal

abbrev pub invariant-loop-k : goal.invariant-loop-k
invariant-loop-k l = l.out ≡ put_at l.initial.out l.at (numbers (pair_number l.stream) l.k)
