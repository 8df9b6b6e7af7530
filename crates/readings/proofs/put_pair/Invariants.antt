-- `put_pair` meets its contract. The loop's invariant: the costs of the first u lots stand at their place. Assumes nothing.
use mathlib.Core.Path.{◌≡◌}
use Rattle.base.specs.Put.{put_at}
use Rattle.readings.specs.Pieces.{pair_of}
use Rattle.readings.proofs.put_pair.Given as goal

abbrev pub invariant-loop-u : goal.invariant-loop-u
invariant-loop-u l = l.stream ≡ put_at l.initial.stream l.at (pair_of l.cost l.u l.e)
