-- `raise_fits` meets its contract. The loop's invariant: the first k can be raised.
-- Assumes nothing.
use mathlib.Core.Path.{◌≡◌}
use mathlib.Core.Bool.{true}
use Prim.Native.Nat.{suc}
use lib.ListN.{get_or}
use Rattle.base.specs.Every.{every}
use Rattle.projections.specs.Moves.{raise_fits}
use Rattle.projections.specs.Steps.{run_place}
use Rattle.projections.proofs.runs.raise_fits.Given as goal

abbrev pub invariant-loop-k : goal.invariant-loop-k
invariant-loop-k l = every (λ i. raise_fits l.by (get_or l.costs (run_place l.run (suc i)) 0)) l.k ≡ true
