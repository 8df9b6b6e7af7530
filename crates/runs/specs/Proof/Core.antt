-- Definitions. What is proved of them, and by them, is in proofs/Steps/Core.antt. Assumes nothing.
use Rattle.std.specs.Prelude.{ℕ, ◌*◌, ◌%◌, ◌^◌, ◌≡◌, List, length}
use Rattle.costs.specs.declared.ValueOrder.{ValueOrder}
use Rattle.costs.specs.Instance.{instance_of}
use Rattle.costs.specs.Gather.{sizes_in}
use Rattle.rules.specs.Laws.Units.{AllInRange}
use Rattle.protocol.specs.Machine.{Agent}
use Rattle.protocol.specs.Simulation.Units.{Matches}
use Rattle.runs.specs.declared.Core.{Core}
use Rattle.runs.specs.Count.{value_of}
use Rattle.runs.specs.Run.{HistoryOf}

-- the units and counts follow: those of H, which are the machine's units us. How many were handed over is counted modulo 2^128, as echoes have no end.
pub record CoreFollows (order : ValueOrder) {W : Type 0} (s : List ℕ) (core : Core) (H : HistoryOf W) (us : ℕ → Agent) : Type 0 where
  pub matches : Matches order (instance_of s) H.units H.written us
  pub units : AllInRange order (instance_of s) (sizes_in s) H.units
  pub same : core.units ≡ H.units
  pub records : value_of core.records ≡ length H.written
  pub deliveries : value_of core.deliveries ≡ length H.handed % (2 ^ 64 * 2 ^ 64)
