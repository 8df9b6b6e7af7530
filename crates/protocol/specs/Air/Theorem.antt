-- Definitions. What is proved of them, and by them, is in proofs/Air/Theorem.antt. Assumes nothing.
use Rattle.protocol.specs.Problem.{Problem}
use Rattle.protocol.specs.Machine.{Network}
use Rattle.protocol.specs.Safety.Network.{SafeNetwork}
use Rattle.protocol.specs.Liveness.Run.{Chain}
use Rattle.protocol.specs.Best.Pairs.{OneBest}
use Rattle.protocol.specs.Best.First.{First}
use Rattle.protocol.specs.Air.Stops.{Ends}
use Rattle.protocol.specs.Air.Tally.{AirBalance}

-- ---- what a run keeps

pub record KeptOnAir (P : Problem) (S : Network) : Type 0 where
  pub network : SafeNetwork P S
  pub chain : Chain P S
  pub pairs : OneBest P S
  pub first : First P S
  pub ends : Ends P S
  pub balance : AirBalance P S
