-- Definitions. What is proved of them, and by them, is in proofs/Echo/Run.antt. Assumes nothing.
use Rattle.std.specs.Prelude.{◌≡◌, ◌≢◌, ◌⊎◌, true, List, length}
use Rattle.base.specs.Members.{In, Every}
use Rattle.protocol.specs.Problem.{Problem}
use Rattle.protocol.specs.Machine.{Msg, Network}
use Rattle.protocol.specs.Safety.Network.{SafeNetwork}
use Rattle.protocol.specs.Liveness.Chain.{Live}
use Rattle.protocol.specs.Count.Tally.{Stops}
use Rattle.protocol.specs.Best.Pairs.{OneBest}
use Rattle.protocol.specs.Best.First.{First}
use Rattle.protocol.specs.Echo.Events.{Trace, Unheard}
use Rattle.protocol.specs.Echo.Behind.{GivenBack}

-- ---- what waits beside a message that is handed over: it was sent, and all that waits and is not that message is there
pub record Beside (T : Trace) (m : Msg) (rest : List Msg) : Type 0 where
  pub sent : Every (λ x. In x T.sent) rest
  pub others : (x : Msg) → x ≢ m → In x T.network.pool → In x rest

-- ---- what every event keeps

-- the units, and all that was ever sent as if it still waited
abbrev pub all_sent : Trace → Network
all_sent T = record { units = T.network.units; pool = T.sent; accepted = T.network.accepted }

pub record Kept (P : Problem) (T : Trace) : Type 0 where
  pub network : SafeNetwork P (all_sent T)
  pub pairs : OneBest P (all_sent T)
  pub first : First P (all_sent T)
  pub stops : Stops P (all_sent T)
  pub given_back : Every (GivenBack T.network.units) T.sent
  pub chain : ((T.network.units 0).stopped ≡ true) ⊎ Live P.n T.network.units (Unheard T) 0
  pub waiting_sent : Every (λ x. In x T.sent) T.network.pool
  pub handed_sent : Every (λ x. In x T.sent) T.handed
  pub counted : T.network.accepted ≡ length T.handed
