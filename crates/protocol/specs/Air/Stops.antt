-- Definitions. What is proved of them, and by them, is in proofs/Air/Stops.antt. Assumes nothing.
use Rattle.std.specs.Prelude.{ℕ, ◌≤◌, ◌<◌, ◌≡◌, ◌⊎◌, true, List}
use Rattle.base.specs.Members.{In}
use Rattle.protocol.specs.Problem.{Problem}
use Rattle.protocol.specs.Machine.{Msg, stop, Agent, Network}
use Rattle.protocol.specs.Count.Tally.{Running}
use Rattle.protocol.specs.Best.Told.{Has}

-- ---- before and after unit 1 has stopped

abbrev pub StopOf : Agent → ℕ → Msg
StopOf w k = stop k w.bound w.best

pub record Stopping (P : Problem) (S : Network) : Type 0 where
  pub first : (S.units 0).stopped ≡ true
  pub stops : (k B : ℕ) (l : List ℕ) → In (stop k B l) S.pool → Has (S.units 0) B l
  pub same : (k : ℕ) → k < P.n → (S.units k).stopped ≡ true → Has (S.units 0) (S.units k).bound (S.units k).best
  pub due : (k : ℕ) → 1 ≤ k → k < P.n → ((S.units k).stopped ≡ true) ⊎ In (StopOf (S.units 0) k) S.pool

abbrev pub Ends : Problem → Network → Type 0
Ends P S = Running S ⊎ Stopping P S
