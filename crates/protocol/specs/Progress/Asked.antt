-- Definitions. What is proved of them, and by them, is in proofs/Progress/Asked.antt. Assumes nothing.
use Rattle.std.specs.Prelude.{ℕ, suc, ◌*◌, ◌≤◌, ◌<◌, ◌⊎◌}
use Rattle.base.specs.Members.{In}
use Rattle.protocol.specs.Problem.{Problem}
use Rattle.protocol.specs.Machine.{Msg, request, Record, stamp_of, values_of, Result, refused, done, Network}

-- unit k's request to the next unit, for one of its records
abbrev pub asks : ℕ → Record → Msg
asks k r = request (suc k) k (stamp_of r) (values_of r)

-- ---- what a request leaves: a threshold that is not below its stamp

abbrev pub AtLeast : ℕ → Result → Type 0
AtLeast t refused = Unit {0}
AtLeast t (done w ms) = t * 32 ≤ w.threshold

-- ---- the network

abbrev pub Asked : Problem → Network → Type 0
Asked P S = (k : ℕ) → suc k < P.n → (r : Record) → In r (S.units k).log → In (asks k r) S.pool ⊎ (stamp_of r * 32 ≤ (S.units (suc k)).threshold)
