-- Definitions. What is proved of them, and by them, is in proofs/Echo/Behind.antt. Assumes nothing.
use Rattle.std.specs.Prelude.{ℕ, suc, ◌*◌, ◌≤◌, ◌<◌, ◌≢◌}
use Rattle.protocol.specs.Machine.{Msg, down, back, request, estimate, solution, stop, Agent}

-- a unit is past the CPA with stamp s of the units before it
abbrev pub Behind : ℕ → Agent → Type 0
Behind s u = (s * 32 < u.threshold) × (1 ≤ u.own → u.prefix_stamp ≢ s)

-- a CPA that was given back is behind its sender
abbrev pub GivenBack : (ℕ → Agent) → Msg → Type 0
GivenBack us (down k s b B l) = Unit {0}
GivenBack us (back k s b B l) = Behind s (us (suc k))
GivenBack us (request k j s b) = Unit {0}
GivenBack us (estimate k j s e) = Unit {0}
GivenBack us (solution k B l) = Unit {0}
GivenBack us (stop k B l) = Unit {0}
