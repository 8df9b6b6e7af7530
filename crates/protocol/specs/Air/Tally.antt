-- Definitions. What is proved of them, and by them, is in proofs/Air/Tally.antt. Assumes nothing.
use Rattle.std.specs.Prelude.{ℕ, ◌+◌, ◌-◌, ◌≤◌, Bool, true, false}
use Rattle.protocol.specs.Problem.{Problem}
use Rattle.protocol.specs.Machine.{Msg, down, back, request, estimate, solution, stop, Network}
use Rattle.protocol.specs.Totals.{total}
use Rattle.protocol.specs.Count.Weights.{weight}
use Rattle.protocol.specs.Count.Tally.{outs, fees}

-- ---- stops in a list

abbrev pub is_stop : Msg → ℕ
is_stop (down k s b B l) = 0
is_stop (back k s b B l) = 0
is_stop (request k j s b) = 0
is_stop (estimate k j s e) = 0
is_stop (solution k B l) = 0
is_stop (stop k B l) = 1

-- ---- the balance

-- what unit 1's stop pays for
abbrev pub stop_pays : Problem → Bool → ℕ
stop_pays P true = P.n - 1
stop_pays P false = 0

abbrev pub AirBalance : Problem → Network → Type 0
AirBalance P S = S.accepted + total (weight P) S.pool + total is_stop S.pool + outs P S.units ≤ fees P S.units + stop_pays P (S.units 0).stopped
