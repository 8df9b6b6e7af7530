-- Definitions. What is proved of them, and by them, is in proofs/Slots/Sends.antt. Assumes nothing.
use Rattle.std.specs.Prelude.{ℕ, ◌≡◌, ◌≢◌}
use Rattle.base.specs.Members.{Every}
use Rattle.protocol.specs.Machine.{Msg, to, Result, refused, done}
use Rattle.protocol.specs.Slots.Slot.{from, Apart}

-- ---- what unit k sends

abbrev pub Leaves : ℕ → ℕ → Msg → Type 0
Leaves n k y = (from n y ≡ k) × (to y ≢ k)

abbrev pub Sends : ℕ → ℕ → Result → Type 0
Sends n k refused = Unit {0}
Sends n k (done w ms) = Every (Leaves n k) ms × Apart n ms
