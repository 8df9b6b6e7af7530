-- Definitions. What is proved of them, and by them, is in proofs/Slots/Order.antt. Assumes nothing.
use Rattle.std.specs.Prelude.{ℕ, suc, ◌-◌, ◌≤◌, ◌<◌}
use Rattle.base.specs.Members.{Every}
use Rattle.protocol.specs.Machine.{Msg, to, Agent, Result, refused, done, pad}
use Rattle.protocol.specs.Slots.Slot.{kind_of, from, stamp_in}

-- ---- a message of unit k, which had threshold t and now is w

pub record Timely (k t : ℕ) (w : Agent) (y : Msg) : Type 0 where
  -- if it has a stamp
  pub newer : kind_of y < 4 → t < pad (k - to y) (suc (stamp_in y))
  pub behind : pad (k - to y) (stamp_in y) ≤ w.threshold

-- the threshold has not fallen from t, and all that is sent is timely
abbrev pub Timed : ℕ → ℕ → Result → Type 0
Timed k t refused = Unit {0}
Timed k t (done w ms) = (t ≤ w.threshold) × Every (Timely k t w) ms

-- ---- what was sent is behind its sender's threshold

abbrev pub Behind : ℕ → (ℕ → Agent) → Msg → Type 0
Behind n us x = pad (from n x - to x) (stamp_in x) ≤ (us (from n x)).threshold
