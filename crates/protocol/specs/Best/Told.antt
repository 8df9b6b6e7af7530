-- Definitions. What is proved of them, and by them, is in proofs/Best/Told.antt. Assumes nothing.
use Rattle.std.specs.Prelude.{ℕ, suc, ◌≤◌, ◌<◌, ◌≡◌, ◌⊎◌, List}
use Rattle.base.specs.Members.{Every}
use Rattle.protocol.specs.Problem.{Problem}
use Rattle.protocol.specs.Machine.{Msg, down, back, request, estimate, solution, stop, to, Agent, Result, refused, done}

-- ---- the pair that a message carries, and a unit has

abbrev pub Carries : Msg → ℕ → List ℕ → Type 0
Carries (down k s b B l) C c = (C ≡ B) × (c ≡ l)
Carries (back k s b B l) C c = (C ≡ B) × (c ≡ l)
Carries (request k j s b) C c = ⊥
Carries (estimate k j s e) C c = ⊥
Carries (solution k B l) C c = (C ≡ B) × (c ≡ l)
Carries (stop k B l) C c = (C ≡ B) × (c ≡ l)

abbrev pub Has : Agent → ℕ → List ℕ → Type 0
Has u C c = (C ≡ u.bound) × (c ≡ u.best)

-- a message with the pair of w, or none
abbrev pub Copies : Agent → Msg → Type 0
Copies w x = (C : ℕ) (c : List ℕ) → Carries x C c → Has w C c

-- ---- assigning, from the pair (B, l) on

pub record Tells (P : Problem) (k B : ℕ) (l : List ℕ) (w : Agent) (ms : List Msg) : Type 0 where
  pub pair : ((w.bound ≡ B) × (w.best ≡ l)) ⊎ ((suc k ≡ P.n) × (w.bound < B))
  pub copies : Every (Copies w) ms

abbrev pub Told : Problem → ℕ → ℕ → List ℕ → Result → Type 0
Told P k B l refused = Unit {0}
Told P k B l (done w ms) = Tells P k B l w ms

-- ---- a step of the unit u on m

-- the pair that the unit is left with was its own, or m's, or is new
pub record StepTells (P : Problem) (u : Agent) (m : Msg) (w : Agent) (ms : List Msg) : Type 0 where
  pub source : (Has u w.bound w.best ⊎ Carries m w.bound w.best) ⊎ ((suc (to m) ≡ P.n) × (w.bound < u.bound))
  pub falls : w.bound ≤ u.bound
  pub copies : Every (Copies w) ms

abbrev pub StepTold : Problem → Agent → Msg → Result → Type 0
StepTold P u m refused = Unit {0}
StepTold P u m (done w ms) = StepTells P u m w ms
