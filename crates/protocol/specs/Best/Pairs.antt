-- Definitions. What is proved of them, and by them, is in proofs/Best/Pairs.antt. Assumes nothing.
use Rattle.std.specs.Prelude.{ℕ, suc, ◌≤◌, ◌<◌, pred, ◌≡◌, ◌⊎◌, List}
use Rattle.base.specs.Members.{In, Every}
use Rattle.protocol.specs.Problem.{Problem}
use Rattle.protocol.specs.Machine.{Msg, Agent, Network}
use Rattle.protocol.specs.Best.Told.{Carries, Has, Copies}

-- ---- the pairs there are

abbrev pub Seen : Problem → Network → ℕ → List ℕ → Type 0
Seen P S B l = ((k : ℕ) × (k < P.n) × Has (S.units k) B l) ⊎ ((m : Msg) × In m S.pool × Carries m B l)

pub record OneBest (P : Problem) (S : Network) : Type 0 where
  pub one : (B : ℕ) (l l' : List ℕ) → Seen P S B l → Seen P S B l' → l ≡ l'
  -- unit n's bound is the lowest
  pub last : (B : ℕ) (l : List ℕ) → Seen P S B l → (S.units (pred P.n)).bound ≤ B

-- ---- one unit's step: unit k becomes u and sends ms, with the messages `rest` still there

-- its pair was there, or it is new, unit n's and lower
abbrev pub Known : Problem → Network → ℕ → Agent → Type 0
Known P S k u = Seen P S u.bound u.best ⊎ ((suc k ≡ P.n) × (u.bound < (S.units k).bound))

pub record PairStep (P : Problem) (S : Network) (k : ℕ) (u : Agent) (ms : List Msg) : Type 0 where
  pub lt : k < P.n
  pub known : Known P S k u
  pub falls : u.bound ≤ (S.units k).bound
  pub copies : Every (Copies u) ms
