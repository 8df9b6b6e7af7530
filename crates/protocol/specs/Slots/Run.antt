-- Definitions, and CPAs by kind and sender. What is proved of them, and by them, is in proofs/Slots/Run.antt. Assumes nothing.
use Rattle.std.specs.Prelude.{ℕ, zero, suc, ◌+◌, ◌≤◌, ◌≡◌, refl, ◌≢◌, ◌⊎◌, List}
use Rattle.std.proofs.Common.{arith}
use Rattle.base.specs.Members.{In, Every}
use Rattle.protocol.specs.Problem.{Problem}
use Rattle.protocol.specs.Machine.{Msg, down, back, request, estimate, solution, stop, to, Agent, Network}
use Rattle.protocol.specs.Totals.{total}
use Rattle.protocol.specs.Theorem.{Kept}
use Rattle.protocol.specs.Liveness.Moves.{IsCpa, sender}
use Rattle.protocol.specs.Slots.Slot.{kind_of, from, slot_of}
use Rattle.protocol.specs.Slots.Order.{Behind}

-- What waits once m was taken out and ms were sent, where a message takes the slot of an older one: nothing but what waited or was sent; all that was
-- sent; all that waited, but m, whose slot no message that was sent has; and it weighs no more than it would without overwriting.
pub record Overwrites (n : ℕ) (pool : List Msg) (m : Msg) (ms new : List Msg) : Type 0 where
  pub only : Every (λ x. In x pool ⊎ In x ms) new
  pub sent : Every (λ x. In x new) ms
  pub stays : (x : Msg) → In x pool → x ≢ m → Every (λ y. slot_of n y ≢ slot_of n x) ms → In x new
  pub weighs : (f : Msg → ℕ) → total f new + f m ≤ total f pool + total f ms

-- ---- what is kept

-- a message that waits: for another unit than its sender, and not newer than its sender is
pub record Held (n : ℕ) (us : ℕ → Agent) (x : Msg) : Type 0 where
  pub other : to x ≢ from n x
  pub behind : Behind n us x

pub record KeptSlots (P : Problem) (S : Network) : Type 0 where
  pub kept : Kept P S
  pub held : Every (Held P.n S.units) S.pool

-- ---- CPAs by kind and sender

pub cpa_kind : (x : Msg) → IsCpa x → kind_of x ≡ 1
cpa_kind (down k s b B l) c = refl
cpa_kind (back k s b B l) c = refl
cpa_kind (request k j s b) c = absurd c
cpa_kind (estimate k j s e) c = absurd c
cpa_kind (solution k B l) c = absurd c
cpa_kind (stop k B l) c = absurd c

pub kind_cpa : (x : Msg) → kind_of x ≡ 1 → IsCpa x
kind_cpa (down k s b B l) e = tt
kind_cpa (back k s b B l) e = tt
kind_cpa (request k j s b) e = absurd (omega (arith, e))
kind_cpa (estimate k j s v) e = absurd (omega (arith, e))
kind_cpa (solution k B l) e = absurd (omega (arith, e))
kind_cpa (stop k B l) e = absurd (omega (arith, e))

pub cpa-sender : (n : ℕ) (x : Msg) → IsCpa x → sender x ≡ from n x
cpa-sender n (down zero s b B l) c = refl
cpa-sender n (down (suc k) s b B l) c = refl
cpa-sender n (back k s b B l) c = refl
cpa-sender n (request k j s b) c = absurd c
cpa-sender n (estimate k j s e) c = absurd c
cpa-sender n (solution k B l) c = absurd c
cpa-sender n (stop k B l) c = absurd c
