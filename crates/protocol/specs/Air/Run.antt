-- Boxes on the air: the units of Machine.antt without the shed. A network is the units and the messages in the air, its pool, which has no room limit.
-- An event names a position in the air: the message there goes to its receiver. A receiver that has stopped refuses it by 12; then nothing changes, the
-- message stays in the air and the event isn't counted as accepted. Any other receiver steps, and what it sends is in the air. Unit 1's stop gates nothing.
--
-- In order: an event and a run of events; what is claimed of every run (`OnAir`); the ways through an event and a run.
-- Assumes nothing.
use Rattle.std.specs.Prelude.{ℕ, suc, ◌+◌, ◌*◌, ◌-◌, ◌≤◌, ◌<◌, ◌≡◌, refl, ◌≢◌, Bool, true, false, cond, List, [], ◌∷◌, ◌++◌, take, drop}
use Rattle.std.proofs.Common.{sym, take-append-drop}
use Rattle.base.specs.Members.{In}
use Rattle.base.specs.Sums.{sum_to}
use Rattle.protocol.specs.Problem.{Problem, Closed, ValidBound, Passed, prefix_count}
use Rattle.protocol.specs.Machine.{Msg, to, Agent, Result, refused, done, is_last, step, Network, put}

-- ---- an event, and a run of them

abbrev pub land : Network → ℕ → List Msg → Result → Network
land S k rest refused = S
land S k rest (done u ms) = record { units = put S.units k u; pool = rest ++ ms; accepted = suc S.accepted }

module _ (P : Problem) where
  -- the Bool: the receiver has stopped
  abbrev pub receive : Bool → Network → List Msg → Msg → List Msg → Network
  receive true S before m after = S
  receive false S before m after = land S (to m) (before ++ after) (step P (S.units (to m)) m)

  abbrev pub arrive_at : Network → List Msg → List Msg → Network
  arrive_at S before [] = S
  arrive_at S before (m ∷ after) = receive (S.units (to m)).stopped S before m after

  abbrev pub arrive : Network → ℕ → Network
  arrive S c = arrive_at S (take c S.pool) (drop c S.pool)

  abbrev pub air : Network → List ℕ → Network
  air S [] = S
  air S (c ∷ cs) = air (arrive S c) cs

-- ---- what is claimed of a network that a run has come to

-- the most deliveries that follow from one record of unit k, not the last: its CPA going down and going back, a request to each later unit and its answer,
-- and, where the next unit is the last, n - 1 solutions
abbrev pub most_of : Problem → ℕ → ℕ
most_of P k = cond (is_last P (suc k)) (P.n + 3) (2 * (P.n - k))

-- the most deliveries that are accepted, n - 1 stops included; Cases.antt has runs that reach it
abbrev pub most_on_air : Problem → ℕ
most_on_air P = sum_to (λ k. most_of P k * prefix_count P.size (suc k)) (P.n - 1) + (P.n - 1)

abbrev pub AllStopped : Problem → Network → Type 0
AllStopped P S = (k : ℕ) → k < P.n → (S.units k).stopped ≡ true

-- m is in the air and its receiver would accept it
abbrev pub Acceptable : Problem → Network → Msg → Type 0
Acceptable P S m = In m S.pool × ((S.units (to m)).stopped ≡ false) × (step P (S.units (to m)) m ≢ refused)

pub record OnAir (P : Problem) (S : Network) : Type 0 where
  -- so many deliveries are accepted at most, and with that many all units have stopped
  pub bounded : S.accepted ≤ most_on_air P
  pub ends : S.accepted ≡ most_on_air P → AllStopped P S
  -- until all units have stopped a message that its receiver accepts is in the air
  pub waits : (k : ℕ) → k < P.n → (S.units k).stopped ≡ false → (m : Msg) × Acceptable P S m
  -- a unit that has stopped has a least total, none or that of its best, which is the first with that total in the order tried
  pub report : (k : ℕ) → k < P.n → (S.units k).stopped ≡ true → ValidBound P (S.units k).bound (S.units k).best
  pub least : (k : ℕ) → k < P.n → (S.units k).stopped ≡ true → Closed P [] (S.units k).bound
  pub first : (k : ℕ) → k < P.n → (S.units k).stopped ≡ true → Passed P (S.units k).best (suc (S.units k).bound)
  -- no unit refuses a message in the air by 11
  pub honest : (m : Msg) → In m S.pool → step P (S.units (to m)) m ≢ refused

-- ---- an event changes nothing, or is accepted

module _ (P : Problem) (S : Network) (Q : Network → Type 0) where
  abbrev pub Hears : Type 0
  Hears = (before after : List Msg) (m : Msg) (u : Agent) (ms : List Msg) → S.pool ≡ before ++ (m ∷ after) → (S.units (to m)).stopped ≡ false
      → step P (S.units (to m)) m ≡ done u ms
      → Q (record { units = put S.units (to m) u; pool = (before ++ after) ++ ms; accepted = suc S.accepted })

  pub arrive_cases : (c : ℕ) → Q S → Hears → Q (arrive P S c)
  arrive_cases c q f = at (take c S.pool) (drop c S.pool) (sym (take-append-drop c S.pool))
    where
      result : (b a : List Msg) (m : Msg) → S.pool ≡ b ++ (m ∷ a) → (S.units (to m)).stopped ≡ false → (res : Result) → step P (S.units (to m)) m ≡ res
          → Q (land S (to m) (b ++ a) res)
      result b a m e st refused d = q
      result b a m e st (done u ms) d = f b a m u ms e st d

      hears : (b a : List Msg) (m : Msg) → S.pool ≡ b ++ (m ∷ a) → (t : Bool) → (S.units (to m)).stopped ≡ t → Q (receive P t S b m a)
      hears b a m e true st = q
      hears b a m e false st = result b a m e st (step P (S.units (to m)) m) refl

      at : (b a : List Msg) → S.pool ≡ b ++ a → Q (arrive_at P S b a)
      at b [] e = q
      at b (m ∷ a) e = hears b a m e (S.units (to m)).stopped refl

-- ---- what every event keeps a run keeps

pub air_keeps : (P : Problem) (Q : Network → Type 0) → ((S : Network) (c : ℕ) → Q S → Q (arrive P S c)) → (S : Network) (cs : List ℕ) → Q S → Q (air P S cs)
air_keeps P Q f S [] q = q
air_keeps P Q f S (c ∷ cs) q = air_keeps P Q f (arrive P S c) cs (f S c q)
