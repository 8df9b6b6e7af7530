-- A message that is accepted keeps the network safe, units good and waiting messages valid; so does a delivery.
-- By the step of Network.antt and the cases of a delivery.
-- Assumes nothing.
use Rattle.std.specs.Prelude.{ℕ, suc, ◌≡◌, refl, ◌≢◌, List, ◌∷◌, ◌++◌}
use Rattle.std.proofs.Common.{sym, subst}
use Rattle.base.specs.Members.{In, here}
use Rattle.base.specs.Members.Laws.{in_right, in_more, every_append}
use Rattle.protocol.specs.Problem.{Problem, Laws}
use Rattle.protocol.specs.Machine.{Msg, to, Agent, refused, done, step, Network, put, deliver}
use Rattle.protocol.specs.Walk.{deliver_cases}
use Rattle.protocol.specs.Safety.Facts.{ValidMsg, valid_mono}
use Rattle.protocol.specs.Safety.Logs.{logs, Recorded, Safe}
use Rattle.protocol.specs.Safety.Network.{StepSafe, SafeNetwork}
use Rattle.protocol.proofs.Safety.Network.{recorded_grows, any_step}
use Rattle.protocol.specs.Safety.Run.{Among}

-- what an accepted delivery leaves, taken from the equation
pub step_safe_at : (P : Problem) (laws : Laws P) (us : ℕ → Agent) → Safe P us → (m : Msg) (u : Agent) (ms : List Msg) → step P (us (to m)) m ≡ done u ms
    → ValidMsg P (Recorded (logs us)) m → StepSafe P us (to m) (done u ms)
step_safe_at P laws us safe m u ms e ok = subst (λ r. StepSafe P us (to m) r) e (any_step P laws us safe m ok)

pub in_pool : (b a : List Msg) (m : Msg) {pool : List Msg} → pool ≡ b ++ (m ∷ a) → In m pool
in_pool b a m e = subst (λ l. In m l) (sym e) (in_right b (here refl))

pub taken : (b a : List Msg) (m : Msg) {pool : List Msg} → pool ≡ b ++ (m ∷ a) → Among pool m (b ++ a)
taken b a m e = record { waits = in_pool b a m e; still = λ x i. subst (λ p. In x p) (sym e) (in_more b m a i) }

pub heard : (m : Msg) {pool : List Msg} → In m pool → Among pool m pool
heard m i = record { waits = i; still = λ x j. j }

-- no unit refuses a message that waits
pub never_refused : (P : Problem) (laws : Laws P) (S : Network) → SafeNetwork P S → (m : Msg) → In m S.pool → step P (S.units (to m)) m ≢ refused
never_refused P laws S r m i e = subst (λ x. StepSafe P S.units (to m) x) e (any_step P laws S.units r.safe m (r.msgs m i))

-- a message that waits, its receiver's step put in place and what is sent added to what is left
pub accept_safe : (P : Problem) (laws : Laws P) (S : Network) → SafeNetwork P S → (m : Msg) (rest : List Msg) → Among S.pool m rest → (u : Agent) (ms : List Msg)
    → step P (S.units (to m)) m ≡ done u ms → SafeNetwork P (record { units = put S.units (to m) u; pool = rest ++ ms; accepted = suc S.accepted })
accept_safe P laws S r m rest w u ms d =
    let ok = r.msgs m w.waits in
    let l = step_safe_at P laws S.units r.safe m u ms d ok in
    let up : (m' : Msg) → ValidMsg P (Recorded (logs S.units)) m' → ValidMsg P (Recorded (logs (put S.units (to m) u))) m' =
    λ m' h. valid_mono P (recorded_grows (logs S.units) (logs (put S.units (to m) u)) l.2) m' h in
    record {
      safe = l.0;
      msgs = every_append _ rest ms (λ m' i. up m' (r.msgs m' (w.still m' i))) l.1;
    }

pub deliver_safe : (P : Problem) (laws : Laws P) (room : ℕ) (S : Network) (c : ℕ) → SafeNetwork P S → SafeNetwork P (deliver P room S c)
deliver_safe P laws room S c r = deliver_cases P room S (SafeNetwork P) c r (λ b a m u ms e st d le. accept_safe P laws S r m (b ++ a) (taken b a m e) u ms d)
