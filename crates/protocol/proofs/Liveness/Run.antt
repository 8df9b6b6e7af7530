-- Until unit 1 stops its chain is live, so a message waits: for a pool that is a list, after every message that is accepted, if CPAs wait on as `Delivered`
-- asks. So they do where the message is taken out and what is sent is put behind. By the chain's step (ChainStep.antt).
-- Assumes nothing.
use Rattle.std.specs.Prelude.{ℕ, suc, ◌-◌, ◌<◌, ◌≡◌, ◌≢◌, ◌⊎◌, false, List, [], ◌∷◌, ◌++◌}
use Rattle.std.proofs.Common.{ap, ◌∙◌, subst, inl, inr, arith}
use Rattle.base.specs.Members.{In}
use Rattle.base.specs.Members.Laws.{in_left, in_right, in_middle}
use Rattle.protocol.specs.Problem.{Problem, Laws}
use Rattle.protocol.specs.Machine.{Msg, to, Agent, fresh, Result, refused, done, counted, assign, step, Network, put, made, make}
use Rattle.protocol.specs.Tests.{true_not_false}
use Rattle.protocol.specs.Safety.Network.{SafeNetwork}
use Rattle.protocol.proofs.Safety.Network.{put_other}
use Rattle.protocol.specs.Liveness.Moves.{Moved}
use Rattle.protocol.proofs.Liveness.Moves.{try_moved}
use Rattle.protocol.specs.Liveness.Chain.{is_down, Delivered}
use Rattle.protocol.proofs.Liveness.ChainStep.{chain_step}
use Rattle.protocol.specs.Liveness.Run.{Chain}

-- what waits, where the message at a cell was taken out
pub taken_waits : (b a : List Msg) (m : Msg) (pool : List Msg) → pool ≡ b ++ (m ∷ a) → (x : Msg) → x ≢ m → In x pool → In x (b ++ a)
taken_waits b a m pool e x ne i = go (in_middle b m a (subst (λ p. In x p) e i))
  where
    go : (x ≡ m) ⊎ In x (b ++ a) → In x (b ++ a)
    go (inl q) = absurd (ne q)
    go (inr j) = j

pub list_delivered : (us : ℕ → Agent) (b a : List Msg) (m : Msg) (ms : List Msg) (pool : List Msg) → pool ≡ b ++ (m ∷ a) → Delivered us m ms (λ x. In x pool) (λ x. In x ((b ++ a) ++ ms))
list_delivered us b a m ms pool e =
    record {
      stay = λ x p ne se i. in_left ms (taken_waits b a m pool e x ne i);
      calm = λ np x p ne i. in_left ms (taken_waits b a m pool e x ne i);
      sent = λ x p i nw. in_right (b ++ a) i;
    }

module _ (P : Problem) (laws : Laws P) (lt : 0 < P.n) where
  -- unit 1 has stopped, and takes no message, or its chain is live
  pub accept_chain : (S : Network) → SafeNetwork P S → Chain P S → (m : Msg) → In m S.pool → (u : Agent) (ms new : List Msg)
      → Delivered S.units m ms (λ x. In x S.pool) (λ x. In x new) → (0 ≡ to m → (S.units 0).stopped ≡ false) → step P (S.units (to m)) m ≡ done u ms
      → Chain P (record { units = put S.units (to m) u; pool = new; accepted = suc S.accepted })
  accept_chain S r (inl h) m i u ms new w st d = inl (ap (λ x. x.stopped) (put_other S.units (to m) u 0 (λ q. true_not_false h (st q))) ∙ h)
  accept_chain S r (inr l) m i u ms new w st d = chain_step P laws S.units r.safe (λ x. In x S.pool) (λ x. In x new) r.msgs m (r.msgs m i) u ms d w lt l

  pub make_chain : Chain P (make P)
  make_chain = go (assign P 0 fresh) (try_moved P 0 (P.size 0 - 0) false (counted fresh) (omega arith, omega (arith, laws.size_le_16 0)))
    where
      go : (r : Result) → Moved 0 0 [] 0 r → Chain P (made r)
      go refused h = absurd h
      go (done u ms) (inl w) = inr (is_down (w.own, w.threshold) u.bound u.best w.sent (omega arith))
      go (done u ms) (inr w) = inl w.gave
