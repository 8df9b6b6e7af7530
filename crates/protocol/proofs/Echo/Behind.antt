-- A CPA that was given back stays behind its sender: the sender's threshold has passed it, and it will not have it out again. So a CPA that is sent was
-- never sent before, though all that was sent may come again: a CPA going down has a stamp above all on record, one going back is not yet behind.
--
-- In order: `GivenBack`; of what a unit sends that assigns; a step of any unit keeps it, for what was sent before and what is sent now; `new_unsent`.
-- Assumes nothing.
use Rattle.std.specs.Prelude.{ℕ, zero, suc, ◌*◌, ◌≤◌, ◌<◌, ◌≡◌, ◌≢◌, ◌⊎◌, List}
use Rattle.std.proofs.Common.{sym, ◌∙◌, subst, inl, inr, arith}
use Rattle.base.specs.Members.{Every}
use Rattle.protocol.specs.Problem.{Problem, Laws}
use Rattle.protocol.specs.Machine.{Msg, down, back, request, estimate, solution, stop, to, Agent, done, step, put}
use Rattle.protocol.specs.Safety.Facts.{ValidMsg}
use Rattle.protocol.specs.Safety.Logs.{logs, Recorded, peak, Safe}
use Rattle.protocol.proofs.Safety.Network.{put_all, put_at}
use Rattle.protocol.specs.Liveness.Moves.{IsCpa, Moved}
use Rattle.protocol.specs.Liveness.Effect.{Threshold, Quiet, Effect}
use Rattle.protocol.proofs.Liveness.Effect.{to<n, effect}
use Rattle.protocol.specs.Liveness.Chain.{New}
use Rattle.protocol.specs.Echo.Behind.{Behind, GivenBack}

-- only CPAs need it
cpas_given_back : (us : ℕ → Agent) (x : Msg) → (IsCpa x → GivenBack us x) → GivenBack us x
cpas_given_back us (down k s b B l) f = tt
cpas_given_back us (back k s b B l) f = f tt
cpas_given_back us (request k j s b) f = tt
cpas_given_back us (estimate k j s e) f = tt
cpas_given_back us (solution k B l) f = tt
cpas_given_back us (stop k B l) f = tt

-- of what unit k sends when it assigns: one that it gives back is behind it
pub moved-given_back : (us : ℕ → Agent) (k s : ℕ) (b : List ℕ) (c : ℕ) (u : Agent) (ms : List Msg) → us k ≡ u → Moved k s b c (done u ms) → Every (GivenBack us) ms
moved-given_back us k s b c u ms e (inl w) x i = cpas_given_back us x (λ p. subst (GivenBack us) (sym (w.lone x i p)) tt)
moved-given_back us k s b c u ms e (inr w) x i = cpas_given_back us x (λ p. let g = w.lone x i p in subst (GivenBack us) (sym g.2) (at g.0 g.1))
  where
    at : (j : ℕ) → suc j ≡ k → Behind s (us (suc j))
    at j q = subst (Behind s) (sym (subst (λ y. us y ≡ u) (sym q) e)) (w.low, λ o z. absurd (omega (arith, o, w.own)))

-- ---- a step

module _ (P : Problem) (laws : Laws P) (us : ℕ → Agent) (safe : Safe P us) (m : Msg) (ok : ValidMsg P (Recorded (logs us)) m) (u : Agent) (ms : List Msg)
    (d : step P (us (to m)) m ≡ done u ms) where
  abbrev us' : ℕ → Agent
  us' = put us (to m) u

  abbrev X : ℕ
  X = peak (logs us) (to m)

  effected : Effect (to m) (Recorded (logs us)) X (us (to m)) m (done u ms)
  effected = subst (λ r. Effect (to m) (Recorded (logs us)) X (us (to m)) m r) d (effect P laws us safe m ok)

  -- the unit that steps stays past what it was past
  still_behind : (s : ℕ) → Behind s (us (to m)) → Behind s u
  still_behind s h = go effected
    where
      quiet : Quiet X (us (to m)) m u ms → Threshold X (us (to m)) u → Behind s u
      quiet q (inl z) = (omega (arith, z, h.0), λ o e. h.1 (omega (arith, o, q.own)) (sym q.prefix_stamp ∙ e))
      quiet q (inr z) = (omega (arith, z.1, z.2, h.0), λ o e. h.1 (omega (arith, o, q.own)) (sym q.prefix_stamp ∙ e))

      moved : (t : ℕ) (b : List ℕ) (c : ℕ) → s < t → Moved (to m) t b c (done u ms) → Behind s u
      moved t b c lt (inl w) = (omega (arith, w.threshold, w.prefix_stamp, lt), λ o e. absurd (omega (arith, w.prefix_stamp, e, lt)))
      moved t b c lt (inr w) = (omega (arith, w.low, lt), λ o e. absurd (omega (arith, o, w.own)))

      go : Effect (to m) (Recorded (logs us)) X (us (to m)) m (done u ms) → Behind s u
      go (inl q) = quiet q q.threshold
      go (inr (inl t)) = moved t.0 t.1 0 (omega (arith, t.3, h.0)) t.5
      go (inr (inr w)) =
          let ne : (us (to m)).prefix_stamp ≢ s = h.1 w.0 in
          let p = (safe (to m) (to<n P laws us safe m ok)).cpa w.0 in
          moved (us (to m)).prefix_stamp (us (to m)).prefix (us (to m)).counter (omega (arith, ne, w.1, h.0, p.counter, p.own, laws.size_le_16 (to m))) w.3

  pub given_back_stays : (x : Msg) → GivenBack us x → GivenBack us' x
  given_back_stays (down k s b B l) h = tt
  given_back_stays (back k s b B l) h = put_all us (to m) u (λ i x. Behind s (us i) → Behind s x) (still_behind s) (λ i ne g. g) (suc k) h
  given_back_stays (request k j s b) h = tt
  given_back_stays (estimate k j s e) h = tt
  given_back_stays (solution k B l) h = tt
  given_back_stays (stop k B l) h = tt

  pub given_back_now : Every (GivenBack us') ms
  given_back_now x i = go effected
    where
      go : Effect (to m) (Recorded (logs us)) X (us (to m)) m (done u ms) → GivenBack us' x
      go (inl q) = cpas_given_back us' x (λ p. absurd (q.no_cpa x i p))
      go (inr (inl t)) = moved-given_back us' (to m) t.0 t.1 0 u ms (put_at us (to m) u) t.5 x i
      go (inr (inr w)) = moved-given_back us' (to m) (us (to m)).prefix_stamp (us (to m)).prefix (us (to m)).counter u ms (put_at us (to m) u) w.3 x i

-- ---- a new CPA was never sent before

pub new_unsent : (P : Problem) (us : ℕ → Agent) (x : Msg) → IsCpa x → New us x → ValidMsg P (Recorded (logs us)) x → GivenBack us x → ⊥
new_unsent P us (down zero s b B l) c new ok given = absurd (omega (arith, ok.1))
new_unsent P us (down (suc k) s b B l) c new ok given = let o = ok.2 in absurd (omega (arith, new o.0 o.1, o.2))
new_unsent P us (back k s b B l) c new ok given = go new
  where
    go : ((us (suc k)).threshold ≤ s * 32) ⊎ ((1 ≤ (us (suc k)).own) × ((us (suc k)).prefix_stamp ≡ s)) → ⊥
    go (inl h) = absurd (omega (arith, h, given.0))
    go (inr h) = given.1 h.0 h.1
new_unsent P us (request k j s b) c new ok given = c
new_unsent P us (estimate k j s e) c new ok given = c
new_unsent P us (solution k B l) c new ok given = c
new_unsent P us (stop k B l) c new ok given = c
