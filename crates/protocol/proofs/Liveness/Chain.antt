-- The live chain: from unit 1 on CPAs are out, each behind the one before, and the last one's CPA waits, going down or back. So a message waits.
-- The pool is any predicate `Wait` on messages; what a delivery must keep of it is `Delivered`, about CPAs alone.
--
-- In order: `Live`; `Delivered`; the chain over units that are known by equations; the stamp of a live unit is the highest there is.
-- Assumes nothing.
use Rattle.std.specs.Prelude.{ℕ, suc, ◌*◌, ◌≤◌, ◌<◌, ◌≡◌, refl, List}
use Rattle.std.proofs.Common.{sym, ap, ◌∙◌, subst, arith}
use Rattle.base.specs.Members.{In, here}
use Rattle.protocol.specs.Problem.{Problem}
use Rattle.protocol.specs.Machine.{Msg, down, back, Agent, stamp, values, record_of}
use Rattle.protocol.specs.Safety.Logs.{logs, peak, Safe}
use Rattle.protocol.proofs.Safety.Logs.{top_in, top_bound}
use Rattle.protocol.specs.Liveness.Chain.{Live, Out, Rested, deeper, is_back, is_down}

pub live_waits : {n : ℕ} {us : ℕ → Agent} {Wait : Msg → Type 0} {k : ℕ} → Live n us Wait k → (m : Msg) × Wait m
live_waits (is_down o B l i h) = (_, i)
live_waits (is_back o B l i h) = (_, i)
live_waits (deeper o p v lt c) = live_waits c

-- over any pool in which as much waits
pub live_mono : {n : ℕ} {us : ℕ → Agent} {Wait Wait' : Msg → Type 0} {k : ℕ} → ((x : Msg) → Wait x → Wait' x) → Live n us Wait k → Live n us Wait' k
live_mono f (is_down o B l i h) = is_down o B l (f _ i) h
live_mono f (is_back o B l i h) = is_back o B l (f _ i) h
live_mono f (deeper o p v lt c) = deeper o p v lt (live_mono f c)

pub live_out : {n : ℕ} {us : ℕ → Agent} {Wait : Msg → Type 0} {k : ℕ} → Live n us Wait k → Out (us k)
live_out (is_down o B l i h) = o
live_out (is_back o B l i h) = o
live_out (deeper o p v lt c) = o

-- ---- the chain's links, for units that are known by an equation

module _ (n : ℕ) (us : ℕ → Agent) (Wait : Msg → Type 0) (k : ℕ) (x : Agent) (ex : us k ≡ x) (o : Out x) where
  out_at : Out (us k)
  out_at = subst Out (sym ex) o

  pub link_down : (y : Agent) → us (suc k) ≡ y → (B : ℕ) (l : List ℕ) → Wait (down (suc k) (stamp x) (values x) B l) → y.threshold ≤ stamp x * 32 → Live n us Wait k
  link_down y ey B l i h =
      is_down out_at B l (subst (λ z. Wait (down (suc k) (stamp z) (values z) B l)) (sym ex) i)
      (subst (λ z. (us (suc k)).threshold ≤ stamp z * 32) (sym ex) (subst (λ z. z.threshold ≤ stamp x * 32) (sym ey) h))

  pub link_back : (y : Agent) → us (suc k) ≡ y → (B : ℕ) (l : List ℕ) → Wait (back k (stamp x) (values x) B l) → Rested (stamp x) y → Live n us Wait k
  link_back y ey B l i h =
      is_back out_at B l (subst (λ z. Wait (back k (stamp z) (values z) B l)) (sym ex) i)
      (subst (λ z. Rested (stamp z) (us (suc k))) (sym ex) (subst (λ z. Rested (stamp x) z) (sym ey) h))

  pub link_deeper : (y : Agent) → us (suc k) ≡ y → y.prefix_stamp ≡ stamp x → y.prefix ≡ values x → suc k < n → Live n us Wait (suc k) → Live n us Wait k
  link_deeper y ey p v lt c =
      deeper out_at (ap (λ z. z.prefix_stamp) ey ∙ p ∙ ap stamp (sym ex)) (ap (λ z. z.prefix) ey ∙ v ∙ ap values (sym ex)) lt c

-- ---- a live unit's stamp is the highest there is: so whatever else it is sent is stale
pub peak-live : (P : Problem) (us : ℕ → Agent) → Safe P us → (k : ℕ) → k < P.n → Out (us k) → (us k).prefix_stamp ≡ peak (logs us) k → peak (logs us) (suc k) ≡ stamp (us k)
peak-live P us safe k lt o e =
    omega (
      arith,
      top_bound (us k).log (us k).threshold (safe k lt).threshold,
      top_in (record_of (us k)) (us k).log (subst (λ L. In (record_of (us k)) L) (sym ((safe k lt).cpa o.0).last.1) (here refl)),
    )
