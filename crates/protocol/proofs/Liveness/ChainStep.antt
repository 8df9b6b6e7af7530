-- A step keeps the chain, unless unit 1 stops: `chain_step`, of any valid message and any pool. Down the chain to the unit that steps: a unit of the chain
-- keeps its CPA or moves it; the unit below the last keeps what waits for it, or takes it up; the rest of the chain is as it was.
--
-- In order: the unit that steps, by where it stands (in the chain, below a CPA on its way down, below one on its way back); what stands behind it;
-- the link of the chain where it stands; the chain.
-- Assumes nothing.
use Rattle.std.specs.Prelude.{ℕ, suc, ◌+◌, ◌*◌, ◌≤◌, ◌<◌, ◌≡◌, refl, ◌≢◌, ◌⊎◌, Bool, true, false, List, eqb}
use Rattle.std.proofs.Common.{sym, ap, ◌∙◌, subst, inl, inr, arith, eqb-true}
use Rattle.std.proofs.lemmas.Bool.{eqb-false}
use Rattle.base.specs.Members.{Every}
use Rattle.protocol.specs.Problem.{Problem, Laws}
use Rattle.protocol.specs.Machine.{Msg, down, back, to, Agent, stamp, values, done, step, put}
use Rattle.protocol.specs.Safety.Facts.{ValidMsg, Good}
use Rattle.protocol.proofs.Safety.Step.{the_cpa_out}
use Rattle.protocol.specs.Safety.Logs.{logs, Recorded, peak, Safe}
use Rattle.protocol.proofs.Safety.Logs.{top_bound}
use Rattle.protocol.specs.Safety.Network.{StepSafe}
use Rattle.protocol.proofs.Safety.Network.{before, put_at, put_other}
use Rattle.protocol.proofs.Safety.Run.{step_safe_at}
use Rattle.protocol.specs.Liveness.Moves.{NoCpa, Wrote, Backtracked, Moved}
use Rattle.protocol.specs.Liveness.Effect.{IsDown, NotDown, Stale, Threshold, Quiet, Took, Effect}
use Rattle.protocol.proofs.Liveness.Effect.{to<n, effect}
use Rattle.protocol.specs.Liveness.Chain.{Out, Rested, Live, is_down, is_back, deeper, Delivered}
use Rattle.protocol.proofs.Liveness.Chain.{live_out, link_down, link_back, link_deeper, peak-live}
use Rattle.protocol.specs.Liveness.ChainStep.{StillOut}

module _ (P : Problem) (laws : Laws P) (us : ℕ → Agent) (safe : Safe P us) (Wait Wait' : Msg → Type 0) (msgs : (x : Msg) → Wait x → ValidMsg P (Recorded (logs us)) x)
    (m : Msg) (ok : ValidMsg P (Recorded (logs us)) m) (u : Agent) (ms : List Msg) (d : step P (us (to m)) m ≡ done u ms) (pool : Delivered us m ms Wait Wait') where
  abbrev us' : ℕ → Agent
  us' = put us (to m) u

  abbrev X : ℕ
  X = peak (logs us) (to m)

  to_lt : to m < P.n
  to_lt = to<n P laws us safe m ok

  step_safe : StepSafe P us (to m) (done u ms)
  step_safe = step_safe_at P laws us safe m u ms d ok

  effected : Effect (to m) (Recorded (logs us)) X (us (to m)) m (done u ms)
  effected = subst (λ r. Effect (to m) (Recorded (logs us)) X (us (to m)) m r) d (effect P laws us safe m ok)

  other : (i : ℕ) → i ≢ to m → us' i ≡ us i
  other i ne = put_other us (to m) u i ne

  here_at : (k : ℕ) → to m ≡ k → us' k ≡ u
  here_at k e = subst (λ x. us' x ≡ u) e (put_at us (to m) u)

  -- a CPA taken up has a stamp that is not above the highest
  took_le : (t : Took (to m) (Recorded (logs us)) (us (to m)) m u ms) → t.0 ≤ X
  took_le t = (before P us safe (to m) (omega (arith, to_lt))).top t.0 t.1 t.2

  -- ---- the unit that steps is in the chain: it keeps its CPA, or moves it

  abbrev Self : ℕ → Type 0
  Self k = StillOut k (us k) m u ms ⊎ Moved k (us k).prefix_stamp (us k).prefix (us k).counter (done u ms)

  self : Out (us (to m)) → (us (to m)).prefix_stamp ≡ X → Self (to m)
  self o pk = go effected
    where
      quiet : Quiet X (us (to m)) m u ms → Threshold X (us (to m)) u → StillOut (to m) (us (to m)) m u ms
      quiet q (inr z) = absurd (omega (arith, z.2, z.3, o.1, pk))
      quiet q (inl z) =
          record {
            out = (omega (arith, q.own, o.0), omega (arith, z, o.1, q.prefix_stamp, q.counter));
            same_stamp = omega (arith, q.prefix_stamp, q.counter);
            same_values = cc (q.own, q.prefix);
            prefix_stamp = q.prefix_stamp;
            prefix = q.prefix;
            not_back = λ B l h. let st = subst (λ x. Stale (us (to m)) x) (sym h) q.stale in absurd (omega (arith, st, o.1));
            no_cpa = q.no_cpa;
          }

      go : Effect (to m) (Recorded (logs us)) X (us (to m)) m (done u ms) → Self (to m)
      go (inl q) = inl (quiet q q.threshold)
      go (inr (inl t)) = absurd (omega (arith, t.3, o.1, pk, took_le t, ((safe (to m) to_lt).cpa o.0).counter_pos))
      go (inr (inr w)) = inr w.3

  -- ---- the live CPA, with stamp Y, is on its way down to the unit that steps: it waits on, or is taken up

  abbrev Idle : ℕ → ℕ → Type 0
  Idle k Y =
      ((u.threshold ≤ Y * 32) × ((i : ℕ) (b : List ℕ) (B : ℕ) (l : List ℕ) → down i Y b B l ≢ m))
      ⊎ ((b : List ℕ) × Recorded (logs us) k Y b × Moved k Y b 0 (done u ms))

  idle : (Y : ℕ) → Y ≡ X → (us (to m)).threshold ≤ Y * 32 → Idle (to m) Y
  idle Y eY le = go effected
    where
      good' : Good P (to m) (Recorded (logs us')) (peak (logs us') (to m)) u
      good' = subst (λ x. Good P (to m) (Recorded (logs us')) (peak (logs us') (to m)) x) (put_at us (to m) u) (step_safe.0 (to m) to_lt)

      moved_threshold : (s : ℕ) (b : List ℕ) (c : ℕ) → Moved (to m) s b c (done u ms) → u.threshold ≤ s * 32 + 31
      moved_threshold s b c (inl w) = let p = good'.cpa w.own in omega (arith, w.threshold, w.prefix_stamp, p.counter, p.own, laws.size_le_16 (to m))
      moved_threshold s b c (inr w) = w.threshold

      quiet : Threshold X (us (to m)) u → u.threshold ≤ Y * 32
      quiet (inl z) = omega (arith, z)
      quiet (inr z) = omega (arith, z.1, z.3)

      taken_up : (t : Bool) (w : Took (to m) (Recorded (logs us)) (us (to m)) m u ms) → eqb w.0 Y ≡ t → Idle (to m) Y
      taken_up true w q =
          let e = eqb-true w.0 Y q in
          inr (w.1, subst (λ s. Recorded (logs us) (to m) s w.1) e w.2, subst (λ s. Moved (to m) s w.1 0 (done u ms)) e w.5)
      taken_up false w q =
          let ne : w.0 ≢ Y = eqb-false w.0 Y q in
          inl (
            omega (arith, ne, took_le w, eY, moved_threshold w.0 w.1 0 w.5),
            λ i b B l h. let z : Y ≡ w.0 = subst (λ x. IsDown w.0 x) (sym h) w.4 in ne (sym z),
          )

      go : Effect (to m) (Recorded (logs us)) X (us (to m)) m (done u ms) → Idle (to m) Y
      go (inl q) = inl (quiet q.threshold, λ i b B l h. let st = subst (λ x. Stale (us (to m)) x) (sym h) q.stale in absurd (omega (arith, st, le)))
      go (inr (inl w)) = taken_up (eqb w.0 Y) w refl
      go (inr (inr w)) =
          inl (
            omega (arith, w.1, le, ((safe (to m) to_lt).cpa w.0).counter_pos, moved_threshold (us (to m)).prefix_stamp (us (to m)).prefix (us (to m)).counter w.3),
            λ i b B l h. subst (λ x. NotDown x) (sym h) w.2,
          )

  -- ---- the unit that steps has given back the live CPA, with stamp Y: it stays at rest

  rest : (Y : ℕ) → Y ≡ X → Rested Y (us (to m)) → Rested Y u × Every NoCpa ms
  rest Y eY h = go effected
    where
      quiet : Quiet X (us (to m)) m u ms → Threshold X (us (to m)) u → Rested Y u × Every NoCpa ms
      quiet q (inl z) = ((q.own ∙ h.0, omega (arith, z, h.1)), q.no_cpa)
      quiet q (inr z) = absurd (omega (arith, z.2, z.3, h.1, eY))

      go : Effect (to m) (Recorded (logs us)) X (us (to m)) m (done u ms) → Rested Y u × Every NoCpa ms
      go (inl q) = quiet q q.threshold
      go (inr (inl t)) = absurd (omega (arith, t.3, h.1, eY, took_le t))
      go (inr (inr w)) = absurd (omega (arith, w.0, h.0))

  -- ---- the chain behind the unit that steps is as it was

  behind : {i : ℕ} → to m < i → Live P.n us Wait i → Live P.n us' Wait' i
  behind lt (is_down {k = k} o B l i h) =
      link_down P.n us' Wait' k (us k) (other k (omega arith)) o (us (suc k)) (other (suc k) (omega arith)) B l
      (pool.stay (down (suc k) (stamp (us k)) (values (us k)) B l) tt (λ q. absurd (omega (arith, ap to q))) (omega arith) i) h
  behind lt (is_back {k = k} o B l i h) =
      link_back P.n us' Wait' k (us k) (other k (omega arith)) o (us (suc k)) (other (suc k) (omega arith)) B l
      (pool.stay (back k (stamp (us k)) (values (us k)) B l) tt (λ q. absurd (omega (arith, ap to q))) (omega arith) i) h
  behind lt (deeper {k = k} o p v ln c) =
      link_deeper P.n us' Wait' k (us k) (other k (omega arith)) o (us (suc k)) (other (suc k) (omega arith)) p v ln (behind (omega arith) c)

  -- ---- what the chain from unit k on comes to: live, with unit k's prefix as it was; or unit k has stepped and given its CPA back

  abbrev After : ℕ → Type 0
  After k = (Live P.n us' Wait' k × ((us' k).prefix_stamp ≡ (us k).prefix_stamp) × ((us' k).prefix ≡ (us k).prefix)) ⊎ ((to m ≡ k) × Backtracked k (us k).prefix_stamp (us k).prefix u ms)

  elsewhere : (k : ℕ) → to m ≢ k → Live P.n us' Wait' k → After k
  elsewhere k ne c = let e = other k (λ q. ne (sym q)) in inl (c, ap (λ x. x.prefix_stamp) e, ap (λ x. x.prefix) e)

  -- the next unit's threshold is below a stamp that its unit before has just written
  next-lower : (k : ℕ) → suc k < P.n → (t : ℕ) → peak (logs us) (suc k) < t → (us (suc k)).threshold ≤ t * 32
  next-lower k lt t h = omega (arith, (safe (suc k) lt).threshold_peak, h)

  -- unit k is in the chain and steps. If it keeps its CPA the link is shown by `kept`
  self_after : (k : ℕ) → k < P.n → to m ≡ k → Out (us k) → (us k).prefix_stamp ≡ peak (logs us) k → (StillOut k (us k) m u ms → Live P.n us' Wait' k) → After k
  self_after k lt ek o pk kept = go (subst Self ek (self (subst (λ x. Out (us x)) (sym ek) o) (subst (λ x. (us x).prefix_stamp ≡ peak (logs us) x) (sym ek) pk)))
    where
      new_down : Wrote k (us k).prefix_stamp (us k).prefix (us k).counter u ms → Live P.n us' Wait' k
      new_down w =
          link_down P.n us' Wait' k u (here_at k ek) (w.own, w.threshold) (us (suc k)) (other (suc k) (omega (arith, ek))) u.bound u.best
          (pool.sent (down (suc k) (stamp u) (values u) u.bound u.best) tt w.sent (λ r i. omega (arith, (safe k lt).threshold r i, o.1, w.prefix_stamp, w.counter)))
          (next-lower k (step_safe.1 (down (suc k) (stamp u) (values u) u.bound u.best) w.sent).0 (stamp u)
          (omega (arith, peak-live P us safe k lt o pk, w.prefix_stamp, w.counter)))

      go : Self k → After k
      go (inl q) = inl (kept q, ap (λ x. x.prefix_stamp) (here_at k ek) ∙ q.prefix_stamp, ap (λ x. x.prefix) (here_at k ek) ∙ q.prefix)
      go (inr (inl w)) = inl (new_down w, ap (λ x. x.prefix_stamp) (here_at k ek) ∙ w.prefix_stamp, ap (λ x. x.prefix) (here_at k ek) ∙ w.prefix)
      go (inr (inr w)) = inr (ek, w)

  -- ---- the link where the CPA is on its way down

  at_down : (k : ℕ) → k < P.n → (us k).prefix_stamp ≡ peak (logs us) k → Out (us k) → (B : ℕ) (l : List ℕ) → Wait (down (suc k) (stamp (us k)) (values (us k)) B l)
      → (us (suc k)).threshold ≤ stamp (us k) * 32 → After k
  at_down k lt pk o B l i h = go (eqb (to m) k) (eqb (to m) (suc k)) refl refl
    where
      ls : suc k < P.n
      ls = (msgs (down (suc k) (stamp (us k)) (values (us k)) B l) i).0

      -- the CPA has come to unit k + 1
      arrived : to m ≡ suc k → (c : List ℕ) → c ≡ values (us k) → Moved (suc k) (stamp (us k)) c 0 (done u ms) → Live P.n us' Wait' k
      arrived ek c ec (inl w) =
          link_deeper P.n us' Wait' k (us k) (other k (omega (arith, ek))) o u (here_at (suc k) ek) w.prefix_stamp (w.prefix ∙ ec) ls
          (link_down P.n us' Wait' (suc k) u (here_at (suc k) ek) (w.own, w.threshold) (us (suc (suc k))) (other (suc (suc k)) (omega (arith, ek))) u.bound u.best
          (pool.sent (down (suc (suc k)) (stamp u) (values u) u.bound u.best) tt w.sent (λ r i. omega (arith, (safe (suc k) ls).threshold r i, h, w.prefix_stamp, w.counter)))
          (next-lower (suc k) (step_safe.1 (down (suc (suc k)) (stamp u) (values u) u.bound u.best) w.sent).0 (stamp u)
          (omega (arith, top_bound (us (suc k)).log (us (suc k)).threshold (safe (suc k) ls).threshold, h, peak-live P us safe k lt o pk, w.prefix_stamp, w.counter))))
      arrived ek c ec (inr w) =
          link_back P.n us' Wait' k (us k) (other k (omega (arith, ek))) o u (here_at (suc k) ek) u.bound u.best
          (subst (λ x. Wait' (back k (stamp (us k)) x u.bound u.best)) ec (pool.sent (back k (stamp (us k)) c u.bound u.best) tt w.gave (inl h))) (w.own, w.low)

      comes : to m ≡ suc k → Idle (suc k) (stamp (us k)) → Live P.n us' Wait' k
      comes ek (inl q) =
          link_down P.n us' Wait' k (us k) (other k (omega (arith, ek))) o u (here_at (suc k) ek) B l
          (pool.stay (down (suc k) (stamp (us k)) (values (us k)) B l) tt (q.1 (suc k) (values (us k)) B l) (omega (arith, ek)) i) q.0
      comes ek (inr q) =
          arrived ek q.0
          (the_cpa_out P laws k lt (Recorded (logs us)) (peak (logs us) k) (before P us safe k (omega arith)) (us k) (stamp (us k)) q.0 (safe k lt) q.1 (omega (arith, o.1))).2
          q.2

      go : (t t' : Bool) → eqb (to m) k ≡ t → eqb (to m) (suc k) ≡ t' → After k
      go true t' q q' =
          let ek = eqb-true (to m) k q in
          self_after k lt ek o pk
          (λ s.
          link_down P.n us' Wait' k u (here_at k ek) s.out (us (suc k)) (other (suc k) (omega (arith, ek))) B l
          (subst (λ z. Wait' (down (suc k) z (values u) B l)) (sym s.same_stamp) (subst (λ z. Wait' (down (suc k) (stamp (us k)) z B l)) (sym s.same_values)
          (pool.calm s.no_cpa (down (suc k) (stamp (us k)) (values (us k)) B l) tt (λ x. absurd (omega (arith, ap to x, ek))) i)))
          (omega (arith, s.same_stamp, h)))
      go false true q q' =
          let ek = eqb-true (to m) (suc k) q' in
          elsewhere k (eqb-false (to m) k q)
          (comes ek (subst (λ x. Idle x (stamp (us k))) ek
          (idle (stamp (us k)) (sym (peak-live P us safe k lt o pk) ∙ ap (peak (logs us)) (sym ek)) (subst (λ x. (us x).threshold ≤ stamp (us k) * 32) (sym ek) h))))
      go false false q q' =
          elsewhere k (eqb-false (to m) k q)
          (link_down P.n us' Wait' k (us k) (other k (λ x. eqb-false (to m) k q (sym x))) o (us (suc k)) (other (suc k) (λ x. eqb-false (to m) (suc k) q' (sym x))) B l
          (pool.stay (down (suc k) (stamp (us k)) (values (us k)) B l) tt (λ x. eqb-false (to m) (suc k) q' (sym (ap to x))) (λ x. eqb-false (to m) k q (sym x)) i) h)

  -- ---- the link where the CPA is on its way back

  at_back : (k : ℕ) → k < P.n → (us k).prefix_stamp ≡ peak (logs us) k → Out (us k) → (B : ℕ) (l : List ℕ) → Wait (back k (stamp (us k)) (values (us k)) B l)
      → Rested (stamp (us k)) (us (suc k)) → After k
  at_back k lt pk o B l i h = go (eqb (to m) k) (eqb (to m) (suc k)) refl refl
    where
      go : (t t' : Bool) → eqb (to m) k ≡ t → eqb (to m) (suc k) ≡ t' → After k
      go true t' q q' =
          let ek = eqb-true (to m) k q in
          self_after k lt ek o pk
          (λ s.
          link_back P.n us' Wait' k u (here_at k ek) s.out (us (suc k)) (other (suc k) (omega (arith, ek))) B l
          (subst (λ z. Wait' (back k z (values u) B l)) (sym s.same_stamp) (subst (λ z. Wait' (back k (stamp (us k)) z B l)) (sym s.same_values)
          (pool.stay (back k (stamp (us k)) (values (us k)) B l) tt (s.not_back B l) (omega (arith, ek)) i)))
          (subst (λ z. Rested z (us (suc k))) (sym s.same_stamp) h))
      go false true q q' =
          let ek = eqb-true (to m) (suc k) q' in
          let rs = rest (stamp (us k)) (sym (peak-live P us safe k lt o pk) ∙ ap (peak (logs us)) (sym ek)) (subst (λ x. Rested (stamp (us k)) (us x)) (sym ek) h) in
          elsewhere k (eqb-false (to m) k q)
          (link_back P.n us' Wait' k (us k) (other k (λ x. eqb-false (to m) k q (sym x))) o u (here_at (suc k) ek) B l
          (pool.calm rs.1 (back k (stamp (us k)) (values (us k)) B l) tt (λ x. eqb-false (to m) k q (sym (ap to x))) i) rs.0)
      go false false q q' =
          elsewhere k (eqb-false (to m) k q)
          (link_back P.n us' Wait' k (us k) (other k (λ x. eqb-false (to m) k q (sym x))) o (us (suc k)) (other (suc k) (λ x. eqb-false (to m) (suc k) q' (sym x))) B l
          (pool.stay (back k (stamp (us k)) (values (us k)) B l) tt (λ x. eqb-false (to m) k q (sym (ap to x))) (λ x. eqb-false (to m) (suc k) q' (sym x)) i) h)

  -- ---- a link with the chain going on behind it: the next unit may have given its CPA back

  at_deeper : (k : ℕ) → k < P.n → (us k).prefix_stamp ≡ peak (logs us) k → Out (us k) → (us (suc k)).prefix_stamp ≡ stamp (us k) → (us (suc k)).prefix ≡ values (us k) → suc k < P.n
      → Live P.n us Wait (suc k) → After (suc k) → After k
  at_deeper k lt pk o p v ls c ih = go (eqb (to m) k) refl ih
    where
      go : (t : Bool) → eqb (to m) k ≡ t → After (suc k) → After k
      go true q h =
          let ek = eqb-true (to m) k q in
          self_after k lt ek o pk
          (λ s.
          link_deeper P.n us' Wait' k u (here_at k ek) s.out (us (suc k)) (other (suc k) (omega (arith, ek))) (p ∙ sym s.same_stamp) (v ∙ sym s.same_values) ls
          (behind (omega (arith, ek)) c))
      go false q (inl h) =
          elsewhere k (eqb-false (to m) k q)
          (link_deeper P.n us' Wait' k (us k) (other k (λ x. eqb-false (to m) k q (sym x))) o (us' (suc k)) refl (h.1 ∙ p) (h.2 ∙ v) ls h.0)
      go false q (inr h) =
          elsewhere k (eqb-false (to m) k q)
          (link_back P.n us' Wait' k (us k) (other k (λ x. eqb-false (to m) k q (sym x))) o u (here_at (suc k) h.0) u.bound u.best
          (subst (λ z. Wait' (back k z (values (us k)) u.bound u.best)) p (subst (λ z. Wait' (back k (us (suc k)).prefix_stamp z u.bound u.best)) v
          (pool.sent (back k (us (suc k)).prefix_stamp (us (suc k)).prefix u.bound u.best) tt h.1.gave (inr ((live_out c).0, refl)))))
          (subst (λ z. Rested z u) p (h.1.own, h.1.low)))

  -- ---- the chain

  live-step : {k : ℕ} → k < P.n → (us k).prefix_stamp ≡ peak (logs us) k → Live P.n us Wait k → After k
  live-step lt pk (is_down {k = k} o B l i h) = at_down k lt pk o B l i h
  live-step lt pk (is_back {k = k} o B l i h) = at_back k lt pk o B l i h
  live-step lt pk (deeper {k = k} o p v ls c) = at_deeper k lt pk o p v ls c (live-step ls (p ∙ sym (peak-live P us safe k lt o pk)) c)

  pub chain_step : 0 < P.n → Live P.n us Wait 0 → ((us' 0).stopped ≡ true) ⊎ Live P.n us' Wait' 0
  chain_step lt l = go (live-step lt ((safe 0 lt).cpa (live_out l).0).past.0 l)
    where
      go : After 0 → ((us' 0).stopped ≡ true) ⊎ Live P.n us' Wait' 0
      go (inl h) = inr h.0
      go (inr h) = inl (subst (λ x. x.stopped ≡ true) (sym (here_at 0 h.0)) h.1.gave)
