-- Every record is asked of the next unit: the request for it waits, or has been delivered, and then that unit's threshold is not below the record's stamp.
-- So where no request waits, a CPA on its way down that is not stale is the last one sent.
-- By the walk over assigning (a record's request is sent with it) and by the effect of a step (no threshold falls below a stamp of the units before).
--
-- In order: what is sent with a record; what a request leaves; no threshold falls; `Asked`, kept by a delivery and had by making.
-- Assumes nothing.
use Rattle.std.specs.Prelude.{ℕ, suc, ◌*◌, ◌-◌, ◌/◌, ◌≤◌, ◌<◌, ◌≡◌, refl, ◌⊎◌, Bool, true, false, List, [], ◌∷◌, ◌++◌, ltb}
use Rattle.std.proofs.Common.{sym, ap, subst, inl, inr, arith, ltb-true, ltb-false}
use Rattle.base.specs.Members.{In, here, there}
use Rattle.base.specs.Members.Laws.{in-cases, in_left, in_right, in_middle, not-in-nil}
use Rattle.protocol.specs.Problem.{Problem, Laws}
use Rattle.protocol.specs.Machine.{Msg, down, back, request, estimate, solution, stop, to, to_each, Record, stamp_of, values_of, Agent, fresh, with_bound, Result, refused, done, take_bound, next_record, write, counted, received, pad, raise, store, halt, send_down, try_from, assign, resume, on_request, step, Network, put, made, make, deliver}
use Rattle.protocol.specs.Walk.{take_bound_cases, try_walk, resume_cases, down_walk, back_walk, request_walk, estimate_walk, deliver_cases}
use Rattle.protocol.specs.Safety.Facts.{ValidMsg}
use Rattle.protocol.specs.Safety.Logs.{logs, Recorded, peak, Safe}
use Rattle.protocol.specs.Safety.Network.{SafeNetwork}
use Rattle.protocol.proofs.Safety.Network.{put_all, put_at}
use Rattle.protocol.proofs.Safety.Run.{in_pool}
use Rattle.protocol.specs.Liveness.Moves.{Wrote, Backtracked}
use Rattle.protocol.specs.Liveness.Effect.{Threshold, Effect}
use Rattle.protocol.proofs.Liveness.Effect.{to<n, effect}
use Rattle.protocol.specs.Progress.Asked.{Asked, AtLeast, asks}

-- ---- a record's request is sent with it, by every unit but the last

module _ (P : Problem) (k : ℕ) (lt : suc k < P.n) where
  abbrev Sent : List Record → Result → Type 0
  Sent L refused = Unit {0}
  Sent L (done w ms) = (r : Record) → In r w.log → In r L ⊎ In (asks k r) ms

  write_sent : (u : Agent) → Sent u.log (done (write u) (send_down P k (write u)))
  write_sent u r i = go (in-cases i)
    where
      first : (d : ℕ) → P.n - suc k ≡ suc d → In (asks k (next_record u)) (send_down P k (write u))
      first d e =
          there (subst (λ x. In (asks k (next_record u)) (to_each (λ j. request j k (stamp_of (next_record u)) (values_of (next_record u))) (suc k) x)) (sym e) (here refl))

      go : (r ≡ next_record u) ⊎ In r u.log → In r u.log ⊎ In (asks k r) (send_down P k (write u))
      go (inl e) = inr (subst (λ q. In (asks k q) (send_down P k (write u))) (sym e) (first (P.n - suc (suc k)) (omega arith)))
      go (inr j) = inl j

  try_sent : (m : ℕ) (better : Bool) (u : Agent) → Sent u.log (try_from P k m better u)
  try_sent m better u =
      try_walk P k (λ m better u. Unit {0}) (λ u r. Sent u.log r)
      (record {
        stuck = λ better u q r i. inl i;
        sends = λ m better u q lo ne. write_sent u;
        solves = λ m better u q lo e. absurd (omega (arith, e));
        skips = λ m better u q le. (tt, λ r h. h);
      })
      m better u tt

  took_sent : (B : ℕ) (l : List ℕ) (u : Agent) → Sent u.log (resume P k (take_bound B l u))
  took_sent B l u =
      take_bound_cases (λ C m. Unit {0}) (λ w. Sent u.log (resume P k w)) B l u tt tt
      (λ C m a b ok. resume_cases P k (Sent u.log) (with_bound C m u) (λ full r i. inl i) (try_sent (P.size k - u.own) false (counted (with_bound C m u))))

step_sent : (P : Problem) (u : Agent) (m : Msg) (lt : suc (to m) < P.n) → Sent P (to m) lt u.log (step P u m)
step_sent P u (down k s b B l) lt = down_walk P u (Sent P k lt u.log) k s b B l (λ st r i. inl i) (λ le. took_sent P k lt B l (received s b u))
step_sent P u (back k s b B l) lt = back_walk P u (Sent P k lt u.log) k s b B l (λ st r i. inl i) (λ le e. took_sent P k lt B l u) (λ le e. tt)
step_sent P u (request k j s b) lt = request_walk P u (Sent P k lt u.log) k j s b (λ r i. inl i) (λ e r i. inl i) (λ h r i. inl i)
step_sent P u (estimate k j s e) lt =
    estimate_walk P u (Sent P k lt u.log) k j s e (λ st r i. inl i) (λ le f full. try_sent P k lt (P.size k - u.own) false (counted (store j e u))) (λ le f r i. inl i) (λ le f. tt)
step_sent P u (solution k B l) lt = take_bound_cases (λ C m. Unit {0}) (λ w. Sent P k lt u.log (done w [])) B l u tt tt (λ C m a b ok r i. inl i)
step_sent P u (stop k B l) lt = take_bound_cases (λ C m. Unit {0}) (λ w. Sent P k lt u.log (done (halt w) [])) B l u tt tt (λ C m a b ok r i. inl i)

pub on_request_at_least : (P : Problem) (u : Agent) (k j t s : ℕ) (b : List ℕ) → AtLeast t (on_request P k (ltb t (u.threshold / 32)) u t j s b)
on_request_at_least P u k j t s b = go (ltb t (u.threshold / 32)) refl
  where
    raised : (z : Bool) → ltb (u.threshold / 32) t ≡ z → t * 32 ≤ (raise z t u).threshold
    raised true e = omega arith
    raised false e = omega (arith, ltb-false (u.threshold / 32) t e)

    go : (z : Bool) → ltb t (u.threshold / 32) ≡ z → AtLeast t (on_request P k z u t j s b)
    go true e = omega (arith, ltb-true t (u.threshold / 32) e)
    go false e = raised (ltb (u.threshold / 32) t) refl

request_at_least : (P : Problem) (u : Agent) (k s : ℕ) (b : List ℕ) → AtLeast s (step P u (request (suc k) k s b))
request_at_least P u k s b =
    let d : suc k - suc k ≡ 0 = omega arith in
    let e : pad (suc k - suc k) s ≡ s = rw d (omega arith) in
    subst (λ x. AtLeast x (step P u (request (suc k) k s b))) e (on_request_at_least P u (suc k) k (pad (suc k - suc k) s) s b)

-- ---- no threshold falls below a stamp of the units before that it has reached

module _ (P : Problem) (laws : Laws P) (us : ℕ → Agent) (safe : Safe P us) where
  threshold_stays : (m : Msg) → ValidMsg P (Recorded (logs us)) m → (w : Agent) (ms : List Msg) → step P (us (to m)) m ≡ done w ms → (t : ℕ) → t * 32 ≤ (us (to m)).threshold
      → t * 32 ≤ w.threshold
  threshold_stays m ok w ms d t h =
      go (subst (λ r. Effect (to m) (Recorded (logs us)) (peak (logs us) (to m)) (us (to m)) m r) d (effect P laws us safe m ok))
    where
      raised : Threshold (peak (logs us) (to m)) (us (to m)) w → t * 32 ≤ w.threshold
      raised (inl e) = omega (arith, e, h)
      raised (inr e) = omega (arith, e.1, e.2, h)

      moved : (s : ℕ) (b : List ℕ) (c : ℕ) → t ≤ s → Wrote (to m) s b c w ms ⊎ Backtracked (to m) s b w ms → t * 32 ≤ w.threshold
      moved s b c le (inl e) = omega (arith, e.threshold, e.prefix_stamp, le)
      moved s b c le (inr e) = omega (arith, e.low, le)

      go : Effect (to m) (Recorded (logs us)) (peak (logs us) (to m)) (us (to m)) m (done w ms) → t * 32 ≤ w.threshold
      go (inl q) = raised q.threshold
      go (inr (inl q)) = moved q.0 q.1 0 (omega (arith, h, q.3)) q.5
      go (inr (inr q)) =
          let p = (safe (to m) (to<n P laws us safe m ok)).cpa q.0 in
          moved (us (to m)).prefix_stamp (us (to m)).prefix (us (to m)).counter (omega (arith, h, q.1, p.counter, p.own, laws.size_le_16 (to m))) q.3

module _ (P : Problem) (laws : Laws P) (S : Network) (safe : SafeNetwork P S) (h : Asked P S) (b a : List Msg) (m : Msg) (u : Agent) (ms : List Msg) (e : S.pool ≡ b ++ (m ∷ a))
    (d : step P (S.units (to m)) m ≡ done u ms) where
  abbrev us' : ℕ → Agent
  us' = put S.units (to m) u

  ok : ValidMsg P (Recorded (logs S.units)) m
  ok = safe.msgs m (in_pool b a m e)

  stays : (i t : ℕ) → t * 32 ≤ (S.units i).threshold → t * 32 ≤ (us' i).threshold
  stays = put_all S.units (to m) u (λ i x. (t : ℕ) → t * 32 ≤ (S.units i).threshold → t * 32 ≤ x.threshold)
      (λ t le. threshold_stays P laws S.units safe.safe m ok u ms d t le) (λ i ne t le. le)

  -- a record of before
  older : (k : ℕ) (r : Record) → In (asks k r) S.pool ⊎ (stamp_of r * 32 ≤ (S.units (suc k)).threshold) → In (asks k r) ((b ++ a) ++ ms) ⊎ (stamp_of r * 32 ≤ (us' (suc k)).threshold)
  older k r (inr le) = inr (stays (suc k) (stamp_of r) le)
  older k r (inl i) = go (in_middle b m a (subst (λ p. In (asks k r) p) e i))
    where
      reached : asks k r ≡ m → stamp_of r * 32 ≤ (us' (suc k)).threshold
      reached q =
          let e₁ : us' (suc k) ≡ u = subst (λ x. us' x ≡ u) (ap to (sym q)) (put_at S.units (to m) u) in
          let z : AtLeast (stamp_of r) (step P (S.units (suc k)) (asks k r)) = request_at_least P (S.units (suc k)) k (stamp_of r) (values_of r) in
          let y : AtLeast (stamp_of r) (done u ms) = subst (AtLeast (stamp_of r)) d (subst (λ x. AtLeast (stamp_of r) (step P (S.units (to x)) x)) q z) in
          subst (λ x. stamp_of r * 32 ≤ x.threshold) (sym e₁) y

      go : (asks k r ≡ m) ⊎ In (asks k r) (b ++ a) → In (asks k r) ((b ++ a) ++ ms) ⊎ (stamp_of r * 32 ≤ (us' (suc k)).threshold)
      go (inl q) = inr (reached q)
      go (inr j) = inl (in_left ms j)

  asked : (k : ℕ) → suc k < P.n → (r : Record) → In r (us' k).log → In (asks k r) ((b ++ a) ++ ms) ⊎ (stamp_of r * 32 ≤ (us' (suc k)).threshold)
  asked =
      put_all S.units (to m) u
      (λ k x. suc k < P.n → (r : Record) → In r x.log → In (asks k r) ((b ++ a) ++ ms) ⊎ (stamp_of r * 32 ≤ (us' (suc k)).threshold))
      (λ lt r i. new lt r (subst (Sent P (to m) lt (S.units (to m)).log) d (step_sent P (S.units (to m)) m lt) r i))
      (λ k ne lt r i. older k r (h k lt r i))
    where
      new : suc (to m) < P.n → (r : Record) → In r (S.units (to m)).log ⊎ In (asks (to m) r) ms → In (asks (to m) r) ((b ++ a) ++ ms) ⊎ (stamp_of r * 32 ≤ (us' (suc (to m))).threshold)
      new lt r (inl i) = older (to m) r (h (to m) lt r i)
      new lt r (inr i) = inl (in_right (b ++ a) i)

module _ (P : Problem) (laws : Laws P) where
  pub deliver-asked : (room : ℕ) (S : Network) (c : ℕ) → SafeNetwork P S → Asked P S → Asked P (deliver P room S c)
  deliver-asked room S c safe h = deliver_cases P room S (Asked P) c h (λ b a m u ms e st d le. asked P laws S safe h b a m u ms e d)

  pub make-asked : Asked P (make P)
  make-asked = go (assign P 0 fresh) (λ lt. try_sent P 0 lt (P.size 0 - 0) false (counted fresh))
    where
      go : (r : Result) → ((lt : 1 < P.n) → Sent P 0 lt [] r) → Asked P (made r)
      go refused f = λ k lt r i. absurd (not-in-nil i)
      go (done u ms) f =
          put_all (λ k. fresh) 0 u (λ k x. suc k < P.n → (r : Record) → In r x.log → In (asks k r) ms ⊎ (stamp_of r * 32 ≤ (put (λ k. fresh) 0 u (suc k)).threshold))
          (λ lt r i. first r (f lt r i)) (λ k ne lt r i. absurd (not-in-nil i))
        where
          first : (r : Record) → In r [] ⊎ In (asks 0 r) ms → In (asks 0 r) ms ⊎ (stamp_of r * 32 ≤ (put (λ k. fresh) 0 u 1).threshold)
          first r (inl i) = absurd (not-in-nil i)
          first r (inr i) = inl i
