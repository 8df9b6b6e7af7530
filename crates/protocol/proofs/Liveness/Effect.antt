-- What one step does to a unit's CPA and threshold: nothing, or it takes up a CPA going down, or it goes on with its own.
-- By the walk over each rule, for a unit that is good and a message that is valid.
--
-- In order: `Effect`; the effect of each rule; `effect`, that of a step of any unit of a safe network.
-- Assumes nothing.
use Rattle.std.specs.Prelude.{ℕ, suc, ◌*◌, ◌-◌, ◌≤◌, ◌<◌, ◌≡◌, refl, false, List, [], ◌∷◌}
use Rattle.std.proofs.Common.{◌∙◌, subst, inl, inr, arith}
use Rattle.base.specs.Members.{Every}
use Rattle.base.specs.Members.Laws.{every_nil, every_cons}
use Rattle.protocol.specs.Problem.{Problem, Laws}
use Rattle.protocol.specs.Machine.{Msg, down, back, request, estimate, solution, stop, to, Agent, stamp, with_threshold, with_bound, Result, refused, done, take_bound, recount, counted, received, pad, store, halt, assign, resume, step}
use Rattle.protocol.specs.Walk.{take_bound_cases, recount_out, down_walk, back_walk, request_walk, estimate_walk}
use Rattle.protocol.specs.Safety.Facts.{History, OnLog, ValidMsg, Before, CpaOut, Good}
use Rattle.protocol.proofs.Safety.Step.{the_cpa_out}
use Rattle.protocol.specs.Safety.Logs.{logs, Recorded, peak, Safe}
use Rattle.protocol.proofs.Safety.Network.{before}
use Rattle.protocol.specs.Liveness.Moves.{NoCpa, Moved}
use Rattle.protocol.proofs.Liveness.Moves.{InHand, try_moved, took_moved}
use Rattle.protocol.specs.Liveness.Effect.{Effect, NotDown, Stale, Threshold}

-- ---- the effect of each rule

-- a CPA out is in hand
pub out_in_hand : (P : Problem) (laws : Laws P) (k : ℕ) (Past : History) (u : Agent) → CpaOut P k Past u → 1 ≤ u.own → u.threshold ≡ stamp u → InHand P k (P.size k - u.own) (counted u)
out_in_hand P laws k Past u p o e =
    let same : recount u.own u.counter ≡ u.counter = recount_out u.own u.counter o in
    (omega (arith, same, e), omega (arith, same, p.counter, p.own, laws.size_le_16 k))

module _ (P : Problem) (laws : Laws P) (k : ℕ) (k<n : k < P.n) (Past : History) (X : ℕ) (bf : Before P k Past X) (u : Agent) (g : Good P k Past X u)
    (own : (s : ℕ) (b : List ℕ) → Past (suc k) s b → OnLog u.log s b) where
  quiet : (m : Msg) (w : Agent) (ms : List Msg) → w.own ≡ u.own → w.prefix_stamp ≡ u.prefix_stamp → w.prefix ≡ u.prefix → w.counter ≡ u.counter
      → Threshold X u w → Stale u m → Every NoCpa ms → Effect k Past X u m (done w ms)
  quiet m w ms o s b c t st np = inl (record { own = o; prefix_stamp = s; prefix = b; counter = c; threshold = t; stale = st; no_cpa = np })

  still : (m : Msg) (ms : List Msg) → Stale u m → Every NoCpa ms → Effect k Past X u m (done u ms)
  still m ms st np = quiet m u ms refl refl refl refl (inl refl) st np

  pub down_effect : (s : ℕ) (b : List ℕ) (B : ℕ) (l : List ℕ) → ValidMsg P Past (down k s b B l) → Effect k Past X u (down k s b B l) (step P u (down k s b B l))
  down_effect s b B l ok =
      down_walk P u (Effect k Past X u (down k s b B l)) k s b B l (λ st. still (down k s b B l) [] st (every_nil _))
      (λ le. took (resume P k (take_bound B l (received s b u))) le (took_moved P k B l (received s b u) (omega arith, omega (arith, laws.size_le_16 k))))
    where
      took : (r : Result) → u.threshold ≤ s * 32 → Moved k s b 0 r → Effect k Past X u (down k s b B l) r
      took refused le h = tt
      took (done w ms) le h = inr (inl (s, b, ok.2, le, refl, h))

  -- the CPA out, gone on with
  went : (m : Msg) (r : Result) → 1 ≤ u.own → u.threshold ≡ stamp u → NotDown m
      → (InHand P k (P.size k - u.own) (counted u) → Moved k u.prefix_stamp u.prefix (recount u.own u.counter) r)
      → Effect k Past X u m r
  went m r o e nd f = go r (subst (λ c. Moved k u.prefix_stamp u.prefix c r) (recount_out u.own u.counter o) (f (out_in_hand P laws k Past u (g.cpa o) o e)))
    where
      go : (r : Result) → Moved k u.prefix_stamp u.prefix u.counter r → Effect k Past X u m r
      go refused h = tt
      go (done w ms) h = inr (inr (o, e, nd, h))

  pub back_effect : (s : ℕ) (b : List ℕ) (B : ℕ) (l : List ℕ) → ValidMsg P Past (back k s b B l) → Effect k Past X u (back k s b B l) (step P u (back k s b B l))
  back_effect s b B l ok =
      back_walk P u (Effect k Past X u (back k s b B l)) k s b B l (λ st. still (back k s b B l) [] st (every_nil _))
      (λ le e.
      let sm = the_cpa_out P laws k k<n Past X bf u s b g (own s b ok.1) le in
      went (back k s b B l) (resume P k (take_bound B l u)) sm.0 (sm.3 ∙ sm.1) tt (took_moved P k B l u))
      (λ le e. tt)

  pub estimate_effect : (j s e : ℕ) → ValidMsg P Past (estimate k j s e) → Effect k Past X u (estimate k j s e) (step P u (estimate k j s e))
  estimate_effect j s e ok =
      estimate_walk P u (Effect k Past X u (estimate k j s e)) k j s e (λ st. still (estimate k j s e) [] tt (every_nil _))
      (λ le f full.
      let sm = the_cpa_out P laws k k<n Past X bf u s ok.2.0 g (own s ok.2.0 ok.2.1) le in
      went (estimate k j s e) (assign P k (store j e u)) sm.0 (sm.3 ∙ sm.1) tt (try_moved P k (P.size k - u.own) false (counted (store j e u))))
      (λ le f. quiet (estimate k j s e) (store j e u) [] refl refl refl refl (inl refl) tt (every_nil _))
      (λ le f. tt)

  pub request_effect : (j s : ℕ) (b : List ℕ) → ValidMsg P Past (request k j s b) → Effect k Past X u (request k j s b) (step P u (request k j s b))
  request_effect j s b ok =
      request_walk P u (Effect k Past X u (request k j s b)) k j s b (still (request k j s b) [] tt (every_nil _)) (λ e. still (request k j s b) (reply ∷ []) tt no_cpa)
      (λ lt.
      quiet (request k j s b) (with_threshold (pad (k - suc j) s * 32) u) (reply ∷ []) refl refl refl refl (inr (pad (k - suc j) s, refl, lt, bf.pads j s b ok.1 ok.2)) tt no_cpa)
    where
      reply : Msg
      reply = estimate j k s (P.estimate k b)

      no_cpa : Every NoCpa (reply ∷ [])
      no_cpa = every_cons NoCpa reply [] (λ z. z) (every_nil _)

  pub solution_effect : (B : ℕ) (l : List ℕ) → Effect k Past X u (solution k B l) (step P u (solution k B l))
  solution_effect B l =
      take_bound_cases (λ C m. Unit {0}) (λ w. Effect k Past X u (solution k B l) (done w [])) B l u tt tt
      (λ C m a b ok. quiet (solution k B l) (with_bound C m u) [] refl refl refl refl (inl refl) tt (every_nil _))

  pub stop_effect : (B : ℕ) (l : List ℕ) → Effect k Past X u (stop k B l) (step P u (stop k B l))
  stop_effect B l =
      take_bound_cases (λ C m. Unit {0}) (λ w. Effect k Past X u (stop k B l) (done (halt w) [])) B l u tt tt
      (λ C m a b ok. quiet (stop k B l) (halt (with_bound C m u)) [] refl refl refl refl (inl refl) tt (every_nil _))

-- ---- any unit of a safe network

module _ (P : Problem) (laws : Laws P) (us : ℕ → Agent) (safe : Safe P us) where
  pub to<n : (m : Msg) → ValidMsg P (Recorded (logs us)) m → to m < P.n
  to<n (down k s b B l) ok = ok.0
  to<n (back k s b B l) ok = omega (arith, ok.0)
  to<n (request k j s b) ok = ok.0
  to<n (estimate k j s e) ok = ok.0
  to<n (solution k B l) ok = ok.0
  to<n (stop k B l) ok = ok.0

  at : (k : ℕ) → k < P.n → Before P k (Recorded (logs us)) (peak (logs us) k)
  at k lt = before P us safe k (omega (arith, lt))

  pub effect : (m : Msg) → ValidMsg P (Recorded (logs us)) m → Effect (to m) (Recorded (logs us)) (peak (logs us) (to m)) (us (to m)) m (step P (us (to m)) m)
  effect (down k s b B l) ok = down_effect P laws k ok.0 _ _ (at k ok.0) (us k) (safe k ok.0) (λ s b p. p) s b B l ok
  effect (back k s b B l) ok =
      let lt : k < P.n = omega (arith, ok.0) in
      back_effect P laws k lt _ _ (at k lt) (us k) (safe k lt) (λ s b p. p) s b B l ok
  effect (request k j s b) ok = request_effect P laws k ok.0 _ _ (at k ok.0) (us k) (safe k ok.0) (λ s b p. p) j s b ok
  effect (estimate k j s e) ok = estimate_effect P laws k ok.0 _ _ (at k ok.0) (us k) (safe k ok.0) (λ s b p. p) j s e ok
  effect (solution k B l) ok = solution_effect P laws k ok.0 _ _ (at k ok.0) (us k) (safe k ok.0) (λ s b p. p) B l
  effect (stop k B l) ok = stop_effect P laws k ok.0 _ _ (at k ok.0) (us k) (safe k ok.0) (λ s b p. p) B l
