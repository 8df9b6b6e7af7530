-- How many messages a step sends: at most n; and at most 1, unless the message is a CPA or an estimate that is not stale (`Heavy`). While no request waits
-- each heavy message follows from the newest record of a unit: so at most n follow from each, and n × n in all.
--
-- In order: at most n; at most 1, or `Heavy`; sums; a heavy message follows from a newest record; how many there are.
-- Assumes nothing.
use Rattle.std.specs.Prelude.{ℕ, zero, suc, ◌+◌, ◌*◌, ◌-◌, ◌≤◌, ◌<◌, pred, ◌≡◌, refl, ◌⊎◌, Bool, true, false, cond, List, [], ◌∷◌, length}
use Rattle.std.proofs.Common.{ap, inl, inr, arith, length-append}
use Rattle.base.specs.Sums.{sum_to}
use Rattle.base.specs.Members.{In, here, there, Every}
use Rattle.base.specs.Members.Laws.{every_nil, every_cons}
use Rattle.protocol.specs.Problem.{Problem}
use Rattle.protocol.specs.Machine.{Msg, down, back, request, estimate, solution, stop, to, to_each, Record, stamp_of, Agent, stamp, values, with_bound, done, take_bound, write, counted, received, store, halt, announce, give_back, backtrack, try_from, assign, resume, step, Network}
use Rattle.protocol.specs.Tests.{true_not_false, eqb_same}
use Rattle.protocol.specs.Walk.{take_bound_cases, try_walk, resume_cases, down_walk, back_walk, request_walk, estimate_walk}
use Rattle.protocol.specs.Safety.Facts.{OnLog, ValidMsg}
use Rattle.protocol.specs.Safety.Logs.{logs, Recorded, top_stamp}
use Rattle.protocol.proofs.Safety.Logs.{top_in, top_bound}
use Rattle.protocol.specs.Safety.Network.{SafeNetwork}
use Rattle.protocol.proofs.Progress.Dues.{one, due, fees_once, Dues}
use Rattle.protocol.specs.Totals.{total, sum_more, sum_most}
use Rattle.protocol.specs.Progress.Asked.{asks, Asked}
use Rattle.protocol.specs.Progress.Light.{AtMost, Heavy}

-- ---- a step sends at most n messages

length_each : (g : ℕ → Msg) (lo m : ℕ) → length (to_each g lo m) ≡ m
length_each g lo zero = refl
length_each g lo (suc m) = ap suc (length_each g (suc lo) m)

module _ (P : Problem) (k : ℕ) (k<n : k < P.n) where
  -- only unit n has solutions to announce
  backtrack_sends : (better : Bool) → (better ≡ true → suc k ≡ P.n) → (u : Agent) → AtMost P.n (backtrack P k better u)
  backtrack_sends better hb u = omega (arith, length-append (give_back P k u) (announce P k better u), given k refl better hb, announced better)
    where
      g : ℕ → Msg
      g j = solution j u.bound u.best

      extra : Bool → ℕ
      extra t = cond t (P.n - 1) 0

      announced : (t : Bool) → length (announce P k t u) ≡ extra t
      announced true = omega (arith, length-append (to_each g 0 k) (to_each g (suc k) (P.n - suc k)), length_each g 0 k, length_each g (suc k) (P.n - suc k))
      announced false = refl

      given : (i : ℕ) → i ≡ k → (t : Bool) → (t ≡ true → suc k ≡ P.n) → length (give_back P i u) + extra t ≤ P.n
      given zero e true h = omega (arith, length_each (λ j. stop j u.bound u.best) 1 (pred P.n), h refl)
      given zero e false h = omega (arith, length_each (λ j. stop j u.bound u.best) 1 (pred P.n))
      given (suc i) e true h = omega arith
      given (suc i) e false h = omega arith

  pub try_sends : (m : ℕ) (better : Bool) (u : Agent) → (better ≡ true → suc k ≡ P.n) → AtMost P.n (try_from P k m better u)
  try_sends =
      try_walk P k (λ m better u. better ≡ true → suc k ≡ P.n) (λ u r. AtMost P.n r)
      (record {
        stuck = λ better u hb. backtrack_sends better hb u;
        sends = λ m better u hb lt ne. omega (arith, length_each (λ j. request j k (stamp (write u)) (values (write u))) (suc k) (P.n - suc k));
        solves = λ m better u hb lt e. ((λ z. e), λ r p. p);
        skips = λ m better u hb le. (hb, λ r p. p);
      })

  assign_sends : (u : Agent) → AtMost P.n (assign P k u)
  assign_sends u = try_sends (P.size k - u.own) false (counted u) (λ z. absurd (true_not_false z refl))

  took_sends : (B : ℕ) (l : List ℕ) (u : Agent) → AtMost P.n (resume P k (take_bound B l u))
  took_sends B l u =
      take_bound_cases (λ C m. Unit {0}) (λ w. AtMost P.n (resume P k w)) B l u tt tt
      (λ C m a b ok.
      resume_cases P k (AtMost P.n) (with_bound C m u) (λ full. backtrack_sends false (λ z. absurd (true_not_false z refl)) (with_bound C m u)) (assign_sends (with_bound C m u)))

pub step_sends : (P : Problem) (u : Agent) (m : Msg) → to m < P.n → AtMost P.n (step P u m)
step_sends P u (down k s b B l) lt = down_walk P u (AtMost P.n) k s b B l (λ st. omega arith) (λ le. took_sends P k lt B l (received s b u))
step_sends P u (back k s b B l) lt = back_walk P u (AtMost P.n) k s b B l (λ st. omega arith) (λ le e. took_sends P k lt B l u) (λ le e. tt)
step_sends P u (request k j s b) lt = request_walk P u (AtMost P.n) k j s b (omega arith) (λ e. omega arith) (λ h. omega arith)
step_sends P u (estimate k j s e) lt =
    estimate_walk P u (AtMost P.n) k j s e (λ st. omega arith) (λ le f full. assign_sends P k lt (store j e u)) (λ le f. omega arith) (λ le f. tt)
step_sends P u (solution k B l) lt = take_bound_cases (λ C m. Unit {0}) (λ w. AtMost P.n (done w [])) B l u tt tt (λ C m a b ok. omega arith)
step_sends P u (stop k B l) lt = take_bound_cases (λ C m. Unit {0}) (λ w. AtMost P.n (done (halt w) [])) B l u tt tt (λ C m a b ok. omega arith)

module _ (P : Problem) (us : ℕ → Agent) where
  abbrev Light : Msg → Type 0
  Light m = AtMost 1 (step P (us (to m)) m)

  light_or_heavy : (m : Msg) → Light m ⊎ Heavy us m
  light_or_heavy (down k s b B l) = down_walk P (us k) (λ r. AtMost 1 r ⊎ ((us k).threshold ≤ s * 32)) k s b B l (λ st. inl (omega arith)) (λ le. inr le)
  light_or_heavy (back k s b B l) = back_walk P (us k) (λ r. AtMost 1 r ⊎ ((us k).threshold ≤ s)) k s b B l (λ st. inl (omega arith)) (λ le e. inr le) (λ le e. inr le)
  light_or_heavy (request k j s b) = inl (request_walk P (us k) (AtMost 1) k j s b (omega arith) (λ e. omega arith) (λ lt. omega arith))
  light_or_heavy (estimate k j s e) =
      estimate_walk P (us k) (λ r. AtMost 1 r ⊎ ((us k).threshold ≤ s)) k j s e (λ st. inl (omega arith)) (λ le f full. inr le) (λ le f. inr le) (λ le f. inr le)
  light_or_heavy (solution k B l) = inl (take_bound_cases (λ C m. Unit {0}) (λ w. AtMost 1 (done w [])) B l (us k) tt tt (λ C m a b ok. omega arith))
  light_or_heavy (stop k B l) = inl (take_bound_cases (λ C m. Unit {0}) (λ w. AtMost 1 (done (halt w) [])) B l (us k) tt tt (λ C m a b ok. omega arith))

  pub find_light : (pool : List Msg) → ((m : Msg) × In m pool × AtMost 1 (step P (us (to m)) m)) ⊎ Every (Heavy us) pool
  find_light [] = inr (every_nil _)
  find_light (m ∷ ms) = go (light_or_heavy m) (find_light ms)
    where
      go : Light m ⊎ Heavy us m → ((x : Msg) × In x ms × Light x) ⊎ Every (Heavy us) ms → ((x : Msg) × In x (m ∷ ms) × Light x) ⊎ Every (Heavy us) (m ∷ ms)
      go (inl l) f = inl (m, here refl, l)
      go (inr h) (inl f) = inl (f.0, there f.1, f.2)
      go (inr h) (inr f) = inr (every_cons (Heavy us) m ms h f)

-- ---- a heavy message follows from its unit's newest record

module _ (P : Problem) (S : Network) (safe : SafeNetwork P S) (asked : Asked P S) (heavy : Every (Heavy S.units) S.pool) where
  abbrev top : ℕ → ℕ
  top k = top_stamp (S.units k).log

  abbrev OfNewest : Msg → Type 0
  OfNewest m = (k : ℕ) × (k < P.n) × (due P k (top k) m ≡ 1)

  -- a stamp on record that is not below any is the highest
  newest : (k s : ℕ) (b : List ℕ) → OnLog (S.units k).log s b → Every (λ r. stamp_of r ≤ s) (S.units k).log → one P k (top k) k s ≡ 1
  newest k s b on h =
      let e : s ≡ top k = omega (arith, on.2, top_in on.0 (S.units k).log on.1, top_bound (S.units k).log s h) in
      rw (← e, eqb_same k, eqb_same s)

  heavy_newest : (m : Msg) → In m S.pool → ValidMsg P (Recorded (logs S.units)) m → Heavy S.units m → OfNewest m
  heavy_newest (down zero s b B l) i ok h = absurd (omega (arith, ok.1))
  heavy_newest (down (suc k) s b B l) i ok h = (k, omega (arith, ok.0), newest k s b ok.2 (λ r j. go r (asked k ok.0 r j)))
    where
      go : (r : Record) → In (asks k r) S.pool ⊎ (stamp_of r * 32 ≤ (S.units (suc k)).threshold) → stamp_of r ≤ s
      go r (inl w) = absurd (heavy (asks k r) w)
      go r (inr le) = omega (arith, le, h)
  heavy_newest (back k s b B l) i ok h =
      let lt : k < P.n = omega (arith, ok.0) in
      (k, lt, newest k s b ok.1 (λ r j. omega (arith, h, (safe.safe k lt).threshold r j)))
  heavy_newest (request k j s b) i ok h = absurd h
  heavy_newest (estimate k j s e) i ok h = (k, ok.0, newest k s ok.2.0 ok.2.1 (λ r j. omega (arith, h, (safe.safe k ok.0).threshold r j)))
  heavy_newest (solution k B l) i ok h = absurd h
  heavy_newest (stop k B l) i ok h = absurd h

  -- ---- how many there are

  each_counts : (ms : List Msg) → Every OfNewest ms → length ms ≤ sum_to (λ k. total (due P k (top k)) ms) P.n
  each_counts [] h = omega arith
  each_counts (m ∷ ms) h =
      let z = h m (here refl) in
      omega (
        arith,
        each_counts ms (λ x i. h x (there i)),
        sum_more (λ k. total (due P k (top k)) ms) (λ k. due P k (top k) m + total (due P k (top k)) ms) z.0 1 P.n z.1 (λ i. omega arith) (omega (arith, z.2)),
      )

  pub heavy_few : Dues P S → length S.pool ≤ P.n * P.n
  heavy_few dues =
      omega (
        arith,
        each_counts S.pool (λ m i. heavy_newest m i (safe.msgs m i) (heavy m i)),
        sum_most (λ k. total (due P k (top k)) S.pool) P.n P.n (λ k lt. omega (arith, dues k (top k), fees_once P k (top k) k (Recorded (logs S.units)) (S.units k).log (safe.safe k lt).sorted, lt)),
      )
