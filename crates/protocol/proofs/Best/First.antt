-- The first best: each pair of bound and best there is has the first assignment with that total, in the order tried: all before it costs more.
-- A unit writes a value only once all smaller ones are closed at its bound, which is no lower than unit n's; so when unit n makes a pair, all before its
-- assignment costs at least the bound that unit n had, which is more.
--
-- In order: `First`, what is kept; unit n's new pair; one unit's step; a message that is accepted; making.
-- Assumes nothing.
use Rattle.std.specs.Prelude.{ℕ, zero, suc, ◌-◌, ◌≤◌, ◌<◌, pred, ◌≡◌, refl, ◌⊎◌, Bool, false, List, [], ◌∷◌, ◌++◌, length}
use Rattle.std.proofs.Common.{sym, ap, subst, inl, inr, arith}
use Rattle.base.specs.Members.{In, Every}
use Rattle.base.specs.Members.Laws.{in-cases, not-in-nil, in_append}
use Rattle.protocol.specs.Problem.{Problem, Closed, Laws, closed_mono, closed_full, NONE, valid_le_none, Passed, passed_mono, cost_below}
use Rattle.protocol.specs.Machine.{Msg, down, back, request, estimate, solution, stop, to, Record, values_of, Agent, record_of, values, fresh, with_bound, Result, refused, done, skip, write, counted, received, halt, solved, try_from, assign, resume, step, Network, put, made, make}
use Rattle.protocol.specs.Walk.{take_bound_cases, try_walk, resume_cases, down_walk, request_walk}
use Rattle.protocol.specs.Safety.Facts.{History, ValidMsg, CpaOut, Good}
use Rattle.protocol.proofs.Safety.Assign.{closed_one_more}
use Rattle.protocol.specs.Safety.Logs.{Added, Grown, logs, Recorded, peak}
use Rattle.protocol.proofs.Safety.Logs.{try_grown, step-grown}
use Rattle.protocol.specs.Safety.Network.{SafeNetwork}
use Rattle.protocol.proofs.Safety.Network.{before, put_all, put_at, put_other, make_safe}
use Rattle.protocol.specs.Safety.Run.{Among}
use Rattle.protocol.proofs.Safety.Run.{accept_safe}
use Rattle.protocol.specs.Best.Told.{Carries, Has, Told}
use Rattle.protocol.proofs.Best.Told.{assign-told}
use Rattle.protocol.specs.Best.Pairs.{Seen, OneBest, Known, PairStep}
use Rattle.protocol.proofs.Best.Pairs.{seen_fewer, last_falls, old_or_new, accept_steps, accept_pairs, make-steps, make-pairs}
use Rattle.protocol.specs.Best.First.{First}

-- where fewer messages wait
pub first_fewer : (P : Problem) (S : Network) (new : List Msg) → Every (λ x. In x S.pool) new → First P S → First P (record { units = S.units; pool = new; accepted = S.accepted })
first_fewer P S new fewer f = record { pairs = λ B l s. f.pairs B l (seen_fewer P S new fewer B l s); records = f.records }

-- a prefix on record at the unit before, if what that unit has written is passed
recorded-passed : (P : Problem) (W : ℕ → List Record) (C k s : ℕ) (c : List ℕ) → ((i : ℕ) → suc i ≡ k → (r : Record) → In r (W i) → Passed P (values_of r) C) → Recorded W k s c
    → Passed P c C
recorded-passed P W C zero s c f h = subst (λ x. Passed P x C) (sym h.1) tt
recorded-passed P W C (suc k) s c f h = subst (λ x. Passed P x C) h.3 (f k refl h.0 h.1)

-- ---- unit n's new pair

abbrev Fresh : Problem → Result → Type 0
Fresh P refused = Unit {0}
Fresh P (done w ms) = Passed P w.best (suc w.bound)

-- about to try the values behind its own: those up to it, and all before its prefix, are closed
record Trying (P : Problem) (k : ℕ) (u : Agent) : Type 0 where
  len : length u.prefix ≡ k
  le_none : u.bound ≤ NONE
  tried : (v : ℕ) → 1 ≤ v → v ≤ u.own → Closed P (v ∷ u.prefix) u.bound
  prefix : Passed P u.prefix u.bound
  best : Passed P u.best (suc u.bound)

module _ (P : Problem) (laws : Laws P) where
  module _ (k : ℕ) (last : suc k ≡ P.n) where
    solved_trying : (u : Agent) → P.lookahead (values (skip u)) < u.bound → Trying P k u → Trying P k (solved P (write u))
    solved_trying u low t =
        record {
          len = t.len;
          le_none = omega (arith, less, t.le_none);
          tried = closed_one_more P u (P.cost (values (skip u))) (omega (arith, less)) t.tried (closed_full P (values (skip u)) (omega (arith, t.len, last)));
          prefix = passed_mono P u.prefix u.bound (P.cost (values (skip u))) (omega (arith, less)) t.prefix;
          best = (
            (λ v lo hi. closed_mono P (v ∷ u.prefix) u.bound (suc (P.cost (values (skip u)))) less (t.tried v lo (omega (arith, hi)))),
            passed_mono P u.prefix u.bound (suc (P.cost (values (skip u)))) less t.prefix,
          );
        }
      where
        less : P.cost (values (skip u)) < u.bound
        less = cost_below P laws (values (skip u)) u.bound t.le_none low

    skipped_trying : (u : Agent) → u.bound ≤ P.lookahead (values (skip u)) → Trying P k u → Trying P k (skip u)
    skipped_trying u low t =
        record {
          len = t.len;
          le_none = t.le_none;
          tried = closed_one_more P u u.bound (omega arith) t.tried (laws.closed_by_lookahead (values (skip u)) u.bound (omega (arith, t.len, last)) low);
          prefix = t.prefix;
          best = t.best;
        }

    try_fresh : (m : ℕ) (better : Bool) (u : Agent) → Trying P k u → Fresh P (try_from P k m better u)
    try_fresh =
        try_walk P k (λ m better u. Trying P k u) (λ u r. Fresh P r)
        (record {
          stuck = λ better u t. t.best;
          sends = λ m better u t lt no. absurd (no last);
          solves = λ m better u t lt e. (solved_trying u lt t, λ r h. h);
          skips = λ m better u t le. (skipped_trying u le t, λ r h. h);
        })

  -- a valid message to unit n: all before a prefix on record at the unit before is closed at unit n's bound
  last-fresh : (Past : History) (u : Agent) → u.bound ≤ NONE → (m : Msg) → suc (to m) ≡ P.n → ValidMsg P Past m
      → ((s : ℕ) (b : List ℕ) → Past (to m) s b → (length b ≡ to m) × Passed P b u.bound)
      → Passed P u.best (suc u.bound) → ((C : ℕ) (c : List ℕ) → Carries m C c → Passed P c (suc C)) → Fresh P (step P u m)
  last-fresh Past u le (down k s b B l) last ok known own its =
      down_walk P u (Fresh P) k s b B l (λ st. own)
      (λ ge.
      take_bound_cases (λ C c. Passed P c (suc C)) (λ w. Fresh P (resume P k w)) B l (received s b u) own (its B l (refl, refl))
      (λ C c le₁ le₂ ok'.
      let q = known s b ok.2 in
      resume_cases P k (Fresh P) (with_bound C c (received s b u)) (λ full. ok')
      (try_fresh k last (P.size k - 0) false (counted (with_bound C c (received s b u)))
      (record { len = q.0; le_none = omega (arith, le₁, le); tried = λ v lo hi. absurd (omega (arith, lo, hi)); prefix = passed_mono P b u.bound C le₁ q.1; best = ok' }))))
  last-fresh Past u le (back k s b B l) last ok known own its = absurd (omega (arith, last, ok.0))
  last-fresh Past u le (request k j s b) last ok known own its = request_walk P u (Fresh P) k j s b own (λ e. own) (λ lt. own)
  last-fresh Past u le (estimate k j s x) last ok known own its = absurd (omega (arith, last, ok.1, ok.3))
  last-fresh Past u le (solution k B l) last ok known own its =
      take_bound_cases (λ C c. Passed P c (suc C)) (λ w. Fresh P (done w [])) B l u own (its B l (refl, refl)) (λ C c le₁ le₂ z. z)
  last-fresh Past u le (stop k B l) last ok known own its =
      take_bound_cases (λ C c. Passed P c (suc C)) (λ w. Fresh P (done (halt w) [])) B l u own (its B l (refl, refl)) (λ C c le₁ le₂ z. z)

-- ---- one unit's step: unit k becomes u and sends ms, with the messages `rest` still there

module _ (P : Problem) (S : Network) (k : ℕ) (u : Agent) (ms : List Msg) (t : PairStep P S k u ms) (rest : List Msg) (still : (x : Msg) → In x rest → In x S.pool) (count : ℕ) where
  abbrev S₁ : Network
  S₁ = record { units = put S.units k u; pool = rest ++ ms; accepted = count }

  -- unit n's bound
  abbrev C₁ : ℕ
  C₁ = (S₁.units (pred P.n)).bound

  put_first : Passed P u.best (suc u.bound) → Added P k (S.units k).log u → SafeNetwork P S₁ → OneBest P S₁ → First P S → First P S₁
  put_first new grown r g f = record { pairs = λ B l s. pairs B l (old_or_new P S k u ms t rest still count B l s); records = records }
    where
      pairs : (B : ℕ) (l : List ℕ) → Seen P S B l ⊎ Has u B l → Passed P l (suc B)
      pairs B l (inl s) = f.pairs B l s
      pairs B l (inr q) = subst (λ C. Passed P l (suc C)) (sym q.0) (subst (λ c. Passed P c (suc u.bound)) (sym q.1) new)

      old : (i : ℕ) → suc i < P.n → (x : Record) → In x (S.units i).log → Passed P (values_of x) C₁
      old i l x j = passed_mono P (values_of x) (S.units (pred P.n)).bound C₁ (last_falls P S k u ms t rest still count) (f.records i l x j)

      -- the record of the CPA out
      newest : 1 ≤ u.own → Passed P (values_of (record_of u)) C₁
      newest o = (
        (λ v lo hi. closed_mono P (v ∷ u.prefix) u.bound C₁ (g.last u.bound u.best (inl (k, t.lt, at))) (p.closed v lo hi)),
        recorded-passed P (logs S₁.units) C₁ k u.prefix_stamp u.prefix
            (λ i q x j. old i (omega (arith, q, t.lt)) x (subst (λ y. In x y.log) (put_other S.units k u i (omega (arith, q))) j)) p.past,
      )
        where
          at : Has (S₁.units k) u.bound u.best
          at = (ap (λ x. x.bound) (sym (put_at S.units k u)), ap (λ x. x.best) (sym (put_at S.units k u)))

          p : CpaOut P k (Recorded (logs S₁.units)) u
          p = (subst (λ x. Good P k (Recorded (logs S₁.units)) (peak (logs S₁.units) k) x) (put_at S.units k u) (r.safe k t.lt)).cpa o

      now : suc k < P.n → (x : Record) → In x u.log → Passed P (values_of x) C₁
      now l x j = go (in_append grown.0 (S.units k).log (subst (λ L. In x L) grown.1 j)) (grown.2 (omega (arith, l)))
        where
          single : (x ≡ record_of u) ⊎ In x [] → x ≡ record_of u
          single (inl q) = q
          single (inr i) = absurd (not-in-nil i)

          go : In x grown.0 ⊎ In x (S.units k).log → (grown.0 ≡ []) ⊎ ((grown.0 ≡ record_of u ∷ []) × (1 ≤ u.own)) → Passed P (values_of x) C₁
          go (inr i) h = old k l x i
          go (inl i) (inl q) = absurd (not-in-nil (subst (λ L. In x L) q i))
          go (inl i) (inr q) = subst (λ y. Passed P (values_of y) C₁) (sym (single (in-cases (subst (λ L. In x L) q.0 i)))) (newest q.1)

      records : (i : ℕ) → suc i < P.n → (x : Record) → In x (S₁.units i).log → Passed P (values_of x) C₁
      records = put_all S.units k u (λ i y. suc i < P.n → (x : Record) → In x y.log → Passed P (values_of x) C₁) now (λ i ne. old i)

-- ---- a message that is accepted

module _ (P : Problem) (laws : Laws P) where
  pub accept_first : (S : Network) → SafeNetwork P S → OneBest P S → First P S → (m : Msg) (rest : List Msg) → Among S.pool m rest → (u : Agent) (ms : List Msg)
      → step P (S.units (to m)) m ≡ done u ms → First P (record { units = put S.units (to m) u; pool = rest ++ ms; accepted = suc S.accepted })
  accept_first S r g f m rest w u ms d =
      put_first P S (to m) u ms t rest w.still (suc S.accepted) (own_pair t.known)
      (subst (Grown P (to m) (S.units (to m)).log) d (step-grown P (S.units (to m)) m)) (accept_safe P laws S r m rest w u ms d) (accept_pairs P laws S r g m rest w u ms d) f
    where
      t : PairStep P S (to m) u ms
      t = accept_steps P laws S r m w.waits u ms d

      own_pair : Known P S (to m) u → Passed P u.best (suc u.bound)
      own_pair (inl s) = f.pairs u.bound u.best s
      own_pair (inr q) =
          let i : pred P.n ≡ to m = omega (arith, q.0) in
          subst (Fresh P) d
          (last-fresh P laws (Recorded (logs S.units)) (S.units (to m)) (valid_le_none P (S.units (to m)).best (r.safe (to m) t.lt).valid) m q.0 (r.msgs m w.waits)
          (λ s c h. (
            (before P S.units r.safe (to m) (omega (arith, t.lt))).len s c h,
            subst (λ j. Passed P c (S.units j).bound) i (recorded-passed P (logs S.units) (S.units (pred P.n)).bound (to m) s c (λ j z. f.records j (omega (arith, z, t.lt))) h),
          ))
          (f.pairs _ _ (inl (to m, t.lt, (refl, refl)))) (λ C c h. f.pairs C c (inr (m, w.waits, h))))

  -- ---- making

  start_first : First P (made refused)
  start_first = record { pairs = pairs; records = λ k l r i. absurd (not-in-nil i) }
    where
      pairs : (B : ℕ) (l : List ℕ) → Seen P (made refused) B l → Passed P l (suc B)
      pairs B l (inl q) = subst (λ c. Passed P c (suc B)) (sym q.2.1) tt
      pairs B l (inr q) = absurd (not-in-nil q.1)

  pub make-first : 0 < P.n → First P (make P)
  make-first n1 =
      go (assign P 0 fresh) (assign-told P laws 0 fresh (omega arith)) (try_grown P 0 (P.size 0 - 0) false (counted fresh))
      (λ last.
      try_fresh P laws 0 last (P.size 0 - 0) false (counted fresh)
      (record { len = refl; le_none = omega arith; tried = λ v lo hi. absurd (omega (arith, lo, hi)); prefix = tt; best = tt }))
      (make_safe P laws n1) (make-pairs P laws n1)
    where
      go : (r : Result) → Told P 0 NONE [] r → Grown P 0 [] r → (◌≡◌ {A = ℕ} 1 P.n → Fresh P r) → SafeNetwork P (made r) → OneBest P (made r) → First P (made r)
      go refused t grown new r g = start_first
      go (done u ms) t grown new r g = put_first P (made refused) 0 u ms (make-steps P laws n1 u ms t) [] (λ x i. i) 0 (pair t.pair) grown r g start_first
        where
          pair : ((u.bound ≡ NONE) × (u.best ≡ [])) ⊎ ((◌≡◌ {A = ℕ} 1 P.n) × (u.bound < NONE)) → Passed P u.best (suc u.bound)
          pair (inl q) = subst (λ c. Passed P c (suc u.bound)) (sym q.1) tt
          pair (inr q) = new q.0
