-- Rounds. The pool, delivered from the front, is a queue of two parts: `front`, what waited when the round began, and `back`, what has been sent since.
-- In one round a unit sends at most two CPAs: one for an answer to its own, and one for a CPA that goes down to it. Of two CPAs that the unit before
-- has sent in the last round only the second is not stale: the second was for a CPA of the unit before that, whose request has come meanwhile.
-- So no more than `most_in_round` messages are sent in a round, but for estimates, and of these one for each request of the round before.
--
-- In order: the parts of `Round`; how much there is; a step keeps it; a new round begins with it; the length of the queue.
-- Assumes nothing.
use Rattle.std.specs.Prelude.{ℕ, zero, suc, ◌+◌, ◌*◌, ◌-◌, ◌≤◌, ◌<◌, ◌≡◌, refl, ◌≢◌, ◌⊎◌, Bool, true, false, List, [], ◌∷◌, ◌++◌, eqb, length}
use Rattle.std.proofs.Common.{sym, ap, subst, inl, inr, arith, le_refl, mul-add, mul-le-mul, length-append, eqb-true}
use Rattle.std.proofs.lemmas.Bool.{eqb-false}
use Rattle.base.specs.Sums.{sum_to}
use Rattle.base.specs.Members.{In, here, there, Every}
use Rattle.base.specs.Members.Laws.{in-cases, not-in-nil}
use Rattle.protocol.specs.Problem.{Problem, Laws}
use Rattle.protocol.specs.Machine.{Msg, down, back, request, estimate, solution, stop, to, Agent, done, step, put}
use Rattle.protocol.specs.Totals.{total, total_append, total_le, total_none, sum_more}
use Rattle.protocol.specs.Safety.Facts.{OnLog, ValidMsg, sorted_valid}
use Rattle.protocol.specs.Safety.Logs.{logs, Recorded, Safe}
use Rattle.protocol.proofs.Safety.Network.{put_all, put_at}
use Rattle.protocol.proofs.Liveness.Effect.{to<n}
use Rattle.protocol.specs.Count.Weights.{extra-last, extra-other}
use Rattle.protocol.specs.Progress.Light.{Heavy}
use Rattle.protocol.specs.Progress.Asked.{AtLeast}
use Rattle.protocol.specs.Oldest.Turn.{move, is_estimate, is_other, live}
use Rattle.protocol.proofs.Oldest.Turn.{length_total, live_less, live_move, live_here, live_none, Paired, paired_append, cap, Sent, Calm, Turn, turn, request_leaves}
use Rattle.protocol.specs.Oldest.Rounds.{AsksFor, Newest, Old, Phase, most_in_round}

old_more : (k t t' : ℕ) → t ≤ t' → (m : Msg) → Old k t m → Old k t' m
old_more k t t' le (down i s b B l) h = tt
old_more k t t' le (back i s b B l) h = λ e. omega (arith, h e, le)
old_more k t t' le (request i j s b) h = tt
old_more k t t' le (estimate i j s e) h = λ q. omega (arith, h q, le)
old_more k t t' le (solution i B l) h = tt
old_more k t t' le (stop i B l) h = tt

module _ (P : Problem) where
  abbrev pub caps : List Msg → ℕ
  caps l = sum_to (λ k. cap P k * total (move k) l) P.n

  pub record Round (us : ℕ → Agent) (front later : List Msg) : Type 0 where
    pub paired : Paired P.n front
    pub paired_later : Paired P.n later
    pub phase : (k : ℕ) → k < P.n → Phase k (us k).threshold front later
    pub newest : (k : ℕ) → suc k < P.n → Newest k (us (suc k)).threshold front later
    pub estimates : total is_estimate front ≤ most_in_round P
    pub answers : total is_other front + total is_estimate later ≤ most_in_round P
    pub others : total is_other later ≤ caps later

-- ---- how much there is

module _ (P : Problem) where
  -- what goes out with CPAs of unit k is paid for by them
  pub caps_more : (k : ℕ) → k < P.n → (l ms : List Msg) → total is_other ms ≤ cap P k * total (move k) ms → total is_other l ≤ caps P l → total is_other (l ++ ms) ≤ caps P (l ++ ms)
  caps_more k lt l ms h g =
      omega (
        arith,
        g,
        total_append is_other l ms,
        sum_more (λ i. cap P i * total (move i) l) (λ i. cap P i * total (move i) (l ++ ms)) k (total is_other ms) P.n lt (λ i. omega (arith, more i)) (omega (arith, more k, h)),
      )
    where
      more : (i : ℕ) → cap P i * total (move i) (l ++ ms) ≡ cap P i * total (move i) l + cap P i * total (move i) ms
      more i = rw (total_append (move i) l ms) (mul-add (cap P i) (total (move i) l) (total (move i) ms))

  -- with at most two CPAs of each unit
  caps-most : (x : ℕ → ℕ) → ((k : ℕ) → k < P.n → x k ≤ 2) → 0 < P.n → sum_to (λ k. cap P k * x k) P.n ≤ most_in_round P
  caps-most x h lt = go (P.n - 1) (omega arith)
    where
      each : (k : ℕ) → k < P.n → cap P k * x k ≤ cap P k * 2
      each k l = mul-le-mul (le_refl (cap P k)) (h k l)

      below : (m : ℕ) → m < P.n → sum_to (λ k. cap P k * x k) m + m * m ≤ m * P.n * 2 + m
      below zero l = omega arith
      below (suc m) l = omega (arith, below m (omega arith), each m (omega arith), extra-other P m (λ e. absurd (omega (arith, e, l))))

      go : (m : ℕ) → P.n ≡ suc m → sum_to (λ k. cap P k * x k) P.n ≤ most_in_round P
      go m e =
          let a = below m (omega (arith, e)) in
          let b = each m (omega (arith, e)) in
          let c = extra-last P m (sym e) in
          subst (λ n. sum_to (λ k. cap P k * x k) n ≤ most_in_round P) (sym e) (omega (arith, a, b, c, e, ap (λ n. m * n) e, ap (λ n. n * P.n) e, ap (λ n. suc m * n) e))

-- ---- a step: the message m at the front is handed over, and ms are sent

module _ (P : Problem) (laws : Laws P) (us : ℕ → Agent) (safe : Safe P us) (front later : List Msg) where
  abbrev Valid : Msg → Type 0
  Valid = ValidMsg P (Recorded (logs us))

  -- stamps on record are not above the threshold, and never a stamp of the units before
  on_log : (k : ℕ) → k < P.n → (s : ℕ) (b : List ℕ) → OnLog (us k).log s b → s ≤ (us k).threshold
  on_log k lt s b on = omega (arith, on.2, (safe k lt).threshold on.0 on.1)

  on_log_own : (k : ℕ) → k < P.n → (s : ℕ) (b : List ℕ) → OnLog (us k).log s b → (p : ℕ) → s ≢ p * 32
  on_log_own k lt s b on p e =
      let v = sorted_valid P k (Recorded (logs us)) (us k).log (safe k lt).sorted on.0 on.1 in
      absurd (omega (arith, on.2, e, v.1, v.2, v.3, laws.size_le_16 k))

  -- all answers to a unit whose threshold passes the old one are stale
  all_old : (k t : ℕ) → (us k).threshold < t → (m : Msg) → Valid m → Old k t m
  all_old k t h (down i s b B l) ok = tt
  all_old k t h (back i s b B l) ok = λ e. omega (arith, on_log i (omega (arith, ok.0)) s b ok.1, ap (λ x. (us x).threshold) e, h)
  all_old k t h (request i j s b) ok = tt
  all_old k t h (estimate i j s e) ok = λ q. omega (arith, on_log i ok.0 s ok.2.0 ok.2.1, ap (λ x. (us x).threshold) q, h)
  all_old k t h (solution i B l) ok = tt
  all_old k t h (stop i B l) ok = tt

  -- a unit that is about to send a CPA
  abbrev Before : Msg → Type 0
  Before m = Phase (to m) (us (to m)).threshold (m ∷ front) later

  may_move : (m : Msg) → Valid m → Heavy us m → Before m → total (move (to m)) later + total (live (us (to m)).threshold (to m)) front ≤ 1
  may_move (down k s b B l) ok h (inl q) = omega (arith, q.0, q.1, live_here (us k).threshold k s b B l ok.1 h)
  may_move (down k s b B l) ok h (inr q) = omega (arith, q.0, live_here (us k).threshold k s b B l ok.1 h)
  may_move (back k s b B l) ok h (inl q) = omega (arith, q.0, q.1)
  may_move (back k s b B l) ok h (inr q) = absurd (omega (arith, h, q.1 (back k s b B l) (here refl) refl))
  may_move (request k j s b) ok h q = absurd h
  may_move (estimate k j s e) ok h (inl q) = omega (arith, q.0, q.1)
  may_move (estimate k j s e) ok h (inr q) = absurd (omega (arith, h, q.1 (estimate k j s e) (here refl) refl))
  may_move (solution k B l) ok h q = absurd h
  may_move (stop k B l) ok h q = absurd h

  -- and sends it: on an answer, its first in this round; on a CPA of the unit before, whose request is then behind it, and all it has sent is older
  moved_newest : (m : Msg) → Valid m → Heavy us m → Before m → Paired P.n (m ∷ front) → Every Valid later → (ms : List Msg) → total (move (to m)) ms ≤ 1
      → suc (to m) < P.n → (t : ℕ) → Newest (to m) t front (later ++ ms)
  moved_newest (down zero s b B l) ok h q pr oks ms one lt t = absurd (omega (arith, ok.1))
  moved_newest (down (suc k) s b B l) ok h q pr oks ms one lt t = (
    s,
    inl (b, pr.0 lt),
    omega (
      arith,
      one,
      total_append (live (s * 1024) (suc (suc k))) later ms,
      total_none (live (s * 1024) (suc (suc k))) later (λ x i. live_none (s * 1024) (suc k) x (λ s' b' B' l' e. older s' b' (subst Valid e (oks x i)).2)),
      total_le (live (s * 1024) (suc (suc k))) (move (suc k)) (live_move (s * 1024) (suc k)) ms,
    ),
  )
    where
      older : (s' : ℕ) (b' : List ℕ) → OnLog (us (suc k)).log s' b' → s' * 32 < s * 1024
      older s' b' on = let ne : s' ≢ s * 32 = on_log_own (suc k) ok.0 s' b' on s in omega (arith, ne, on_log (suc k) ok.0 s' b' on, h)
  moved_newest (back k s b B l) ok h (inl q) pr oks ms one lt t = (
    0,
    inr (omega arith),
    omega (arith, one, q.0, total_append (move k) later ms, total_le (live 0 (suc k)) (move k) (live_move 0 k) (later ++ ms)),
  )
  moved_newest (back k s b B l) ok h (inr q) pr oks ms one lt t = absurd (omega (arith, h, q.1 (back k s b B l) (here refl) refl))
  moved_newest (request k j s b) ok h q pr oks ms one lt t = absurd h
  moved_newest (estimate k j s e) ok h (inl q) pr oks ms one lt t = (
    0,
    inr (omega arith),
    omega (arith, one, q.0, total_append (move k) later ms, total_le (live 0 (suc k)) (move k) (live_move 0 k) (later ++ ms)),
  )
  moved_newest (estimate k j s e) ok h (inr q) pr oks ms one lt t = absurd (omega (arith, h, q.1 (estimate k j s e) (here refl) refl))
  moved_newest (solution k B l) ok h q pr oks ms one lt t = absurd h
  moved_newest (stop k B l) ok h q pr oks ms one lt t = absurd h

  module _ (m : Msg) (ok : Valid m) (oks : Every Valid front) (oks-later : Every Valid later) (w : Agent) (ms : List Msg) (d : step P (us (to m)) m ≡ done w ms) (r : Round P us (m ∷ front) later) where
    abbrev us' : ℕ → Agent
    us' = put us (to m) w

    lt : to m < P.n
    lt = to<n P laws us safe m ok

    rises : (us (to m)).threshold ≤ w.threshold → (i : ℕ) → (us i).threshold ≤ (us' i).threshold
    rises le = put_all us (to m) w (λ i x. (us i).threshold ≤ x.threshold) le (λ i ne. omega arith)

    -- a unit that sends no CPA
    phase_stays : (i t t' : ℕ) → t ≤ t' → total (move i) ms ≡ 0 → Phase i t (m ∷ front) later → Phase i t' front (later ++ ms)
    phase_stays i t t' le e (inl q) =
        inl (omega (arith, e, q.0, total_append (move i) later ms), omega (arith, q.1, total_le (live t' i) (live t i) (live_less t t' i le) front))
    phase_stays i t t' le e (inr q) = inr (
      omega (arith, e, q.0, total_append (move i) later ms, total_le (live t' i) (live t i) (live_less t t' i le) front),
      λ x j. old_more i t t' le x (q.1 x (there j)),
    )

    -- a request that is handed over leaves its stamp
    asks_stays : (i p : ℕ) → AsksFor i p (m ∷ front) → AsksFor i p front ⊎ (p * 1024 ≤ (us' (suc i)).threshold)
    asks_stays zero p h = absurd h
    asks_stays (suc i) p h = go (in-cases h.1)
      where
        x : Msg
        x = request (suc (suc i)) i p h.0

        reached : x ≡ m → p * 1024 ≤ (us' (suc (suc i))).threshold
        reached q =
            let e : us' (suc (suc i)) ≡ w = subst (λ y. us' y ≡ w) (ap to (sym q)) (put_at us (to m) w) in
            let z : AtLeast (p * 32) (step P (us (suc (suc i))) x) = request_leaves P (us (suc (suc i))) i p h.0 in
            let y : AtLeast (p * 32) (done w ms) = subst (AtLeast (p * 32)) d (subst (λ a. AtLeast (p * 32) (step P (us (to a)) a)) q z) in
            subst (λ a. p * 1024 ≤ a.threshold) (sym e) (omega (arith, y))

        go : (x ≡ m) ⊎ In x front → AsksFor (suc i) p front ⊎ (p * 1024 ≤ (us' (suc (suc i))).threshold)
        go (inl q) = inr (reached q)
        go (inr j) = inl (h.0, j)

    newest_stays : (i : ℕ) → (us (suc i)).threshold ≤ (us' (suc i)).threshold → total (move i) ms ≡ 0 → Newest i (us (suc i)).threshold (m ∷ front) later
        → Newest i (us' (suc i)).threshold front (later ++ ms)
    newest_stays i le e q = (
      q.0,
      go q.1,
      omega (
        arith,
        e,
        q.2,
        total_append (live (q.0 * 1024) (suc i)) later ms,
        total_le (live (q.0 * 1024) (suc i)) (move i) (live_move (q.0 * 1024) i) ms,
      ),
    )
      where
        go : AsksFor i q.0 (m ∷ front) ⊎ (q.0 * 1024 ≤ (us (suc i)).threshold) → AsksFor i q.0 front ⊎ (q.0 * 1024 ≤ (us' (suc i)).threshold)
        go (inl h) = asks_stays i q.0 h
        go (inr h) = inr (omega (arith, h, le))

    calm_round : Calm P (us (to m)) m w ms → Round P us' front (later ++ ms)
    calm_round c =
        record {
          paired = r.paired.1;
          paired_later = paired_append P.n later ms r.paired_later c.paired;
          phase = λ i l. phase_stays i (us i).threshold (us' i).threshold (rises c.threshold i) (c.moves i) (r.phase i l);
          newest = λ i l. newest_stays i (rises c.threshold (suc i)) (c.moves i) (r.newest i l);
          estimates = omega (arith, r.estimates);
          answers = omega (arith, r.answers, c.estimates, total_append is_estimate later ms);
          others = caps_more P (to m) lt later ms (omega (arith, c.others)) r.others;
        }

    moved_round : Heavy us m → (us (to m)).threshold < w.threshold → Sent P (to m) ms → Round P us' front (later ++ ms)
    moved_round h up s =
        record {
          paired = r.paired.1;
          paired_later = paired_append P.n later ms r.paired_later s.paired;
          phase = put_all us (to m) w (λ i x. i < P.n → Phase i x.threshold front (later ++ ms)) (λ l. inr (two, λ x j. all_old (to m) w.threshold up x (oks x j)))
              (λ i ne l. phase_stays i (us i).threshold (us i).threshold (omega arith) (s.alone i ne) (r.phase i l));
          newest = λ i l. newest i l (eqb i (to m)) refl;
          estimates = omega (arith, r.estimates);
          answers = omega (arith, r.answers, s.estimates, total_append is_estimate later ms);
          others = caps_more P (to m) lt later ms s.others r.others;
        }
      where
        two : total (move (to m)) (later ++ ms) + total (live w.threshold (to m)) front ≤ 2
        two = omega (
          arith,
          s.once,
          may_move m ok h (r.phase (to m) lt),
          total_append (move (to m)) later ms,
          total_le (live w.threshold (to m)) (live (us (to m)).threshold (to m)) (live_less (us (to m)).threshold w.threshold (to m) (omega (arith, up))) front,
        )

        newest : (i : ℕ) → suc i < P.n → (t : Bool) → eqb i (to m) ≡ t → Newest i (us' (suc i)).threshold front (later ++ ms)
        newest i l true e =
            let q = eqb-true i (to m) e in
            subst (λ x. Newest x (us' (suc i)).threshold front (later ++ ms)) (sym q)
            (moved_newest m ok h (r.phase (to m) lt) r.paired oks-later ms s.once (omega (arith, l, q)) (us' (suc i)).threshold)
        newest i l false e = newest_stays i (rises (omega (arith, up)) (suc i)) (s.alone i (eqb-false i (to m) e)) (r.newest i l)

    pub step_round : ((to m ≡ 0) × (w.stopped ≡ true)) ⊎ Round P us' front (later ++ ms)
    step_round = go (subst (Turn P us m) d (turn P us m lt))
      where
        sent : Heavy us m → (us (to m)).threshold < w.threshold → ((to m ≡ 0) × (w.stopped ≡ true)) ⊎ Sent P (to m) ms → ((to m ≡ 0) × (w.stopped ≡ true)) ⊎ Round P us' front (later ++ ms)
        sent h up (inl e) = inl e
        sent h up (inr s) = inr (moved_round h up s)

        go : Turn P us m (done w ms) → ((to m ≡ 0) × (w.stopped ≡ true)) ⊎ Round P us' front (later ++ ms)
        go (inl c) = inr (calm_round c)
        go (inr g) = sent g.0 g.1.0 g.1.1

-- ---- a new round begins, where nothing is left of the last

module _ (P : Problem) (n1 : 0 < P.n) (us : ℕ → Agent) (later : List Msg) (r : Round P us [] later) where
  pub next_round : Round P us later []
  next_round =
      record {
        paired = r.paired_later;
        paired_later = tt;
        phase = λ k lt. inl (refl, first k lt);
        newest = λ k lt. (0, inr (omega arith), omega arith);
        estimates = omega (arith, r.answers);
        answers = omega (arith, r.others, caps-most P (λ k. total (move k) later) (λ k lt. twice k (r.phase k lt)) n1);
        others = omega arith;
      }
    where
      twice : (k : ℕ) → Phase k (us k).threshold [] later → total (move k) later ≤ 2
      twice k (inl q) = omega (arith, q.0)
      twice k (inr q) = omega (arith, q.0)

      none : (k p : ℕ) → AsksFor k p [] → ⊥
      none zero p h = h
      none (suc k) p h = not-in-nil h.1

      first : (k : ℕ) → k < P.n → total (live (us k).threshold k) later ≤ 1
      first zero lt = omega (arith, total_none (live (us 0).threshold 0) later (λ x i. refl))
      first (suc k) lt = go (r.newest k lt)
        where
          go : Newest k (us (suc k)).threshold [] later → total (live (us (suc k)).threshold (suc k)) later ≤ 1
          go q = at q.1
            where
              at : AsksFor k q.0 [] ⊎ (q.0 * 1024 ≤ (us (suc k)).threshold) → total (live (us (suc k)).threshold (suc k)) later ≤ 1
              at (inl h) = absurd (none k q.0 h)
              at (inr le) = omega (
                arith,
                q.2,
                total_le (live (us (suc k)).threshold (suc k)) (live (q.0 * 1024) (suc k)) (live_less (q.0 * 1024) (us (suc k)).threshold (suc k) le) later,
              )

-- ---- how long the queue is

pub round_short : (P : Problem) → 0 < P.n → (us : ℕ → Agent) (front later : List Msg) → Round P us front later → length (front ++ later) ≤ 3 * most_in_round P
round_short P n1 us front later r =
    omega (
      arith,
      length-append front later,
      length_total front,
      length_total later,
      r.estimates,
      r.answers,
      r.others,
      caps-most P (λ k. total (move k) later) (λ k lt. twice k (r.phase k lt)) n1,
    )
  where
    twice : (k : ℕ) → Phase k (us k).threshold front later → total (move k) later ≤ 2
    twice k (inl q) = omega (arith, q.0)
    twice k (inr q) = omega (arith, q.0)
