-- Delivered oldest first, cell 0 each time, the pool never holds more than 3 × (n × n + 3 × n) messages: so until unit 1 stops the delivery of cell 0 is
-- accepted, in a pool with room for that and for what one step sends. 01's pool has it.
--
-- In order: the delivery of cell 0; `Queue`, what a run of such deliveries keeps; cell 0 is accepted; a run comes to its end.
-- Assumes nothing.
use Rattle.std.specs.Prelude.{ℕ, zero, suc, ◌+◌, ◌*◌, ◌-◌, ◌≤◌, ◌<◌, ◌≡◌, refl, ◌⊎◌, Bool, true, false, List, [], ◌∷◌, ◌++◌, eqb, length, replicate}
use Rattle.std.proofs.Common.{sym, subst, inl, inr, append-nil, append_assoc, arith, mul-le-mul, eqb-true}
use Rattle.std.proofs.lemmas.Bool.{eqb-false}
use Rattle.base.specs.Limits.{pool_cells}
use Rattle.base.specs.Members.{In, here, there}
use Rattle.base.specs.Members.Laws.{in_left, in_right, not-in-nil, every_nil}
use Rattle.protocol.specs.Problem.{Problem, Laws}
use Rattle.protocol.specs.Machine.{Msg, to, Agent, fresh, Result, refused, done, counted, assign, step, Network, put, made, make, hand_over, admit, deliver, run}
use Rattle.protocol.specs.Demand3.{most, Demand3}
use Rattle.protocol.specs.Tests.{true_not_false}
use Rattle.protocol.specs.Totals.{total, total_le}
use Rattle.protocol.specs.Safety.Facts.{ValidMsg}
use Rattle.protocol.specs.Safety.Logs.{logs, Recorded}
use Rattle.protocol.specs.Safety.Network.{SafeNetwork}
use Rattle.protocol.proofs.Safety.Network.{put_at, make_safe}
use Rattle.protocol.proofs.Safety.Run.{deliver_safe}
use Rattle.protocol.proofs.Liveness.Effect.{to<n}
use Rattle.protocol.specs.Walk.{hand_cases}
use Rattle.protocol.proofs.Progress.Light.{step_sends}
use Rattle.protocol.proofs.Progress.Run.{hand_accepts}
use Rattle.protocol.proofs.Theorem.{run-kept, demand3}
use Rattle.protocol.specs.Oldest.Turn.{move, live}
use Rattle.protocol.proofs.Oldest.Turn.{live_move, Sent, Gone, try_gone}
use Rattle.protocol.specs.Oldest.Rounds.{most_in_round}
use Rattle.protocol.proofs.Oldest.Rounds.{Round, caps_more, step_round, next_round, round_short}
use Rattle.protocol.specs.Oldest.Run.{room_oldest}

-- ---- the delivery of cell 0: it changes nothing, or the first message is handed over

module _ (P : Problem) (room : ℕ) (S : Network) (Q : Network → Type 0) (q : Q S) where
  none_waits : S.pool ≡ [] → Q (deliver P room S 0)
  none_waits e = go (S.units 0).stopped
    where
      go : (t : Bool) → Q (admit P t room S 0)
      go true = q
      go false = subst (λ l. Q (hand_over P room S [] l)) (sym e) q

  first_cases : (m : Msg) (after : List Msg) → S.pool ≡ m ∷ after
      → ((u : Agent) (ms : List Msg) → step P (S.units (to m)) m ≡ done u ms → Q (record { units = put S.units (to m) u; pool = after ++ ms; accepted = suc S.accepted }))
      → Q (deliver P room S 0)
  first_cases m after e f = go (S.units 0).stopped
    where
      go : (t : Bool) → Q (admit P t room S 0)
      go true = q
      go false = subst (λ l. Q (hand_over P room S [] l)) (sym e) (hand_cases P room S Q [] after m q (λ u ms d le. f u ms d))

-- ---- what is kept: until unit 1 stops the pool is a queue of two parts

abbrev pub Queue : Problem → Network → Type 0
Queue P S = ((S.units 0).stopped ≡ true) ⊎ ((front later : List Msg) × (S.pool ≡ front ++ later) × Round P S.units front later)

module _ (P : Problem) (laws : Laws P) (n1 : 0 < P.n) where
  -- cell 0 is the first of `front`; where nothing is left in it a new round begins
  deliver_queue : (room : ℕ) (S : Network) → SafeNetwork P S → Queue P S → Queue P (deliver P room S 0)
  deliver_queue room S safe (inl st) = subst (λ t. Queue P (admit P t room S 0)) (sym st) (inl st)
  deliver_queue room S safe (inr q) = rounds q.0 q.1 q.2 q.3
    where
      first : (m : Msg) (front later : List Msg) → S.pool ≡ m ∷ (front ++ later) → Round P S.units (m ∷ front) later → Queue P (deliver P room S 0)
      first m front later e r =
          first_cases P room S (Queue P) (inr (m ∷ front, later, e, r)) m (front ++ later) e
          (λ u ms d.
          after u ms
          (step_round P laws S.units safe.safe front later m (valid m (here refl)) (λ x i. valid x (there (in_left later i))) (λ x i. valid x (there (in_right front i))) u ms d r))
        where
          valid : (x : Msg) → In x (m ∷ (front ++ later)) → ValidMsg P (Recorded (logs S.units)) x
          valid x i = safe.msgs x (subst (λ l. In x l) (sym e) i)

          after : (u : Agent) (ms : List Msg) → ((to m ≡ 0) × (u.stopped ≡ true)) ⊎ Round P (put S.units (to m) u) front (later ++ ms)
              → Queue P (record { units = put S.units (to m) u; pool = (front ++ later) ++ ms; accepted = suc S.accepted })
          after u ms (inl h) = inl (subst (λ x. x.stopped ≡ true) (sym (subst (λ i. put S.units (to m) u i ≡ u) h.0 (put_at S.units (to m) u))) h.1)
          after u ms (inr h) = inr (front, later ++ ms, append_assoc front later ms, h)

      rounds : (front later : List Msg) → S.pool ≡ front ++ later → Round P S.units front later → Queue P (deliver P room S 0)
      rounds [] [] e r = none_waits P room S (Queue P) (inr ([], [], e, r)) e
      rounds [] (m ∷ later) e r = first m later [] (subst (λ l. S.pool ≡ m ∷ l) (sym (append-nil later)) e) (next_round P n1 S.units (m ∷ later) r)
      rounds (m ∷ front) later e r = first m front later e r

  make_queue : Queue P (make P)
  make_queue = go (assign P 0 fresh) (try_gone P 0 n1 0 (P.size 0 - 0) false (counted fresh) (λ z. absurd (true_not_false z refl)) (omega arith, omega arith))
    where
      begin : (u : Agent) (ms : List Msg) → Sent P 0 ms → Round P (put (λ i. fresh) 0 u) [] ms
      begin u ms s =
          record {
            paired = tt;
            paired_later = s.paired;
            phase = λ k lt. inr (omega (arith, once k (eqb k 0) refl), every_nil _);
            newest = λ k lt. (0, inr (omega arith), omega (arith, once k (eqb k 0) refl, total_le (live 0 (suc k)) (move k) (live_move 0 k) ms));
            estimates = omega arith;
            answers = omega (arith, s.estimates);
            others = caps_more P 0 n1 [] ms s.others (omega arith);
          }
        where
          once : (k : ℕ) (t : Bool) → eqb k 0 ≡ t → total (move k) ms ≤ 1
          once k true e = subst (λ x. total (move x) ms ≤ 1) (sym (eqb-true k 0 e)) s.once
          once k false e = omega (arith, s.alone k (eqb-false k 0 e))

      go : (r : Result) → Gone P 0 0 r → Queue P (made r)
      go refused h = inr ([], [], refl, empty)
        where
          empty : Round P (λ i. fresh) [] []
          empty =
              record {
                paired = tt;
                paired_later = tt;
                phase = λ k lt. inl (refl, omega arith);
                newest = λ k lt. (0, inr (omega arith), omega arith);
                estimates = omega arith;
                answers = omega arith;
                others = omega arith;
              }
      go (done u ms) h = sent h.1
        where
          sent : ((◌≡◌ {A = ℕ} 0 0) × (u.stopped ≡ true)) ⊎ Sent P 0 ms → Queue P (made (done u ms))
          sent (inl e) = inl e.1
          sent (inr s) = inr ([], ms, refl, begin u ms s)

  -- ---- a run of m such deliveries

  abbrev pub oldest_first : ℕ → ℕ → Network
  oldest_first room m = run P room (make P) (replicate m 0)

  run_queue : (room : ℕ) (S : Network) → SafeNetwork P S → Queue P S → (m : ℕ) → Queue P (run P room S (replicate m 0))
  run_queue room S safe q zero = q
  run_queue room S safe q (suc m) = run_queue room (deliver P room S 0) (deliver_safe P laws room S 0 safe) (deliver_queue room S safe q) m

  -- until unit 1 stops so many messages wait, and no more
  pub oldest_short : (room m : ℕ) → ((oldest_first room m).units 0).stopped ≡ false → length (oldest_first room m).pool ≤ 3 * most_in_round P
  oldest_short room m st = go (run_queue room (make P) (make_safe P laws n1) make_queue m)
    where
      S : Network
      S = oldest_first room m

      go : Queue P S → length S.pool ≤ 3 * most_in_round P
      go (inl e) = absurd (true_not_false e st)
      go (inr q) = subst (λ l. length l ≤ 3 * most_in_round P) (sym q.2) (round_short P n1 S.units q.0 q.1 q.3)

  -- ---- cell 0 is accepted

  pub oldest_accepted : (room : ℕ) → room_oldest P ≤ room → (m : ℕ) → ((oldest_first room m).units 0).stopped ≡ false
      → (deliver P room (oldest_first room m) 0).accepted ≡ suc (oldest_first room m).accepted
  oldest_accepted room enough m st = subst (λ t. (admit P t room S 0).accepted ≡ suc S.accepted) (sym st) (first S.pool refl)
    where
      S : Network
      S = oldest_first room m

      holds : Demand3 P S
      holds = demand3 P laws n1 room (replicate m 0)

      first : (l : List Msg) → S.pool ≡ l → (hand_over P room S [] l).accepted ≡ suc S.accepted
      first [] e = absurd (not-in-nil (subst (λ l. In (holds.waits st).0 l) e (holds.waits st).1))
      first (x ∷ after) e =
          let i : In x S.pool = subst (λ l. In x l) (sym e) (here refl) in
          let safe = (run-kept P laws n1 room (replicate m 0)).network in
          hand_accepts P room S [] after x (holds.honest x i) P.n (step_sends P (S.units (to x)) x (to<n P laws S.units safe.safe x (safe.msgs x i)))
          (omega (arith, subst (λ l. length l ≤ 3 * most_in_round P) e (oldest_short room m st), enough))

  -- ---- so unit 1 stops after at most as many deliveries of cell 0 as demand 3 allows

  one_more : (room : ℕ) (S : Network) (m : ℕ) → run P room S (replicate (suc m) 0) ≡ deliver P room (run P room S (replicate m 0)) 0
  one_more room S zero = refl
  one_more room S (suc m) = one_more room (deliver P room S 0) m

  -- until it stops every one of them is accepted
  pub oldest_counts : (room : ℕ) → room_oldest P ≤ room → (m : ℕ) → (((oldest_first room m).units 0).stopped ≡ true) ⊎ ((oldest_first room m).accepted ≡ (make P).accepted + m)
  oldest_counts room enough zero = inr (omega arith)
  oldest_counts room enough (suc m) =
      subst (λ T. ((T.units 0).stopped ≡ true) ⊎ (T.accepted ≡ (make P).accepted + suc m)) (sym (one_more room (make P) m))
      (go (S.units 0).stopped refl (oldest_counts room enough m))
    where
      S : Network
      S = oldest_first room m

      go : (t : Bool) → (S.units 0).stopped ≡ t → ((S.units 0).stopped ≡ true) ⊎ (S.accepted ≡ (make P).accepted + m)
          → (((deliver P room S 0).units 0).stopped ≡ true) ⊎ ((deliver P room S 0).accepted ≡ (make P).accepted + suc m)
      go true e h = inl (subst (λ t. ((admit P t room S 0).units 0).stopped ≡ true) (sym e) e)
      go false e (inl h) = absurd (true_not_false h e)
      go false e (inr h) = inr (omega (arith, oldest_accepted room enough m e, h))

  pub oldest_ends : (room : ℕ) → room_oldest P ≤ room → ((oldest_first room (most P)).units 0).stopped ≡ true
  oldest_ends room enough = go (oldest_counts room enough (most P))
    where
      holds : Demand3 P (oldest_first room (most P))
      holds = demand3 P laws n1 room (replicate (most P) 0)

      go : (((oldest_first room (most P)).units 0).stopped ≡ true) ⊎ ((oldest_first room (most P)).accepted ≡ (make P).accepted + most P) → ((oldest_first room (most P)).units 0).stopped ≡ true
      go (inl h) = h
      go (inr h) = holds.ends (omega (arith, h, holds.bounded))

-- 01's pool has 1,024 cells
pub enough_oldest : (P : Problem) → P.n ≤ 16 → room_oldest P ≤ pool_cells
enough_oldest P n16 = omega (arith, n16, mul-le-mul n16 n16)
