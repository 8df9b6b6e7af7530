-- The balance of a network: deliveries accepted, what waits and the CPAs out weigh at most what the records have paid.
-- Kept by every message that is accepted, since a step pays for itself; until unit 1 stops no stop waits.
--
-- In order: sums that differ at one place; `Balance` and `Stops`; one unit's step; a message that is accepted; `Tally`, which it keeps and making has.
-- Assumes nothing.
use Rattle.std.specs.Prelude.{ℕ, zero, suc, ◌+◌, ◌*◌, ◌-◌, ◌≤◌, ◌<◌, ◌≡◌, refl, ◌≢◌, ◌⊎◌, Bool, true, false, cond, List, [], ◌++◌, length}
use Rattle.std.proofs.Common.{sym, ap, ◌∙◌, subst, inl, inr, arith, eqb-true}
use Rattle.base.specs.Sums.{sum_to}
use Rattle.base.specs.Members.{In, Every}
use Rattle.base.specs.Members.Laws.{every_nil, every_append}
use Rattle.protocol.specs.Problem.{Problem, Laws}
use Rattle.protocol.specs.Machine.{Msg, down, back, request, estimate, solution, stop, to, Agent, fresh, Result, refused, done, counted, is_last, assign, step, Network, put, made, make}
use Rattle.protocol.specs.Tests.{true_not_false, le_split}
use Rattle.protocol.specs.Safety.Facts.{ValidMsg}
use Rattle.protocol.specs.Safety.Logs.{logs, Recorded}
use Rattle.protocol.specs.Safety.Network.{SafeNetwork}
use Rattle.protocol.proofs.Safety.Network.{put_all, put_at, put_other}
use Rattle.protocol.specs.Safety.Run.{Among}
use Rattle.protocol.proofs.Safety.Run.{heard}
use Rattle.protocol.proofs.Liveness.Effect.{to<n}
use Rattle.protocol.specs.Count.Weights.{extra, weight, fee, out}
use Rattle.protocol.specs.Totals.{total}
use Rattle.protocol.proofs.Count.Paid.{Paid, try_paid, PaidStep, down_paid, back_paid, estimate_paid, request_paid, solution_paid}
use Rattle.protocol.specs.Count.Stops.{NotStop, JustStopped, Ending}
use Rattle.protocol.proofs.Count.Stops.{try_ends, step_ends}
use Rattle.protocol.specs.Count.Tally.{Balance, Running, Stops, Tally, Weighs, fees, outs}

-- ---- sums

sum_same : (f g : ℕ → ℕ) (n : ℕ) → ((i : ℕ) → i < n → g i ≡ f i) → sum_to g n ≡ sum_to f n
sum_same f g zero h = refl
sum_same f g (suc n) h = omega (arith, sum_same f g n (λ i lt. h i (omega arith)), h n (omega arith))

-- two sums that differ at j alone
pub sum_put : (f g : ℕ → ℕ) (j n : ℕ) → j < n → ((i : ℕ) → i ≢ j → g i ≡ f i) → sum_to g n + f j ≡ sum_to f n + g j
sum_put f g j zero lt h = absurd (omega arith)
sum_put f g j (suc n) lt h = go (le_split (suc j) n lt) (λ l. sum_put f g j n l h)
  where
    go : (suc j ≤ n) ⊎ (suc j ≡ suc n) → (j < n → sum_to g n + f j ≡ sum_to f n + g j) → sum_to g (suc n) + f j ≡ sum_to f (suc n) + g j
    go (inl l) ih = omega (arith, ih l, h n (omega arith))
    go (inr e) ih =
        let q : n ≡ j = omega arith in
        omega (arith, sum_same f g n (λ i l. h i (omega arith)), ap f q, ap g q)

module _ (P : Problem) where
  -- where fewer messages wait
  pub stops_fewer : (S : Network) (new : List Msg) → Every (λ x. In x S.pool) new → Stops P S → Stops P (record { units = S.units; pool = new; accepted = S.accepted })
  stops_fewer S new fewer (inl q) = inl q
  stops_fewer S new fewer (inr h) = inr ((λ x i. h.0 x (fewer x i)), h.1)

-- ---- one unit's step

module _ (P : Problem) (us : ℕ → Agent) where
  pub step_paid : (m : Msg) (lt : to m < P.n) → ValidMsg P (Recorded (logs us)) m → NotStop m → PaidStep P (to m) lt (us (to m)) m (step P (us (to m)) m)
  step_paid (down k s b B l) lt ok ns = down_paid P k lt (us k) s b B l
  step_paid (back k s b B l) lt ok ns = back_paid P k lt (us k) s b B l ok.0
  step_paid (request k j s b) lt ok ns = request_paid P k lt (us k) j s b
  step_paid (estimate k j s e) lt ok ns = estimate_paid P k lt (us k) j s e (omega (arith, ok.1, ok.3))
  step_paid (solution k B l) lt ok ns = solution_paid P k lt (us k) B l
  step_paid (stop k B l) lt ok ns = absurd ns

  -- the units' side of the balance after unit k's step
  put_balance : (k : ℕ) (u : Agent) → k < P.n → (x y : ℕ) → x + out k u + fee P k * length (us k).log ≤ y + out k (us k) + fee P k * length u.log
      → x + outs P (put us k u) + fees P us ≤ y + outs P us + fees P (put us k u)
  put_balance k u lt x y h =
      let a : outs P (put us k u) + out k (us k) ≡ outs P us + out k (put us k u k) =
      sum_put (λ i. out i (us i)) (λ i. out i (put us k u i)) k P.n lt (λ i ne. ap (out i) (put_other us k u i ne)) in
      let b : fees P (put us k u) + fee P k * length (us k).log ≡ fees P us + fee P k * length (put us k u k).log =
      sum_put (λ i. fee P i * length (us i).log) (λ i. fee P i * length (put us k u i).log) k P.n lt (λ i ne. ap (λ z. fee P i * length z.log) (put_other us k u i ne)) in
      omega (arith, h, a, b, ap (out k) (put_at us k u), ap (λ z. fee P k * length z.log) (put_at us k u))

  -- unit k becomes u and sends ms, with the messages `rest` still there: no unit had stopped
  pub put-running : ((i : ℕ) → (us i).stopped ≡ false) → (rest : List Msg) → Every NotStop rest → (k : ℕ) (u : Agent) (ms : List Msg) (count : ℕ) → Ending P k (us k).stopped (done u ms)
      → JustStopped P k u ms ⊎ Running (record { units = put us k u; pool = rest ++ ms; accepted = count })
  put-running none rest ns k u ms count (inl h) = inl h
  put-running none rest ns k u ms count (inr h) =
      inr (every_append NotStop rest ms ns h.0, put_all us k u (λ i x. x.stopped ≡ false) (h.1 ∙ none k) (λ i ne. none i))

  put_stops : (k : ℕ) (u : Agent) (ms pool : List Msg) (count : ℕ) → JustStopped P k u ms ⊎ Running (record { units = put us k u; pool = pool; accepted = count })
      → Stops P (record { units = put us k u; pool = pool; accepted = count })
  put_stops k u ms pool count (inl h) = inl (subst (λ i. (put us i u 0).stopped ≡ true) (sym h.0) h.1)
  put_stops k u ms pool count (inr h) = inr h

module _ (P : Problem) (S : Network) (m : Msg) (u : Agent) (ms new : List Msg) (w : Weighs P S.pool m ms new) where
  -- x deliveries, the messages and the CPAs out weigh no more after than before, if the step pays for x and what it sends
  pub accept_weighs : to m < P.n → (x : ℕ)
      → x + total (weight P) ms + out (to m) u + fee P (to m) * length (S.units (to m)).log ≤ weight P m + out (to m) (S.units (to m)) + fee P (to m) * length u.log
      → x + total (weight P) new + outs P (put S.units (to m) u) + fees P S.units ≤ total (weight P) S.pool + outs P S.units + fees P (put S.units (to m) u)
  accept_weighs lt x paid = omega (arith, w, put_balance P S.units (to m) u lt (x + total (weight P) ms) (weight P m) paid)

module _ (P : Problem) (S : Network) (m : Msg) (rest : List Msg) (w : Among S.pool m rest) (u : Agent) (ms : List Msg) (d : step P (S.units (to m)) m ≡ done u ms) where
  pub accept_running : Running S → JustStopped P (to m) u ms ⊎ Running (record { units = put S.units (to m) u; pool = rest ++ ms; accepted = suc S.accepted })
  accept_running h =
      put-running P S.units h.1 rest (λ x i. h.0 x (w.still x i)) (to m) u ms (suc S.accepted)
      (subst (Ending P (to m) (S.units (to m)).stopped) d (step_ends P (S.units (to m)) m (h.0 m w.waits)))

  -- unit 1 has not stopped before
  pub accept_stops : (S.units 0).stopped ≡ false → Stops P S → Stops P (record { units = put S.units (to m) u; pool = rest ++ ms; accepted = suc S.accepted })
  accept_stops st (inl q) = absurd (true_not_false q st)
  accept_stops st (inr h) = put_stops P S.units (to m) u ms (rest ++ ms) (suc S.accepted) (accept_running h)

module _ (P : Problem) (laws : Laws P) (n1 : 0 < P.n) where
  -- unit 1 has not stopped
  pub accept_tally : (S : Network) → SafeNetwork P S → Tally P S → (m : Msg) → In m S.pool → (u : Agent) (ms new : List Msg) → Every (λ x. In x (S.pool ++ ms)) new → Weighs P S.pool m ms new
      → (S.units 0).stopped ≡ false → step P (S.units (to m)) m ≡ done u ms → Tally P (record { units = put S.units (to m) u; pool = new; accepted = suc S.accepted })
  accept_tally S r t m i u ms new only w st d =
      record {
        balance = go t.stops;
        stops =
            stops_fewer P (record { units = put S.units (to m) u; pool = S.pool ++ ms; accepted = suc S.accepted }) new only
            (accept_stops P S m S.pool (heard m i) u ms d st t.stops);
      }
    where
      ok : ValidMsg P (Recorded (logs S.units)) m
      ok = r.msgs m i

      lt : to m < P.n
      lt = to<n P laws S.units r.safe m ok

      go : Stops P S → Balance P (record { units = put S.units (to m) u; pool = new; accepted = suc S.accepted })
      go (inl q) = absurd (true_not_false q st)
      go (inr h) =
          let paid : PaidStep P (to m) lt (S.units (to m)) m (done u ms) =
          subst (λ x. PaidStep P (to m) lt (S.units (to m)) m x) d (step_paid P S.units m lt ok (h.0 m i)) in
          omega (arith, t.balance, accept_weighs P S m u ms new w lt 1 paid)

  pub make_tally : Tally P (make P)
  make_tally = go (assign P 0 fresh) (try_paid P 0 n1 (P.size 0 - 0) false (counted fresh) (λ z. absurd (true_not_false z refl))) (try_ends P 0 (P.size 0 - 0) false (counted fresh))
    where
      none : (n : ℕ) → sum_to (λ k. out k fresh) n ≡ 0
      none zero = refl
      none (suc n) = omega (arith, none n)

      free : (n : ℕ) → sum_to (λ k. fee P k * 0) n ≡ 0
      free zero = refl
      free (suc n) = omega (arith, free n)

      extra0 : (t : Bool) → is_last P 0 ≡ t → cond t (P.n - 1) 0 ≡ 0
      extra0 true e = omega (arith, eqb-true 1 P.n e)
      extra0 false e = refl

      go : (res : Result) → Paid P 0 n1 0 res → Ending P 0 false res → Tally P (made res)
      go refused p q = record { balance = omega (arith, none P.n); stops = inr (every_nil _, λ k. refl) }
      go (done u ms) p q =
          record {
            balance =
                let units = put_balance P (λ k. fresh) 0 u n1 (total (weight P) ms) (extra P 0) (omega (arith, p)) in
                omega (arith, units, none P.n, free P.n, extra0 (is_last P 0) refl);
            stops = put_stops P (λ k. fresh) 0 u ms ms 0 (put-running P (λ k. fresh) (λ i. refl) [] (every_nil _) 0 u ms 0 q);
          }
