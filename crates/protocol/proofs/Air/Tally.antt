-- The balance on the air: the stops in the air are counted beside what Count's weights count, and the n - 1 of them are paid by unit 1's stop.
--
-- In order: stops in a list; `AirBalance`; a message that is accepted; making; what the records pay.
-- Assumes nothing.
use Rattle.std.specs.Prelude.{ℕ, suc, ◌+◌, ◌*◌, ◌-◌, ◌≤◌, ◌<◌, pred, ◌≡◌, refl, ◌⊎◌, Bool, true, false, cond, List, [], ◌∷◌, ◌++◌, length}
use Rattle.std.proofs.Common.{sym, ap, subst, inl, inr, arith, eqb-true}
use Rattle.std.proofs.lemmas.Bool.{eqb-false}
use Rattle.base.specs.Members.{Every}
use Rattle.protocol.specs.Problem.{Problem, Laws}
use Rattle.protocol.specs.Machine.{Msg, down, back, request, estimate, solution, stop, to, Agent, fresh, Result, refused, done, halt, counted, is_last, give_back, assign, step, Network, put, made, make}
use Rattle.protocol.specs.Totals.{total, total_append, total-taken, total_each, total_none}
use Rattle.protocol.specs.Walk.{take_bound_cases}
use Rattle.protocol.specs.Safety.Facts.{ValidMsg}
use Rattle.protocol.specs.Safety.Logs.{logs, Recorded, Safe}
use Rattle.protocol.specs.Safety.Network.{SafeNetwork}
use Rattle.protocol.proofs.Safety.Network.{put_all, put_other}
use Rattle.protocol.proofs.Safety.Run.{in_pool}
use Rattle.protocol.proofs.Liveness.Effect.{to<n}
use Rattle.protocol.specs.Count.Weights.{weight, fee, out, extra-last, extra-other, fee-other}
use Rattle.protocol.proofs.Count.Paid.{PaidStep}
use Rattle.protocol.specs.Count.Stops.{NotStop, JustStopped, Ending}
use Rattle.protocol.proofs.Count.Stops.{try_ends, step_ends}
use Rattle.protocol.specs.Count.Tally.{fees, Balance}
use Rattle.protocol.proofs.Count.Tally.{step_paid, accept_weighs, make_tally}
use Rattle.protocol.proofs.Count.Prefixes.{fees_at_most}
use Rattle.protocol.specs.Air.Run.{most_of, most_on_air}
use Rattle.protocol.proofs.Air.Stops.{stop_or_not}
use Rattle.protocol.specs.Air.Tally.{AirBalance, is_stop, stop_pays}

is_not_stop : (m : Msg) → NotStop m → is_stop m ≡ 0
is_not_stop (down k s b B l) ns = refl
is_not_stop (back k s b B l) ns = refl
is_not_stop (request k j s b) ns = refl
is_not_stop (estimate k j s e) ns = refl
is_not_stop (solution k B l) ns = refl
is_not_stop (stop k B l) ns = absurd ns

no_stops : (ms : List Msg) → Every NotStop ms → total is_stop ms ≡ 0
no_stops ms h = total_none is_stop ms (λ m i. is_not_stop m (h m i))

-- those that unit 1 sends
stops_sent : (P : Problem) (k : ℕ) (w : Agent) (ms : List Msg) → JustStopped P k w ms → total is_stop ms ≡ P.n - 1
stops_sent P k w ms js =
    omega (
      arith,
      ap (total is_stop) js.2.1,
      total_append is_stop (give_back P 0 w) js.2.0,
      total_each is_stop (λ j. stop j w.bound w.best) 1 (λ j. refl) 1 (pred P.n),
      no_stops js.2.0 js.2.2,
    )

pub stop_pays_le : (P : Problem) (t : Bool) → stop_pays P t ≤ P.n - 1
stop_pays_le P true = omega arith
stop_pays_le P false = omega arith

-- ---- a message that is accepted: m, to a unit that has not stopped

module _ (P : Problem) (laws : Laws P) (S : Network) (r : SafeNetwork P S) (b a : List Msg) (m : Msg) (u : Agent) (ms : List Msg) (e : S.pool ≡ b ++ (m ∷ a))
    (st : (S.units (to m)).stopped ≡ false) (d : step P (S.units (to m)) m ≡ done u ms) where
  abbrev S' : Network
  S' = record { units = put S.units (to m) u; pool = (b ++ a) ++ ms; accepted = suc S.accepted }

  ok : ValidMsg P (Recorded (logs S.units)) m
  ok = r.msgs m (in_pool b a m e)

  lt : to m < P.n
  lt = to<n P laws S.units r.safe m ok

  -- from what the step pays, for x deliveries, and the stops
  balanced : (x : ℕ)
      → x + total (weight P) ms + out (to m) u + fee P (to m) * length (S.units (to m)).log ≤ weight P m + out (to m) (S.units (to m)) + fee P (to m) * length u.log
      → 1 + total is_stop ms + stop_pays P (S.units 0).stopped ≤ x + is_stop m + stop_pays P (S'.units 0).stopped → AirBalance P S → AirBalance P S'
  balanced x paid stops h =
      omega (arith, h, stops, accept_weighs P S m u ms ((b ++ a) ++ ms) (omega (arith, total-taken (weight P) b a m ms e)) lt x paid, total-taken is_stop b a m ms e)

  other : NotStop m → AirBalance P S → AirBalance P S'
  other ns =
      balanced 1 (subst (λ x. PaidStep P (to m) lt (S.units (to m)) m x) d (step_paid P S.units m lt ok ns))
      (go (subst (Ending P (to m) (S.units (to m)).stopped) d (step_ends P (S.units (to m)) m ns)))
    where
      go : JustStopped P (to m) u ms ⊎ (Every NotStop ms × (u.stopped ≡ (S.units (to m)).stopped))
          → 1 + total is_stop ms + stop_pays P (S.units 0).stopped ≤ 1 + is_stop m + stop_pays P (S'.units 0).stopped
      go (inl js) =
          let was : (S.units 0).stopped ≡ false = subst (λ i. (S.units i).stopped ≡ false) js.0 st in
          let is : (S'.units 0).stopped ≡ true = subst (λ i. (put S.units i u 0).stopped ≡ true) (sym js.0) js.1 in
          omega (arith, ap (stop_pays P) was, ap (stop_pays P) is, stops_sent P (to m) u ms js)
      go (inr q) =
          let same : (S'.units 0).stopped ≡ (S.units 0).stopped = put_all S.units (to m) u (λ i x. x.stopped ≡ (S.units i).stopped) q.1 (λ i ne. refl) 0 in
          omega (arith, no_stops ms q.0, ap (stop_pays P) same)

  comes : (k B : ℕ) (l : List ℕ) → m ≡ stop k B l → AirBalance P S → AirBalance P S'
  comes k B l em h = balanced 0 (omega (arith, has.0, has.1, has.2)) (omega (arith, has.3, ap is_stop em, ap (λ x. stop_pays P x.stopped) first)) h
    where
      lo : 1 ≤ to m
      lo = subst (λ x. ValidMsg P (Recorded (logs S.units)) x → 1 ≤ to x) (sym em) (λ v. v.1) ok

      first : S'.units 0 ≡ S.units 0
      first = put_other S.units (to m) u 0 (omega (arith, lo))

      Halted : Result → Type 0
      Halted refused = Unit {0}
      Halted (done w ns) =
          (total (weight P) ns ≡ 0) × (out (to m) w ≡ out (to m) (S.units (to m))) × (fee P (to m) * length w.log ≡ fee P (to m) * length (S.units (to m)).log) × (total is_stop ns ≡ 0)

      halted : Halted (step P (S.units (to m)) (stop k B l))
      halted =
          take_bound_cases (λ C c. Unit {0}) (λ w. Halted (done (halt w) [])) B l (S.units (to m)) tt tt (λ C c le₁ le₂ x. (refl, refl, refl, refl))

      has : (total (weight P) ms ≡ 0) × (out (to m) u ≡ out (to m) (S.units (to m))) × (fee P (to m) * length u.log ≡ fee P (to m) * length (S.units (to m)).log) × (total is_stop ms ≡ 0)
      has = subst Halted d (subst (λ x. Halted (step P (S.units (to m)) x)) (sym em) halted)

  pub accept_balance : AirBalance P S → AirBalance P S'
  accept_balance h = go (stop_or_not m)
    where
      go : NotStop m ⊎ ((k : ℕ) × (B : ℕ) × (l : List ℕ) × (m ≡ stop k B l)) → AirBalance P S'
      go (inl ns) = other ns h
      go (inr q) = comes q.0 q.1 q.2 q.3 h

-- ---- making

pub make_balance : (P : Problem) (laws : Laws P) → 0 < P.n → AirBalance P (make P)
make_balance P laws n1 = go (assign P 0 fresh) (try_ends P 0 (P.size 0 - 0) false (counted fresh)) (make_tally P laws n1).balance
  where
    go : (res : Result) → Ending P 0 false res → Balance P (made res) → AirBalance P (made res)
    go refused q h = omega (arith, h)
    go (done u ms) (inl js) h = omega (arith, h, ap (stop_pays P) js.1, stops_sent P 0 u ms js)
    go (done u ms) (inr q) h = omega (arith, h, no_stops ms q.0)

-- ---- what the records pay, and the stops

module _ (P : Problem) where
  fee-most : (k : ℕ) → suc k < P.n → fee P k ≤ most_of P k
  fee-most k lt = go (is_last P (suc k)) refl
    where
      go : (t : Bool) → is_last P (suc k) ≡ t → fee P k ≤ cond t (P.n + 3) (2 * (P.n - k))
      go true e = let q = eqb-true (suc (suc k)) P.n e in omega (arith, fee-other P k (omega arith), extra-last P (suc k) q, q)
      go false e = omega (arith, fee-other P k (omega arith), extra-other P (suc k) (eqb-false (suc (suc k)) P.n e))

  pub fees_on_air : (us : ℕ → Agent) → Safe P us → 0 < P.n → fees P us + (P.n - 1) ≤ most_on_air P
  fees_on_air us safe n1 = omega (arith, fees_at_most P us safe n1 (most_of P) fee-most)
