-- The stops: until unit 1 stops no unit has stopped and no stop is in the air. From then on every stop in the air carries unit 1's pair of bound and best,
-- each other unit has stopped or its stop is in the air, and a unit that has stopped has unit 1's pair: its bound was no lower, and for each bound there is
-- one best.
--
-- In order: small facts; `Stopping` and `Ends`; no unit has a lower bound; unit 1 stops; a message that is accepted; making.
-- Assumes nothing.
use Rattle.std.specs.Prelude.{ℕ, zero, suc, ◌+◌, ◌-◌, ◌≤◌, ◌<◌, pred, ◌≡◌, refl, ◌≢◌, ◌⊎◌, Bool, true, false, List, [], ◌∷◌, ◌++◌, eqb}
use Rattle.std.proofs.Common.{sym, ap, ◌∙◌, subst, inl, inr, arith, le_antisymm, eqb-true}
use Rattle.std.proofs.lemmas.Bool.{eqb-false}
use Rattle.base.specs.Members.{In, here, there, Every}
use Rattle.base.specs.Members.Laws.{in_append, in_left, in_right, every_nil}
use Rattle.protocol.specs.Problem.{Problem, Laws, closed-least, least_le, NONE}
use Rattle.protocol.specs.Machine.{Msg, down, back, request, estimate, solution, stop, to, to_each, Agent, fresh, Result, refused, done, halt, counted, assign, step, Network, put, made, make}
use Rattle.protocol.specs.Tests.{true_not_false}
use Rattle.protocol.specs.Walk.{take_bound_cases}
use Rattle.protocol.specs.Safety.Logs.{Safe}
use Rattle.protocol.specs.Safety.Network.{SafeNetwork}
use Rattle.protocol.proofs.Safety.Network.{put_all, put_other}
use Rattle.protocol.specs.Safety.Run.{Among}
use Rattle.protocol.proofs.Safety.Run.{taken}
use Rattle.protocol.proofs.Liveness.Run.{taken_waits}
use Rattle.protocol.specs.Count.Stops.{NotStop, JustStopped, Ending}
use Rattle.protocol.proofs.Count.Stops.{try_ends, step_ends}
use Rattle.protocol.specs.Count.Tally.{Running}
use Rattle.protocol.proofs.Count.Tally.{put-running, accept_running}
use Rattle.protocol.specs.Best.Told.{Carries, Has, Copies, Told}
use Rattle.protocol.proofs.Best.Told.{assign-told}
use Rattle.protocol.specs.Best.Pairs.{Seen, OneBest, PairStep}
use Rattle.protocol.proofs.Best.Pairs.{accept_steps}
use Rattle.protocol.specs.Air.Stops.{Ends, StopOf, Stopping}

-- ---- small facts

pub stop_or_not : (m : Msg) → NotStop m ⊎ ((k : ℕ) × (B : ℕ) × (l : List ℕ) × (m ≡ stop k B l))
stop_or_not (down k s b B l) = inl tt
stop_or_not (back k s b B l) = inl tt
stop_or_not (request k j s b) = inl tt
stop_or_not (estimate k j s e) = inl tt
stop_or_not (solution k B l) = inl tt
stop_or_not (stop k B l) = inr (k, B, l, refl)

in_each : (g : ℕ → Msg) (lo m j : ℕ) → lo ≤ j → j < lo + m → In (g j) (to_each g lo m)
in_each g lo zero j a b = absurd (omega arith)
in_each g lo (suc m) j a b = go (eqb j lo) refl (λ lt. in_each g (suc lo) m j lt (omega arith))
  where
    go : (t : Bool) → eqb j lo ≡ t → (suc lo ≤ j → In (g j) (to_each g (suc lo) m)) → In (g j) (g lo ∷ to_each g (suc lo) m)
    go true e f = here (ap g (eqb-true j lo e))
    go false e f = let ne : j ≢ lo = eqb-false j lo e in there (f (omega (arith, ne)))

-- ---- unit 1 has stopped: no unit's bound is lower
no_lower : (P : Problem) (us : ℕ → Agent) → Safe P us → 0 < P.n → (us 0).stopped ≡ true → (k : ℕ) → k < P.n → (us 0).bound ≤ (us k).bound
no_lower P us safe n1 st k lt = least_le P _ _ (safe 0 n1).valid (closed-least P (us 0).bound ((safe 0 n1).stop refl st)) (safe k lt).valid

-- ---- unit 1 stops: it becomes w and sends ms, with the messages `rest`, none a stop, still in the air
first_stops : (P : Problem) (us : ℕ → Agent) → ((k : ℕ) → (us k).stopped ≡ false) → (w : Agent) (rest ms : List Msg) → Every NotStop rest → Every (Copies w) ms → JustStopped P 0 w ms → (count : ℕ)
    → Stopping P (record { units = put us 0 w; pool = rest ++ ms; accepted = count })
first_stops P us none w rest ms ns cs js count =
    record {
      first = js.1;
      stops = λ k B l i. stops k B l (in_append rest ms i);
      same = put_all us 0 w (λ i x. i < P.n → x.stopped ≡ true → Has w x.bound x.best) (λ lt e. (refl, refl)) (λ i ne lt e. absurd (true_not_false e (none i)));
      due = λ k lo hi.
          inr (in_right rest (subst (λ l. In (StopOf w k) l) (sym js.2.1) (in_left js.2.0 (in_each (StopOf w) 1 (pred P.n) k lo (omega arith)))));
    }
  where
    stops : (k B : ℕ) (l : List ℕ) → In (stop k B l) rest ⊎ In (stop k B l) ms → Has w B l
    stops k B l (inl i) = absurd (ns (stop k B l) i)
    stops k B l (inr i) = cs (stop k B l) i B l (refl, refl)

-- ---- a message that is accepted: m, to a unit that has not stopped

module _ (P : Problem) (laws : Laws P) (n1 : 0 < P.n) (S : Network) (r : SafeNetwork P S) (g : OneBest P S) (b a : List Msg) (m : Msg) (u : Agent) (ms : List Msg)
    (e : S.pool ≡ b ++ (m ∷ a)) (st : (S.units (to m)).stopped ≡ false) (d : step P (S.units (to m)) m ≡ done u ms) where
  abbrev S' : Network
  S' = record { units = put S.units (to m) u; pool = (b ++ a) ++ ms; accepted = suc S.accepted }

  w : Among S.pool m (b ++ a)
  w = taken b a m e

  t : PairStep P S (to m) u ms
  t = accept_steps P laws S r m w.waits u ms d

  -- no unit has stopped before
  running : Running S → JustStopped P (to m) u ms ⊎ Running S' → Ends P S'
  running h (inl js) =
      inr (subst (λ i. Stopping P (record { units = put S.units i u; pool = (b ++ a) ++ ms; accepted = suc S.accepted })) (sym js.0)
      (first_stops P S.units h.1 u (b ++ a) ms (λ x i. h.0 x (w.still x i)) t.copies (refl, js.1, js.2) (suc S.accepted)))
  running h (inr h') = inl h'

  -- unit 1 has stopped before: it is not the receiver
  module _ (h : Stopping P S) where
    not_first : 0 ≢ to m
    not_first q = true_not_false h.first (subst (λ i. (S.units i).stopped ≡ false) (sym q) st)

    first_same : S'.units 0 ≡ S.units 0
    first_same = put_other S.units (to m) u 0 not_first

    -- what is to be shown of the receiver
    stopping : Every NotStop ms → (u.stopped ≡ true → Has (S.units 0) u.bound u.best) → ((u.stopped ≡ true) ⊎ (NotStop m × (u.stopped ≡ false))) → Stopping P S'
    stopping ns sm or =
        record {
          first = ap (λ x. x.stopped) first_same ∙ h.first;
          stops = subst (λ w. (k B : ℕ) (l : List ℕ) → In (stop k B l) ((b ++ a) ++ ms) → Has w B l) (sym first_same) (λ k B l i. stops k B l (in_append (b ++ a) ms i));
          same = subst (λ w. (k : ℕ) → k < P.n → (S'.units k).stopped ≡ true → Has w (S'.units k).bound (S'.units k).best) (sym first_same)
              (put_all S.units (to m) u (λ i x. i < P.n → x.stopped ≡ true → Has (S.units 0) x.bound x.best) (λ l z. sm z) (λ i ne. h.same i));
          due = subst (λ w. (k : ℕ) → 1 ≤ k → k < P.n → ((S'.units k).stopped ≡ true) ⊎ In (StopOf w k) ((b ++ a) ++ ms)) (sym first_same)
              (put_all S.units (to m) u (λ i x. 1 ≤ i → i < P.n → (x.stopped ≡ true) ⊎ In (StopOf (S.units 0) i) ((b ++ a) ++ ms)) (λ lo hi. at or (h.due (to m) lo hi))
              (λ i ne lo hi. elsewhere i ne (h.due i lo hi)));
        }
      where
        stops : (k B : ℕ) (l : List ℕ) → In (stop k B l) (b ++ a) ⊎ In (stop k B l) ms → Has (S.units 0) B l
        stops k B l (inl i) = h.stops k B l (w.still (stop k B l) i)
        stops k B l (inr i) = absurd (ns (stop k B l) i)

        stays : (i : ℕ) → StopOf (S.units 0) i ≢ m → In (StopOf (S.units 0) i) S.pool → In (StopOf (S.units 0) i) ((b ++ a) ++ ms)
        stays i ne j = in_left ms (taken_waits b a m S.pool e (StopOf (S.units 0) i) ne j)

        at : (u.stopped ≡ true) ⊎ (NotStop m × (u.stopped ≡ false)) → ((S.units (to m)).stopped ≡ true) ⊎ In (StopOf (S.units 0) (to m)) S.pool
            → (u.stopped ≡ true) ⊎ In (StopOf (S.units 0) (to m)) ((b ++ a) ++ ms)
        at (inl z) w = inl z
        at (inr z) (inl w) = absurd (true_not_false w st)
        at (inr z) (inr j) = inr (stays (to m) (λ q. subst NotStop (sym q) z.0) j)

        elsewhere : (i : ℕ) → i ≢ to m → ((S.units i).stopped ≡ true) ⊎ In (StopOf (S.units 0) i) S.pool → ((S.units i).stopped ≡ true) ⊎ In (StopOf (S.units 0) i) ((b ++ a) ++ ms)
        elsewhere i ne (inl w) = inl w
        elsewhere i ne (inr j) = inr (stays i (λ q. ne (ap to q)) j)

    other : NotStop m → JustStopped P (to m) u ms ⊎ (Every NotStop ms × (u.stopped ≡ (S.units (to m)).stopped)) → Stopping P S'
    other ns (inl js) = absurd (not_first (sym js.0))
    other ns (inr q) = stopping q.0 (λ z. absurd (true_not_false z (q.1 ∙ st))) (inr (ns, q.1 ∙ st))

    -- the stop: the unit's bound is no lower than unit 1's, and at the same bound it has the same best
    comes : (k B : ℕ) (l : List ℕ) → m ≡ stop k B l → Stopping P S'
    comes k B l em = stopping has.2 (λ z. has.1) (inl has.0)
      where
        its : Has (S.units 0) B l
        its = h.stops k B l (subst (λ x. In x S.pool) em w.waits)

        Halted : Result → Type 0
        Halted refused = Unit {0}
        Halted (done w ns) = (w.stopped ≡ true) × Has (S.units 0) w.bound w.best × Every NotStop ns

        Both : ℕ → List ℕ → Type 0
        Both C c = Seen P S C c × ((S.units 0).bound ≤ C)

        got : (C : ℕ) (c : List ℕ) → C ≤ B → Both C c → Has (S.units 0) C c
        got C c le bo =
            let q : C ≡ (S.units 0).bound = le_antisymm (omega (arith, le, its.0)) bo.1 in
            (q, g.one (S.units 0).bound c (S.units 0).best (subst (λ x. Seen P S x c) q bo.0) (inl (0, n1, (refl, refl))))

        halted : Halted (step P (S.units (to m)) (stop k B l))
        halted =
            take_bound_cases Both (λ w. Halted (done (halt w) [])) B l (S.units (to m)) (inl (to m, t.lt, (refl, refl)), no_lower P S.units r.safe n1 h.first (to m) t.lt)
            (inr (m, w.waits, subst (λ x. Carries x B l) (sym em) (refl, refl)), omega (arith, its.0))
            (λ C c le₁ le₂ bo. (refl, got C c le₂ bo, every_nil _))

        has : (u.stopped ≡ true) × Has (S.units 0) u.bound u.best × Every NotStop ms
        has = subst Halted d (subst (λ x. Halted (step P (S.units (to m)) x)) (sym em) halted)

  kind : Stopping P S → NotStop m ⊎ ((k : ℕ) × (B : ℕ) × (l : List ℕ) × (m ≡ stop k B l)) → Stopping P S'
  kind h (inl ns) = other h ns (subst (Ending P (to m) (S.units (to m)).stopped) d (step_ends P (S.units (to m)) m ns))
  kind h (inr q) = comes h q.0 q.1 q.2 q.3

  pub accept_ends : Ends P S → Ends P S'
  accept_ends (inl h) = running h (accept_running P S m (b ++ a) w u ms d h)
  accept_ends (inr h) = inr (kind h (stop_or_not m))

-- ---- making

module _ (P : Problem) (laws : Laws P) where
  pub make_ends : Ends P (make P)
  make_ends = go (assign P 0 fresh) (assign-told P laws 0 fresh (omega arith)) (try_ends P 0 (P.size 0 - 0) false (counted fresh))
    where
      go : (res : Result) → Told P 0 NONE [] res → Ending P 0 false res → Ends P (made res)
      go refused t q = inl (every_nil _, λ k. refl)
      go (done u ms) t q = ended (put-running P (λ k. fresh) (λ k. refl) [] (every_nil _) 0 u ms 0 q)
        where
          ended : JustStopped P 0 u ms ⊎ Running (made (done u ms)) → Ends P (made (done u ms))
          ended (inl js) = inr (first_stops P (λ k. fresh) (λ k. refl) u [] ms (every_nil _) t.copies js 0)
          ended (inr h) = inl h
