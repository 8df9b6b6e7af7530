-- The statement of Events.antt holds of every list of events in which every echoed message was sent before, and any two such runs that have stopped agree.
-- Each field is read off what an event keeps (Run.antt). A list of deliveries alone is a run of Machine.antt, so demand 3 holds of it, limit included.
-- Assumes nothing.
use Rattle.std.specs.Prelude.{ℕ, ◌^◌, ◌≤◌, ◌<◌, ◌≡◌, refl, ◌⊎◌, Bool, true, false, cond, List, [], ◌∷◌, ◌++◌, map, leb, length, take, drop}
use Rattle.std.proofs.Common.{sym, ap, ◌∙◌, subst, inl, inr, le_antisymm}
use Rattle.protocol.specs.Problem.{Problem, Laws, closed-least, least_le}
use Rattle.protocol.specs.Machine.{Msg, to, Result, refused, done, step, make, fits, settle, hand_over, admit, deliver, run}
use Rattle.protocol.specs.Demand3.{written, Demand3}
use Rattle.protocol.specs.Tests.{true_not_false}
use Rattle.protocol.proofs.Safety.Run.{never_refused}
use Rattle.protocol.specs.Liveness.Chain.{Live}
use Rattle.protocol.proofs.Liveness.Chain.{live_waits}
use Rattle.protocol.specs.Count.Tally.{Stops}
use Rattle.protocol.proofs.Count.Width.{records_fit, length_written}
use Rattle.protocol.proofs.Theorem.{demand3}
use Rattle.protocol.specs.Echo.Events.{Event, cell, Trace, handed_over, answered, start, from_cell, unless_stopped, hear, hear_all, Echoes, Unheard, HeardTwice}
use Rattle.protocol.specs.Echo.Run.{all_sent, Kept}
use Rattle.protocol.proofs.Echo.Run.{hear_all_kept, start-kept}

module _ (P : Problem) (laws : Laws P) (n1 : 0 < P.n) where
  pub kept-heard-twice : (T : Trace) → Kept P T → HeardTwice P T
  kept-heard-twice T k =
      record {
        waits = λ e. waiting e k.chain;
        report = λ e. (k.network.safe 0 n1).valid;
        least = λ e l f. closed-least P (T.network.units 0).bound ((k.network.safe 0 n1).stop refl e) l f;
        first = λ e. k.first.pairs _ _ (inl (0, n1, (refl, refl)));
        honest = never_refused P laws (all_sent T) k.network;
        running = λ e. run_on e k.stops;
        waiting_sent = k.waiting_sent;
        handed_sent = k.handed_sent;
        counted = k.counted;
      }
    where
      waiting : (T.network.units 0).stopped ≡ false → ((T.network.units 0).stopped ≡ true) ⊎ Live P.n T.network.units (Unheard T) 0 → (m : Msg) × Unheard T m
      waiting e (inl h) = absurd (true_not_false h e)
      waiting e (inr c) = live_waits c

      run_on : (T.network.units 0).stopped ≡ false → Stops P (all_sent T) → (k : ℕ) → (T.network.units k).stopped ≡ false
      run_on e (inl h) = absurd (true_not_false h e)
      run_on e (inr h) = h.1

  pub run-kept : (room : ℕ) (es : List Event) → Echoes P room (start P) es → Kept P (hear_all P room (start P) es)
  run-kept room es h = hear_all_kept P laws n1 room (start P) es h (start-kept P laws n1)

  -- ---- 02, job 2: for every list of events in which every echoed message was sent before

  pub heard-twice : (room : ℕ) (es : List Event) → Echoes P room (start P) es → HeardTwice P (hear_all P room (start P) es)
  heard-twice room es h = kept-heard-twice (hear_all P room (start P) es) (run-kept room es h)

  -- Any two after which unit 1 has stopped report the same total.
  pub two-heard : (room room' : ℕ) (es es' : List Event) → Echoes P room (start P) es → Echoes P room' (start P) es'
      → ((hear_all P room (start P) es).network.units 0).stopped ≡ true → ((hear_all P room' (start P) es').network.units 0).stopped ≡ true
      → ((hear_all P room (start P) es).network.units 0).bound ≡ ((hear_all P room' (start P) es').network.units 0).bound
  two-heard room room' es es' h h' st st' =
      let k = heard-twice room es h in
      let k' = heard-twice room' es' h' in
      le_antisymm (least_le P _ _ (k.report st) (k.least st) (k'.report st')) (least_le P _ _ (k'.report st') (k'.least st') (k.report st))

  -- The records fit two words of 64 bits. (Accepted events needn't: an echo may come any number of times.)
  pub records_few : P.n ≤ 16 → (room : ℕ) (es : List Event) → Echoes P room (start P) es → length (written (hear_all P room (start P) es).network.units P.n) < 2 ^ 128
  records_few n16 room es h =
      subst (λ x. x < 2 ^ 128) (sym (length_written (hear_all P room (start P) es).network.units P.n))
      (records_fit P laws (hear_all P room (start P) es).network.units (run-kept room es h).network.safe n16)

-- ---- without echoes

module _ (P : Problem) (room : ℕ) where
  hear_cell : (T : Trace) (c : ℕ) → (hear P room T (cell c)).network ≡ deliver P room T.network c
  hear_cell T c = over (T.network.units 0).stopped
    where
      fit : (t : Bool) (new : Trace) → (cond t new T).network ≡ fits t new.network T.network
      fit true new = refl
      fit false new = refl

      result : (m : Msg) (rest : List Msg) (r : Result) → (answered room T m rest r).network ≡ settle room T.network (to m) rest r
      result m rest refused = refl
      result m rest (done u ms) = fit (leb (length (rest ++ ms)) room) (handed_over T m rest u ms)

      hand : (b a : List Msg) → (from_cell P room T b a).network ≡ hand_over P room T.network b a
      hand b [] = refl
      hand b (m ∷ a) = result m (b ++ a) (step P (T.network.units (to m)) m)

      over : (t : Bool) → (unless_stopped P t room T (cell c)).network ≡ admit P t room T.network c
      over true = refl
      over false = hand (take c T.network.pool) (drop c T.network.pool)

  cells-heard : (T : Trace) (cs : List ℕ) → (hear_all P room T (map cell cs)).network ≡ run P room T.network cs
  cells-heard T [] = refl
  cells-heard T (c ∷ cs) = cells-heard (hear P room T (cell c)) cs ∙ ap (λ S. run P room S cs) (hear_cell T c)

  no_echoes : (T : Trace) (cs : List ℕ) → Echoes P room T (map cell cs)
  no_echoes T [] = tt
  no_echoes T (c ∷ cs) = (tt, no_echoes (hear P room T (cell c)) cs)

  pub deliveries_only : (cs : List ℕ) → Echoes P room (start P) (map cell cs) × ((hear_all P room (start P) (map cell cs)).network ≡ run P room (make P) cs)
  deliveries_only cs = (no_echoes (start P) cs, cells-heard (start P) cs)

  pub demand3_without-echoes : Laws P → 0 < P.n → (cs : List ℕ) → Demand3 P (hear_all P room (start P) (map cell cs)).network
  demand3_without-echoes laws n1 cs = subst (Demand3 P) (sym (deliveries_only cs).1) (demand3 P laws n1 room cs)
