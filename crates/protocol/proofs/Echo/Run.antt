-- What an event keeps: over all that was ever sent, what a delivery keeps over what waits; and the live chain's CPA was never handed over. A step is safe on
-- any valid message and the chain lives over any pool, so an echo is one more way for a message to come: what it must not do is hand over the chain's CPA
-- unnoticed, and a CPA that is sent must not be one that was handed over before (Behind.antt).
--
-- In order: what waits beside the message handed over (`Beside`); `Kept`; one message handed over; an event, a list of events, the start.
-- Assumes nothing.
use Rattle.std.specs.Prelude.{ℕ, ◌-◌, ◌<◌, ◌≡◌, refl, ◌≢◌, ◌⊎◌, Bool, true, false, cond, List, [], ◌∷◌, ◌++◌, leb, length, take, drop}
use Rattle.std.proofs.Common.{sym, subst, inl, inr, arith, take-append-drop, length-append}
use Rattle.base.specs.Members.{In, Every}
use Rattle.base.specs.Members.Laws.{not-in-nil, in_left, in_right, every_nil, every_cons, every_append}
use Rattle.protocol.specs.Problem.{Problem, Laws}
use Rattle.protocol.specs.Machine.{Msg, to, Agent, fresh, Result, refused, done, counted, assign, step, put, made, make}
use Rattle.protocol.specs.Tests.{true_not_false}
use Rattle.protocol.specs.Safety.Facts.{ValidMsg}
use Rattle.protocol.specs.Safety.Logs.{logs, Recorded}
use Rattle.protocol.proofs.Safety.Network.{make_safe}
use Rattle.protocol.specs.Safety.Run.{Among}
use Rattle.protocol.proofs.Safety.Run.{taken, heard, accept_safe}
use Rattle.protocol.specs.Liveness.Moves.{Moved}
use Rattle.protocol.proofs.Liveness.Moves.{try_moved}
use Rattle.protocol.specs.Liveness.Chain.{Live}
use Rattle.protocol.proofs.Liveness.Chain.{live_mono}
use Rattle.protocol.proofs.Liveness.ChainStep.{chain_step}
use Rattle.protocol.specs.Liveness.Run.{Chain}
use Rattle.protocol.proofs.Liveness.Run.{taken_waits, make_chain}
use Rattle.protocol.proofs.Count.Tally.{accept_stops, make_tally}
use Rattle.protocol.proofs.Best.Pairs.{accept_pairs, make-pairs}
use Rattle.protocol.proofs.Best.First.{accept_first, make-first}
use Rattle.protocol.specs.Echo.Events.{Event, cell, echo, Trace, handed_over, answered, start, from_cell, unless_stopped, hear, hear_all, SentBefore, Echoes, Unheard}
use Rattle.protocol.specs.Echo.Behind.{GivenBack}
use Rattle.protocol.proofs.Echo.Behind.{moved-given_back, given_back_stays, given_back_now, new_unsent}
use Rattle.protocol.specs.Echo.Run.{Beside, Kept, all_sent}

-- a message taken out of its cell; one heard again
pub beside_taken : (T : Trace) → Every (λ x. In x T.sent) T.network.pool → (b a : List Msg) (m : Msg) → T.network.pool ≡ b ++ (m ∷ a) → Beside T m (b ++ a)
beside_taken T ws b a m e = record { sent = λ x i. ws x ((taken b a m e).still x i); others = taken_waits b a m T.network.pool e }

pub beside_heard : (T : Trace) → Every (λ x. In x T.sent) T.network.pool → (m : Msg) → Beside T m T.network.pool
beside_heard T ws m = record { sent = ws; others = λ x ne i. i }

module _ (P : Problem) (laws : Laws P) (n1 : 0 < P.n) where
  -- ---- one message handed over, from a cell or as an echo

  module _ (T : Trace) (kept : Kept P T) (running : (T.network.units 0).stopped ≡ false) (m : Msg) (was-sent : In m T.sent) (rest : List Msg) (beside : Beside T m rest)
      (u : Agent) (ms : List Msg) (d : step P (T.network.units (to m)) m ≡ done u ms) where
    abbrev us : ℕ → Agent
    us = T.network.units

    abbrev us' : ℕ → Agent
    us' = put T.network.units (to m) u

    abbrev T' : Trace
    T' = handed_over T m rest u ms

    -- of what was sent nothing leaves
    among : Among T.sent m T.sent
    among = heard m was-sent

    ok : ValidMsg P (Recorded (logs us)) m
    ok = kept.network.msgs m was-sent

    -- what holds of all that was handed over, m included
    every_handed : (Q : Msg → Type 0) → Every Q T.handed → Q m → Every Q (T.handed ++ (m ∷ []))
    every_handed Q h q = every_append Q T.handed (m ∷ []) h (every_cons Q m [] q (every_nil Q))

    -- it was sent before this step
    handed_before : Every (λ x. In x T.sent) (T.handed ++ (m ∷ []))
    handed_before = every_handed (λ x. In x T.sent) kept.handed_sent was-sent

    -- a message other than m that was never handed over still wasn't
    stays_unheard : (x : Msg) → x ≢ m → Unheard T x → Unheard T' x
    stays_unheard x ne w = (
      in_left ms (beside.others x ne w.0),
      λ i. every_handed (λ y. x ≢ y) (λ y j e. w.1 (subst (λ z. In z T.handed) (sym e) j)) ne x i refl,
    )

    chain_kept : ((us 0).stopped ≡ true) ⊎ Live P.n us (Unheard T) 0 → ((us' 0).stopped ≡ true) ⊎ Live P.n us' (Unheard T') 0
    chain_kept (inl e) = absurd (true_not_false e running)
    chain_kept (inr c) =
        chain_step P laws us kept.network.safe (Unheard T) (Unheard T') (λ x w. kept.network.msgs x (kept.waiting_sent x w.0)) m ok u ms d
        (record {
          stay = λ x p ne se w. stays_unheard x ne w;
          calm = λ np x p ne w. stays_unheard x ne w;
          sent = λ x p i new. (in_right rest i, λ j. new_unsent P us x p new (kept.network.msgs x (handed_before x j)) (kept.given_back x (handed_before x j)));
        })
        n1 c

    pub handed_over_kept : Kept P (handed_over T m rest u ms)
    handed_over_kept =
        record {
          network = accept_safe P laws (all_sent T) kept.network m T.sent among u ms d;
          pairs = accept_pairs P laws (all_sent T) kept.network kept.pairs m T.sent among u ms d;
          first = accept_first P laws (all_sent T) kept.network kept.pairs kept.first m T.sent among u ms d;
          stops = accept_stops P (all_sent T) m T.sent among u ms d running kept.stops;
          given_back = every_append _ T.sent ms (λ x i. given_back_stays P laws us kept.network.safe m ok u ms d x (kept.given_back x i)) (given_back_now P laws us kept.network.safe m ok u ms d);
          chain = chain_kept kept.chain;
          waiting_sent = every_append _ rest ms (λ x i. in_left ms (beside.sent x i)) (λ x i. in_right T.sent i);
          handed_sent = λ x i. in_left ms (handed_before x i);
          counted = omega (arith, kept.counted, length-append T.handed (m ∷ []));
        }

  -- ---- an event, and a list of them

  pub hear-kept : (room : ℕ) (T : Trace) (e : Event) → SentBefore T e → Kept P T → Kept P (hear P room T e)
  hear-kept room T e sb kept = over (T.network.units 0).stopped refl e sb
    where
      Running : Type 0
      Running = (T.network.units 0).stopped ≡ false

      fits : (t : Bool) (new : Trace) → Kept P new → Kept P (cond t new T)
      fits true new k = k
      fits false new k = kept

      result : Running → (m : Msg) → In m T.sent → (rest : List Msg) → Beside T m rest → (r : Result) → step P (T.network.units (to m)) m ≡ r → Kept P (answered room T m rest r)
      result st m i rest b refused d = kept
      result st m i rest b (done u ms) d = fits (leb (length (rest ++ ms)) room) (handed_over T m rest u ms) (handed_over_kept T kept st m i rest b u ms d)

      at_cell_lem : Running → (b a : List Msg) → T.network.pool ≡ b ++ a → Kept P (from_cell P room T b a)
      at_cell_lem st b [] q = kept
      at_cell_lem st b (m ∷ a) q =
          result st m (kept.waiting_sent m (taken b a m q).waits) (b ++ a) (beside_taken T kept.waiting_sent b a m q) (step P (T.network.units (to m)) m) refl

      over : (t : Bool) → (T.network.units 0).stopped ≡ t → (e : Event) → SentBefore T e → Kept P (unless_stopped P t room T e)
      over true st e sb = kept
      over false st (cell c) sb = at_cell_lem st (take c T.network.pool) (drop c T.network.pool) (sym (take-append-drop c T.network.pool))
      over false st (echo m) sb = result st m sb T.network.pool (beside_heard T kept.waiting_sent m) (step P (T.network.units (to m)) m) refl

  pub hear_all_kept : (room : ℕ) (T : Trace) (es : List Event) → Echoes P room T es → Kept P T → Kept P (hear_all P room T es)
  hear_all_kept room T [] h kept = kept
  hear_all_kept room T (e ∷ es) h kept = hear_all_kept room (hear P room T e) es h.1 (hear-kept room T e h.0 kept)

  -- ---- the start: all that was sent waits, and nothing is given back

  pub start-kept : Kept P (start P)
  start-kept =
      record {
        network = make_safe P laws n1;
        pairs = make-pairs P laws n1;
        first = make-first P laws n1;
        stops = (make_tally P laws n1).stops;
        given_back = given_back (assign P 0 fresh) (try_moved P 0 (P.size 0 - 0) false (counted fresh) (omega arith, omega (arith, laws.size_le_16 0)));
        chain = chain (make_chain P laws n1);
        waiting_sent = λ x i. i;
        handed_sent = every_nil _;
        counted = counted_none (assign P 0 fresh);
      }
    where
      given_back : (r : Result) → Moved 0 0 [] 0 r → Every (GivenBack (made r).units) (made r).pool
      given_back refused w = absurd w
      given_back (done u ms) w = moved-given_back (put (λ k. fresh) 0 u) 0 0 [] 0 u ms refl w

      chain : Chain P (make P) → (((make P).units 0).stopped ≡ true) ⊎ Live P.n (make P).units (Unheard (start P)) 0
      chain (inl e) = inl e
      chain (inr l) = inr (live_mono (λ x i. (i, not-in-nil)) l)

      counted_none : (r : Result) → (made r).accepted ≡ 0
      counted_none refused = refl
      counted_none (done u ms) = refl
