-- No stop is sent, and no unit stops, before unit 1 does, which sends one to each other unit: so no delivery is refused by 12, and none is of weight 0.
-- By the walk over assigning, then over each rule.
-- Assumes nothing.
use Rattle.std.specs.Prelude.{ℕ, zero, suc, ◌-◌, refl, Bool, false, List, [], ◌∷◌}
use Rattle.std.proofs.Common.{inl, inr, arith}
use Rattle.base.specs.Members.Laws.{every_nil, every_cons, every_append}
use Rattle.protocol.specs.Problem.{Problem}
use Rattle.protocol.specs.Machine.{Msg, down, back, request, estimate, solution, stop, to, Agent, with_bound, done, take_bound, write, counted, received, store, announce, give_back, backtrack, try_from, assign, resume, step}
use Rattle.protocol.specs.Lists.{every_announced, every-given_back, every_sent_down}
use Rattle.protocol.specs.Walk.{take_bound_cases, try_walk, resume_cases, down_walk, back_walk, request_walk, estimate_walk}
use Rattle.protocol.specs.Count.Stops.{Ending, NotStop}

module _ (P : Problem) where
  backtrack_ends : (k : ℕ) (better : Bool) (u : Agent) → Ending P k u.stopped (backtrack P k better u)
  backtrack_ends zero better u = inl (refl, refl, (announce P 0 better u, refl, every_announced P NotStop 0 u better (λ j lt ne. tt)))
  backtrack_ends (suc k) better u =
      inr (
        every_append NotStop (give_back P (suc k) u) (announce P (suc k) better u) (every-given_back P NotStop (suc k) u (λ e. absurd (omega (arith, e))) (λ i e. tt))
            (every_announced P NotStop (suc k) u better (λ j lt ne. tt)),
        refl,
      )

  pub try_ends : (k m : ℕ) (better : Bool) (u : Agent) → Ending P k u.stopped (try_from P k m better u)
  try_ends k m better u =
      try_walk P k (λ m better u. Unit {0}) (λ u r. Ending P k u.stopped r)
      (record {
        stuck = λ better u q. backtrack_ends k better u;
        sends = λ m better u q lt ne. inr (every_sent_down P NotStop k (write u) tt (λ j lo hi. tt), refl);
        solves = λ m better u q lt e. (tt, λ r h. h);
        skips = λ m better u q le. (tt, λ r h. h);
      })
      m better u tt

  assign_ends : (k : ℕ) (u : Agent) → Ending P k u.stopped (assign P k u)
  assign_ends k u = try_ends k (P.size k - u.own) false (counted u)

  took_ends : (k B : ℕ) (l : List ℕ) (u : Agent) → Ending P k u.stopped (resume P k (take_bound B l u))
  took_ends k B l u =
      take_bound_cases (λ C m. Unit {0}) (λ w. Ending P k u.stopped (resume P k w)) B l u tt tt
      (λ C m a b ok. resume_cases P k (Ending P k u.stopped) (with_bound C m u) (λ full. backtrack_ends k false (with_bound C m u)) (assign_ends k (with_bound C m u)))

  none_ends : (k : ℕ) (w : Agent) → Ending P k w.stopped (done w [])
  none_ends k w = inr (every_nil _, refl)

  pub step_ends : (u : Agent) (m : Msg) → NotStop m → Ending P (to m) u.stopped (step P u m)
  step_ends u (down k s b B l) ns = down_walk P u (Ending P k u.stopped) k s b B l (λ st. none_ends k u) (λ le. took_ends k B l (received s b u))
  step_ends u (back k s b B l) ns = back_walk P u (Ending P k u.stopped) k s b B l (λ st. none_ends k u) (λ le e. took_ends k B l u) (λ le e. tt)
  step_ends u (request k j s b) ns = request_walk P u (Ending P k u.stopped) k j s b (none_ends k u) (λ e. answered) (λ lt. answered)
    where
      answered : Ending P k u.stopped (done u (estimate j k s (P.estimate k b) ∷ []))
      answered = inr (every_cons NotStop (estimate j k s (P.estimate k b)) [] tt (every_nil _), refl)
  step_ends u (estimate k j s e) ns =
      estimate_walk P u (Ending P k u.stopped) k j s e (λ st. none_ends k u) (λ le f full. assign_ends k (store j e u)) (λ le f. none_ends k (store j e u)) (λ le f. tt)
  step_ends u (solution k B l) ns = take_bound_cases (λ C m. Unit {0}) (λ w. Ending P k u.stopped (done w [])) B l u tt tt (λ C m a b ok. none_ends k (with_bound C m u))
  step_ends u (stop k B l) ns = absurd ns
