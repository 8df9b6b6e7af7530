-- A unit that assigns moves its CPA: down, with a higher stamp, or back. Nothing else that it sends is a CPA.
-- By the walk over assigning: the counter never passes 30, so a stamp's place never runs into the next.
--
-- In order: CPAs among messages; `Moved`; assigning, a CPA in hand, a bound taken.
-- Assumes nothing.
use Rattle.std.specs.Prelude.{ℕ, zero, suc, ◌+◌, ◌*◌, ◌-◌, ◌≤◌, ◌≡◌, refl, Bool, false, List, ◌++◌}
use Rattle.std.proofs.Common.{inl, inr, arith}
use Rattle.base.specs.Members.{here}
use Rattle.base.specs.Members.Laws.{every_append}
use Rattle.protocol.specs.Problem.{Problem}
use Rattle.protocol.specs.Machine.{Msg, down, back, Agent, stamp, values, with_bound, Result, refused, done, take_bound, write, recount, counted, backtracked, announce, give_back, backtrack, try_from, resume}
use Rattle.protocol.specs.Lists.{every_announced, every-given_back, every_sent_down}
use Rattle.protocol.specs.Walk.{take_bound_cases, try_walk, resume_cases}
use Rattle.protocol.specs.Liveness.Moves.{Gave, IsCpa, Moved}

module _ (P : Problem) (k : ℕ) where
  moved_less : (s : ℕ) (b : List ℕ) (c : ℕ) (r : Result) → Moved k s b (suc c) r → Moved k s b c r
  moved_less s b c refused h = h
  moved_less s b c (done u ms) (inl w) =
      inl (record { prefix_stamp = w.prefix_stamp; prefix = w.prefix; own = w.own; threshold = w.threshold; counter = omega (arith, w.counter); sent = w.sent; lone = w.lone })
  moved_less s b c (done u ms) (inr w) = inr w

  -- ---- backtracking

  backtrack-moved : (better : Bool) (u : Agent) → u.prefix_stamp * 32 ≤ u.threshold → u.threshold ≤ u.prefix_stamp * 32 + 30 → (c : ℕ)
      → Moved k u.prefix_stamp u.prefix c (backtrack P k better u)
  backtrack-moved better u g h c =
      inr (record {
        own = refl;
        low = omega arith;
        threshold = omega arith;
        gave = gave k;
        lone = every_append (λ x. IsCpa x → GivenBack x) (give_back P k u) (announce P k better u)
            (every-given_back P (λ x. IsCpa x → GivenBack x) k u (λ e j lo hi p. absurd p) (λ i e p. (i, e, refl)))
            (every_announced P (λ x. IsCpa x → GivenBack x) k u better (λ j lt ne p. absurd p));
      })
    where
      GivenBack : Msg → Type 0
      GivenBack x = (i : ℕ) × (suc i ≡ k) × (x ≡ back i u.prefix_stamp u.prefix u.bound u.best)

      gave : (i : ℕ) → Gave i u.prefix_stamp u.prefix (backtracked i u) (give_back P i u ++ announce P k better u)
      gave zero = refl
      gave (suc i) = here refl

  -- ---- assigning

  -- the CPA in hand, with m values left: its threshold is its stamp, and there is room for the counter
  abbrev pub InHand : ℕ → Agent → Type 0
  InHand m u = (u.threshold ≡ stamp u) × (u.counter + m ≤ 30)

  pub try_moved : (m : ℕ) (better : Bool) (u : Agent) → InHand m u → Moved k u.prefix_stamp u.prefix u.counter (try_from P k m better u)
  try_moved =
      try_walk P k (λ m better u. InHand m u) (λ u r. Moved k u.prefix_stamp u.prefix u.counter r)
      (record {
        stuck = λ better u h. backtrack-moved better u (omega (arith, h.0)) (omega (arith, h.0, h.1)) u.counter;
        sends = λ m better u h lt ne. inl (record {
          prefix_stamp = refl;
          prefix = refl;
          own = omega arith;
          threshold = refl;
          counter = omega arith;
          sent = here refl;
          lone = every_sent_down P (λ x. IsCpa x → x ≡ down (suc k) (stamp (write u)) (values (write u)) u.bound u.best) k (write u) (λ p. refl) (λ j lo hi p. absurd p);
        });
        solves = λ m better u h lt e. ((refl, omega (arith, h.1)), moved_less u.prefix_stamp u.prefix u.counter);
        skips = λ m better u h le. ((h.0, omega (arith, h.1)), λ r p. p);
      })

  -- a CPA taken up, with or without an own value
  resume-moved : (u : Agent) → InHand (P.size k - u.own) (counted u) → Moved k u.prefix_stamp u.prefix (recount u.own u.counter) (resume P k u)
  resume-moved u h =
      resume_cases P k (Moved k u.prefix_stamp u.prefix (recount u.own u.counter)) u
      (λ full. backtrack-moved false u (omega (arith, h.0)) (omega (arith, h.0, h.1)) _)
      (try_moved (P.size k - u.own) false (counted u) h)

  pub took_moved : (B : ℕ) (l : List ℕ) (u : Agent) → InHand (P.size k - u.own) (counted u)
      → Moved k u.prefix_stamp u.prefix (recount u.own u.counter) (resume P k (take_bound B l u))
  took_moved B l u h =
      take_bound_cases (λ C m. Unit {0}) (λ w. Moved k u.prefix_stamp u.prefix (recount u.own u.counter) (resume P k w)) B l u tt tt
      (λ C m a b ok. resume-moved (with_bound C m u) h)
