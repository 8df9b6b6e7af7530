-- Assigning keeps a unit good: a unit that is ready to try its values writes the next one, or has none left and backtracks, and what it sends is valid.
-- By the walk over assigning: what is left to show is that a value written or passed over leaves the unit ready for the rest.
--
-- In order: `closed_one_more`; `backtrack_post`; the values in turn (`spent`, `skip_ready`, `written_good`, `solved_ready`); `try_post`; `resume_post`, a CPA in hand.
-- Assumes nothing.
use Rattle.std.specs.Prelude.{ℕ, suc, ◌+◌, ◌*◌, ◌-◌, ◌≤◌, ◌<◌, ◌≡◌, refl, ◌⊎◌, Bool, false, [], ◌∷◌, length}
use Rattle.std.proofs.Common.{sym, subst, inl, inr, arith}
use Rattle.base.specs.Members.{here, Every}
use Rattle.base.specs.Members.Laws.{every_cons, every_append}
use Rattle.protocol.specs.Problem.{Problem, Closed, Laws, closed_mono, closed_by_values, closed_full, valid_le_none, cost_below}
use Rattle.protocol.specs.Machine.{stamp_of, Agent, stamp, values, skip, write, counted, announce, give_back, backtrack, solved, send_down, try_from, resume}
use Rattle.protocol.specs.Lists.{every_announced, every-given_back, every_sent_down}
use Rattle.protocol.specs.Tests.{le_split}
use Rattle.protocol.specs.Walk.{try_walk, resume_cases}
use Rattle.protocol.specs.Safety.Facts.{History, OnLog, Extended, ValidMsg, Before, Sorted, Good, Ready, Spent, Post}

-- the values up to one more are closed, at a bound that is no higher
pub closed_one_more : (P : Problem) (u : Agent) (C : ℕ) → C ≤ u.bound → ((v : ℕ) → 1 ≤ v → v ≤ u.own → Closed P (v ∷ u.prefix) u.bound) → Closed P (values (skip u)) C
    → (v : ℕ) → 1 ≤ v → v ≤ suc u.own → Closed P (v ∷ u.prefix) C
closed_one_more P u C le closed c v lo hi = go (le_split v u.own hi)
  where
    go : (v ≤ u.own) ⊎ (v ≡ suc u.own) → Closed P (v ∷ u.prefix) C
    go (inl a) = closed_mono P (v ∷ u.prefix) u.bound C le (closed v lo a)
    go (inr e) = rw e c

module _ (P : Problem) (laws : Laws P) (k : ℕ) (k<n : k < P.n) (Past : History) (X : ℕ) (bf : Before P k Past X) where
  -- ---- backtrack

  pub backtrack_post : (better : Bool) (u : Agent) → Spent P k Past u → Post P k Past X (backtrack P k better u)
  backtrack_post better u h = (
    record {
      valid = h.valid;
      sorted = h.sorted;
      threshold = λ r i. let z = h.top r i in omega arith;
      threshold_peak = let z = bf.top _ _ h.past in omega (arith, h.threshold);
      none = λ e r i. let z = h.top r i in omega arith;
      cpa = λ z. absurd (omega arith);
      stop = λ e t. subst (λ x. Closed P x u.bound) (bf.start u.prefix_stamp u.prefix h.past e) h.closed;
    },
    every_append _ (give_back P k u) (announce P k better u)
        (every-given_back P _ k u (λ e j lo hi. (hi, lo, h.valid)) (λ i e. (omega arith, inl (subst (λ x. Past x u.prefix_stamp u.prefix) (sym e) h.past), h.closed, h.valid)))
        (every_announced P _ k u better (λ j lt ne. (omega arith, h.valid))),
  )

  -- ---- the values in turn

  prefix_length : {m : ℕ} (u : Agent) → Ready P k Past m u → length u.prefix ≡ k
  prefix_length u h = bf.len _ _ h.past

  -- no value left: each is closed, so the prefix is (L5)
  spent : (u : Agent) → Ready P k Past 0 u → Spent P k Past u
  spent u h =
      record {
        valid = h.valid;
        sorted = h.sorted;
        past = h.past;
        threshold = omega (arith, h.threshold, h.counter, h.left, laws.size_le_16 k);
        top = λ r i. omega (arith, h.threshold, (h.top r i).0);
        closed = closed_by_values P u.prefix u.bound (omega (arith, prefix_length u h))
            (λ v lo hi. h.closed v lo (let z = subst (λ x. v ≤ P.size x) (prefix_length u h) hi in omega (arith, h.left)));
      }

  -- a value passed over is closed by its lookahead (L1)
  skip_ready : (m : ℕ) (u : Agent) → Ready P k Past (suc m) u → u.bound ≤ P.lookahead (values (skip u)) → Ready P k Past m (skip u)
  skip_ready m u h low =
      record {
        valid = h.valid;
        sorted = h.sorted;
        past = h.past;
        threshold = h.threshold;
        counter = omega (arith, h.counter);
        left = omega (arith, h.left);
        top = λ r i. ((h.top r i).0, omega (arith, (h.top r i).1));
        closed = closed_one_more P u u.bound (omega arith) h.closed (laws.closed_by_lookahead (values (skip u)) u.bound (omega (arith, prefix_length u h)) low);
        stop = h.stop;
      }

  -- a value written is the last of the log
  written_sorted : (m : ℕ) (u : Agent) → Ready P k Past (suc m) u → Sorted P k Past (write u).log
  written_sorted m u h = (
    (h.past, omega arith, omega (arith, h.counter), omega (arith, h.left)),
    (λ r i. (omega (arith, (h.top r i).0), (h.top r i).1)),
    h.sorted,
  )

  written_good : (m : ℕ) (u : Agent) → Ready P k Past (suc m) u → Good P k Past X (write u)
  written_good m u h =
      record {
        valid = h.valid;
        sorted = written_sorted m u h;
        threshold = every_cons _ _ u.log (omega arith) (λ r i. omega (arith, (h.top r i).0));
        threshold_peak = let z = bf.top _ _ h.past in omega (arith, h.counter, h.left, laws.size_le_16 k);
        none = λ e. absurd (omega arith);
        cpa = λ z. record {
          past = h.past;
          counter_pos = omega arith;
          counter = omega (arith, h.counter);
          own = omega (arith, h.left);
          last = (u.log, refl);
          closed = λ v lo hi. h.closed v lo (omega arith);
          estimates = λ j. omega arith;
        };
        stop = h.stop;
      }

  send_down_valid : (m : ℕ) (u : Agent) → suc k < P.n → Ready P k Past (suc m) u → Every (ValidMsg P (Extended k Past (write u).log)) (send_down P k (write u))
  send_down_valid m u h r = every_sent_down P _ k (write u) (h, omega arith, inr (refl, on), r.valid) (λ j lo hi. (hi, lo, inr (refl, on)))
    where
      on : OnLog (write u).log (stamp (write u)) (values (write u))
      on = (_, here refl, refl, refl)

  -- unit n's value is a full assignment: its cost is its total (L4), the new bound, and closes it
  solved_ready : (m : ℕ) (u : Agent) → suc k ≡ P.n → P.lookahead (values (skip u)) < u.bound → Ready P k Past (suc m) u → Ready P k Past m (solved P (write u))
  solved_ready m u last low h =
      record {
        valid = inr (
          refl,
          (omega (arith, prefix_length u h), (omega arith, subst (λ x. suc u.own ≤ P.size x) (sym (prefix_length u h)) (omega (arith, h.left)), bf.domains _ _ h.past), omega (arith, less, valid_le_none P u.best h.valid)),
        );
        sorted = written_sorted m u h;
        past = h.past;
        threshold = refl;
        counter = omega (arith, h.counter);
        left = omega (arith, h.left);
        top = every_cons _ _ u.log (omega arith, omega arith) (λ r i. (omega (arith, (h.top r i).0), omega (arith, (h.top r i).1)));
        closed = closed_one_more P u (P.cost (values (skip u))) (omega (arith, less)) h.closed (closed_full P (values (skip u)) (omega (arith, prefix_length u h)));
        stop = λ e t. closed_mono P [] u.bound (P.cost (values (skip u))) (omega (arith, less)) (h.stop e t);
      }
    where
      less : P.cost (values (skip u)) < u.bound
      less = cost_below P laws (values (skip u)) u.bound (valid_le_none P u.best h.valid) low

  pub try_post : (m : ℕ) (better : Bool) (u : Agent) → Ready P k Past m u → Post P k Past X (try_from P k m better u)
  try_post =
      try_walk P k (λ m better u. Ready P k Past m u) (λ u r. Post P k Past X r)
      (record {
        stuck = λ better u h. backtrack_post better u (spent u h);
        sends = λ m better u h low ne. (written_good m u h, send_down_valid m u (omega (arith, ne)) h);
        solves = λ m better u h low e. (solved_ready m u e low h, λ r p. p);
        skips = λ m better u h low. (skip_ready m u h low, λ r p. p);
      })

  -- a CPA in hand, its own value taken off or to be gone past: backtracking at once is by its cost (L3)
  pub resume_post : (u : Agent) → Ready P k Past (P.size k - u.own) (counted u) → u.threshold ≤ u.prefix_stamp * 32 + 16 → Every (λ r. stamp_of r ≤ u.threshold) u.log
      → Post P k Past X (resume P k u)
  resume_post u h t top =
      resume_cases P k (Post P k Past X) u
      (λ full.
      backtrack_post false u
      (record {
        valid = h.valid;
        sorted = h.sorted;
        past = h.past;
        threshold = t;
        top = top;
        closed = laws.closed_by_cost u.prefix u.bound (let z = bf.len _ _ h.past in omega arith) full;
      }))
      (try_post (P.size k - u.own) false (counted u) h)
