-- What one step tells of a bound and its best, the pair: the unit's pair after the step is the one it had, the message's, or, at unit n alone, a new
-- one with a lower bound; all that it sends carries that pair or none. By the walk over assigning, then over each rule.
--
-- In order: the pair of a message and of a unit; `Told`, of assigning; `StepTold`, of a step.
-- Assumes nothing.
use Rattle.std.specs.Prelude.{ℕ, suc, ◌*◌, ◌-◌, ◌≤◌, ◌<◌, ◌≡◌, refl, ◌⊎◌, Bool, false, List, [], ◌∷◌}
use Rattle.std.proofs.Common.{inl, inr, arith}
use Rattle.base.specs.Members.{Every}
use Rattle.base.specs.Members.Laws.{every_nil, every_cons, every_append}
use Rattle.protocol.specs.Problem.{Problem, Laws, NONE, cost_below}
use Rattle.protocol.specs.Machine.{Msg, down, back, request, estimate, solution, stop, to, Agent, values, with_threshold, with_bound, Result, refused, done, take_bound, skip, write, counted, received, pad, store, halt, backtracked, announce, give_back, backtrack, try_from, assign, resume, step}
use Rattle.protocol.specs.Lists.{every_announced, every-given_back, every_sent_down}
use Rattle.protocol.specs.Walk.{take_bound_cases, try_walk, resume_cases, down_walk, back_walk, request_walk, estimate_walk}
use Rattle.protocol.specs.Best.Told.{Carries, Copies, Has, StepTold, Tells, Told}

pub tells_falls : (P : Problem) (k B : ℕ) (l : List ℕ) (w : Agent) (ms : List Msg) → Tells P k B l w ms → w.bound ≤ B
tells_falls P k B l w ms h = go h.pair
  where
    go : ((w.bound ≡ B) × (w.best ≡ l)) ⊎ ((suc k ≡ P.n) × (w.bound < B)) → w.bound ≤ B
    go (inl q) = omega (arith, q.0)
    go (inr q) = omega (arith, q.1)

module _ (P : Problem) (laws : Laws P) (k : ℕ) where
  -- after a new pair with a lower bound
  lowered : (B C : ℕ) (l c : List ℕ) → suc k ≡ P.n → C < B → (r : Result) → Told P k C c r → Told P k B l r
  lowered B C l c e lt refused h = tt
  lowered B C l c e lt (done w ms) h = record { pair = inr (e, omega (arith, tells_falls P k C c w ms h, lt)); copies = h.copies }

  backtrack-told : (better : Bool) (u : Agent) → Told P k u.bound u.best (backtrack P k better u)
  backtrack-told better u =
      record {
        pair = inl (refl, refl);
        copies = every_append (Copies (backtracked k u)) (give_back P k u) (announce P k better u)
            (every-given_back P (Copies (backtracked k u)) k u (λ e j lo hi C c h. h) (λ i e C c h. h)) (every_announced P (Copies (backtracked k u)) k u better (λ j lt ne C c h. h));
      }

  try_told : (m : ℕ) (better : Bool) (u : Agent) → u.bound ≤ NONE → Told P k u.bound u.best (try_from P k m better u)
  try_told =
      try_walk P k (λ m better u. u.bound ≤ NONE) (λ u r. Told P k u.bound u.best r)
      (record {
        stuck = λ better u le. backtrack-told better u;
        sends = λ m better u le low ne.
            record { pair = inl (refl, refl); copies = every_sent_down P (Copies (write u)) k (write u) (λ C c h. h) (λ j lo hi C c h. absurd h) };
        solves = λ m better u le low e.
            let less = cost_below P laws (values (skip u)) u.bound le low in
            (omega (arith, less, le), lowered u.bound (P.cost (values (skip u))) u.best (values (skip u)) e less);
        skips = λ m better u le low. (le, λ r h. h);
      })

  pub assign-told : (u : Agent) → u.bound ≤ NONE → Told P k u.bound u.best (assign P k u)
  assign-told u le = try_told (P.size k - u.own) false (counted u) le

  resume-told : (u : Agent) → u.bound ≤ NONE → Told P k u.bound u.best (resume P k u)
  resume-told u le = resume_cases P k (Told P k u.bound u.best) u (λ full. backtrack-told false u) (assign-told u le)

module _ (P : Problem) (laws : Laws P) (u : Agent) (le : u.bound ≤ NONE) where
  abbrev Either : Msg → ℕ → List ℕ → Type 0
  Either m C c = Has u C c ⊎ Carries m C c

  -- the unit goes on with its own pair or m's
  from_told : (m : Msg) (C : ℕ) (c : List ℕ) → C ≤ u.bound → Either m C c → (r : Result) → Told P (to m) C c r → StepTold P u m r
  from_told m C c lc ei refused h = tt
  from_told m C c lc ei (done w ms) h = record { source = go h.pair; falls = omega (arith, tells_falls P (to m) C c w ms h, lc); copies = h.copies }
    where
      go : ((w.bound ≡ C) × (w.best ≡ c)) ⊎ ((suc (to m) ≡ P.n) × (w.bound < C)) → Either m w.bound w.best ⊎ ((suc (to m) ≡ P.n) × (w.bound < u.bound))
      go (inl q) = inl (rw (q.0, q.1) ei)
      go (inr q) = inr (q.0, omega (arith, q.1, lc))

  -- the pair stays
  stays : (m : Msg) (w : Agent) (ms : List Msg) → Has u w.bound w.best → Every (Copies w) ms → StepTold P u m (done w ms)
  stays m w ms h cs = record { source = inl (inl h); falls = omega (arith, h.0); copies = cs }

  took_told : (m : Msg) (B : ℕ) (l : List ℕ) (x : Agent) → Has u x.bound x.best → Carries m B l → StepTold P u m (resume P (to m) (take_bound B l x))
  took_told m B l x has ca =
      take_bound_cases (Either m) (λ w. StepTold P u m (resume P (to m) w)) B l x (inl has) (inr ca)
      (λ C c le₁ le₂ ei.
      from_told m C c (omega (arith, has.0, le₁)) ei (resume P (to m) (with_bound C c x)) (resume-told P laws (to m) (with_bound C c x) (omega (arith, has.0, le₁, le))))

  pub step-told : (m : Msg) → StepTold P u m (step P u m)
  step-told (down k s b B l) =
      down_walk P u (StepTold P u (down k s b B l)) k s b B l (λ st. stays (down k s b B l) u [] (refl, refl) (every_nil _))
      (λ ge. took_told (down k s b B l) B l (received s b u) (refl, refl) (refl, refl))
  step-told (back k s b B l) =
      back_walk P u (StepTold P u (back k s b B l)) k s b B l (λ st. stays (back k s b B l) u [] (refl, refl) (every_nil _))
      (λ ge e. took_told (back k s b B l) B l u (refl, refl) (refl, refl)) (λ ge e. tt)
  step-told (request k j s b) =
      request_walk P u (StepTold P u (request k j s b)) k j s b (stays (request k j s b) u [] (refl, refl) (every_nil _)) (λ e. answered u (refl, refl))
      (λ lt. answered (with_threshold (pad (k - suc j) s * 32) u) (refl, refl))
    where
      reply : Msg
      reply = estimate j k s (P.estimate k b)

      answered : (w : Agent) → Has u w.bound w.best → StepTold P u (request k j s b) (done w (reply ∷ []))
      answered w h = stays (request k j s b) w (reply ∷ []) h (every_cons (Copies w) reply [] (λ C c z. absurd z) (every_nil _))
  step-told (estimate k j s e) =
      estimate_walk P u (StepTold P u (estimate k j s e)) k j s e (λ st. stays (estimate k j s e) u [] (refl, refl) (every_nil _))
      (λ ge f full. from_told (estimate k j s e) u.bound u.best (omega arith) (inl (refl, refl)) (assign P k (store j e u)) (assign-told P laws k (store j e u) le))
      (λ ge f. stays (estimate k j s e) (store j e u) [] (refl, refl) (every_nil _)) (λ ge f. tt)
  step-told (solution k B l) =
      take_bound_cases (Either (solution k B l)) (λ w. StepTold P u (solution k B l) (done w [])) B l u (inl (refl, refl)) (inr (refl, refl))
      (λ C c le₁ le₂ ei. record { source = inl ei; falls = le₁; copies = every_nil _ })
  step-told (stop k B l) =
      take_bound_cases (Either (stop k B l)) (λ w. StepTold P u (stop k B l) (done (halt w) [])) B l u (inl (refl, refl)) (inr (refl, refl))
      (λ C c le₁ le₂ ei. record { source = inl ei; falls = le₁; copies = every_nil _ })
