-- What a step sends: every message has the unit that steps as its sender and goes to another unit, and no two share a slot. So what is sent waits, all of it.
-- By the walk over assigning, then over each rule.
--
-- In order: lists whose messages are apart; backtracking and assigning; a step; the slot of a valid message is one that the rules allow.
-- Assumes nothing.
use Rattle.std.specs.Prelude.{ℕ, zero, suc, ◌-◌, ◌<◌, pred, ◌≡◌, refl, ◌≢◌, Bool, true, false, List, [], ◌∷◌, ◌++◌}
use Rattle.std.proofs.Common.{sym, ap, ◌∙◌, inl, inr, arith}
use Rattle.base.specs.Members.{here, there, Every}
use Rattle.base.specs.Members.Laws.{every_nil, every_cons, every_append}
use Rattle.protocol.specs.Problem.{Problem}
use Rattle.protocol.specs.Machine.{Msg, down, back, request, estimate, solution, stop, to, to_each, Agent, stamp, values, with_bound, done, take_bound, write, counted, received, store, halt, announce, give_back, backtrack, send_down, try_from, assign, resume, step}
use Rattle.protocol.specs.Lists.{every_to_each, every_announced, every-given_back, every_sent_down}
use Rattle.protocol.specs.Tests.{true_not_false}
use Rattle.protocol.specs.Walk.{take_bound_cases, try_walk, resume_cases, down_walk, back_walk, request_walk, estimate_walk}
use Rattle.protocol.specs.Safety.Facts.{History, ValidMsg}
use Rattle.protocol.specs.Slots.Slot.{kind_of, from, slot_of, Apart, Allowed}
use Rattle.protocol.specs.Slots.Sends.{Leaves, Sends}

-- ---- lists whose messages are apart

module _ (n : ℕ) where
  apart_append : (a b : List Msg) → Apart n a → Apart n b → Every (λ x. Every (λ y. slot_of n y ≢ slot_of n x) b) a → Apart n (a ++ b)
  apart_append [] b h g f = g
  apart_append (x ∷ a) b h g f = (every_append _ a b h.0 (f x (here refl)), apart_append a b h.1 g (λ y i. f y (there i)))

  apart_each : (g : ℕ → Msg) → ((j : ℕ) → to (g j) ≡ j) → (lo m : ℕ) → Apart n (to_each g lo m)
  apart_each g h lo zero = tt
  apart_each g h lo (suc m) =
      (every_to_each _ g (suc lo) m (λ j a b e. absurd (omega (arith, a, ap (λ s. s.receiver) e, h j, h lo))), apart_each g h (suc lo) m)

module _ (P : Problem) (k : ℕ) where
  -- only unit n has solutions of its own to announce
  backtrack_sends : (better : Bool) → (better ≡ true → suc k ≡ P.n) → (u : Agent) → Sends P.n k (backtrack P k better u)
  backtrack_sends better hb u = (
    every_append _ (give_back P k u) (announce P k better u)
        (every-given_back P _ k u (λ e j lo hi. (sym e, λ q. absurd (omega (arith, q, e, lo)))) (λ i e. (e, λ q. absurd (omega (arith, q, e)))))
        (others better hb),
    apart_append P.n (give_back P k u) (announce P k better u) (apart-given k) (apart-others better)
        (λ x i y j e. given_kind x i (sym (ap (λ s. s.kind) e) ∙ announced_kind y j)),
  )
    where
      g : ℕ → Msg
      g j = solution j u.bound u.best

      others : (t : Bool) → (t ≡ true → suc k ≡ P.n) → Every (Leaves P.n k) (announce P k t u)
      others true h = every_announced P _ k u true (λ j lt ne. (sym (ap pred (h refl)), ne))
      others false h = every_nil _

      apart-given : (i : ℕ) → Apart P.n (give_back P i u)
      apart-given zero = apart_each P.n (λ j. stop j u.bound u.best) (λ j. refl) 1 (pred P.n)
      apart-given (suc i) = (every_nil _, tt)

      apart-others : (t : Bool) → Apart P.n (announce P k t u)
      apart-others true =
          apart_append P.n (to_each g 0 k) (to_each g (suc k) (P.n - suc k)) (apart_each P.n g (λ j. refl) 0 k) (apart_each P.n g (λ j. refl) (suc k) (P.n - suc k))
          (every_to_each _ g 0 k (λ i a b. every_to_each _ g (suc k) (P.n - suc k) (λ j c d e. absurd (omega (arith, ap (λ s. s.receiver) e, b, c)))))
      apart-others false = tt

      given_kind : Every (λ x. kind_of x ≢ 4) (give_back P k u)
      given_kind = every-given_back P _ k u (λ e j lo hi q. absurd (omega (arith, q))) (λ i e q. absurd (omega (arith, q)))

      announced_kind : Every (λ x. kind_of x ≡ 4) (announce P k better u)
      announced_kind = every_announced P _ k u better (λ j lt ne. refl)

  down_sends : (u : Agent) → Sends P.n k (done u (send_down P k u))
  down_sends u = (
    every_sent_down P (Leaves P.n k) k u (refl, λ q. absurd (omega (arith, q))) (λ j lo hi. (refl, λ q. absurd (omega (arith, q, lo)))),
    (every_to_each _ g (suc k) (P.n - suc k) (λ j a b e. absurd (omega (arith, ap (λ s. s.kind) e))), apart_each P.n g (λ j. refl) (suc k) (P.n - suc k)),
  )
    where
      g : ℕ → Msg
      g j = request j k (stamp u) (values u)

  pub try_leaves : (m : ℕ) (better : Bool) (u : Agent) → (better ≡ true → suc k ≡ P.n) → Sends P.n k (try_from P k m better u)
  try_leaves =
      try_walk P k (λ m better u. better ≡ true → suc k ≡ P.n) (λ u r. Sends P.n k r)
      (record {
        stuck = λ better u hb. backtrack_sends better hb u;
        sends = λ m better u hb lt ne. down_sends (write u);
        solves = λ m better u hb lt e. ((λ z. e), λ r p. p);
        skips = λ m better u hb le. (hb, λ r p. p);
      })

  assign-leaves : (u : Agent) → Sends P.n k (assign P k u)
  assign-leaves u = try_leaves (P.size k - u.own) false (counted u) (λ z. absurd (true_not_false z refl))

  took_leaves : (B : ℕ) (l : List ℕ) (u : Agent) → Sends P.n k (resume P k (take_bound B l u))
  took_leaves B l u =
      take_bound_cases (λ C m. Unit {0}) (λ w. Sends P.n k (resume P k w)) B l u tt tt
      (λ C m a b ok.
      resume_cases P k (Sends P.n k) (with_bound C m u) (λ full. backtrack_sends false (λ z. absurd (true_not_false z refl)) (with_bound C m u)) (assign-leaves (with_bound C m u)))

-- ---- a step

module _ (P : Problem) (u : Agent) (Past : History) where
  nothing : (k : ℕ) (w : Agent) → Sends P.n k (done w [])
  nothing k w = (every_nil _, tt)

  pub step-leaves : (m : Msg) → ValidMsg P Past m → Sends P.n (to m) (step P u m)
  step-leaves (down k s b B l) ok = down_walk P u (Sends P.n k) k s b B l (λ st. nothing k u) (λ le. took_leaves P k B l (received s b u))
  step-leaves (back k s b B l) ok = back_walk P u (Sends P.n k) k s b B l (λ st. nothing k u) (λ le e. took_leaves P k B l u) (λ le e. tt)
  step-leaves (request k j s b) ok = request_walk P u (Sends P.n k) k j s b (nothing k u) (λ e. answered) (λ lt. answered)
    where
      reply : Msg
      reply = estimate j k s (P.estimate k b)

      answered : Every (Leaves P.n k) (reply ∷ []) × Apart P.n (reply ∷ [])
      answered = (every_cons _ reply [] (refl, λ q. absurd (omega (arith, q, ok.1))) (every_nil _), (every_nil _, tt))
  step-leaves (estimate k j s e) ok =
      estimate_walk P u (Sends P.n k) k j s e (λ st. nothing k u) (λ le f full. assign-leaves P k (store j e u)) (λ le f. nothing k (store j e u)) (λ le f. tt)
  step-leaves (solution k B l) ok = take_bound_cases (λ C m. Unit {0}) (λ w. Sends P.n k (done w [])) B l u tt tt (λ C m a b h. nothing k (with_bound C m u))
  step-leaves (stop k B l) ok = take_bound_cases (λ C m. Unit {0}) (λ w. Sends P.n k (done (halt w) [])) B l u tt tt (λ C m a b h. nothing k (halt (with_bound C m u)))

-- ---- the slot of a valid message

module _ (P : Problem) (Past : History) where
  pub allowed : (m : Msg) → ValidMsg P Past m → to m ≢ from P.n m → Allowed P.n (slot_of P.n m)
  allowed (down k s b B l) ok ne =
      let h : pred k < P.n = omega (arith, ok.0) in
      let g : k ≡ suc (pred k) = omega (arith, ok.1) in
      (h, ok.0, inl g)
  allowed (back k s b B l) ok ne = (ok.0, omega (arith, ok.0), inr refl)
  allowed (request k j s b) ok ne = (omega (arith, ok.0, ok.1), ok.0, ok.1)
  allowed (estimate k j s e) ok ne = (ok.3, ok.0, ok.1)
  -- unit n sends no solution to itself
  allowed (solution k B l) ok ne =
      let h : suc (pred P.n) ≡ P.n = omega (arith, ok.0) in
      let d : k ≢ pred P.n = ne in
      let g : k < pred P.n = omega (arith, ok.0, d) in
      (omega (arith, h), ok.0, (h, g))
  allowed (stop k B l) ok ne = (omega (arith, ok.0), ok.0, (refl, ok.1))
