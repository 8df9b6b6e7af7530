-- From one unit to all: a step on any valid message, whether it waits, was delivered before or is lost, leaves every unit good and every
-- message ever sent valid. Then the network that making leaves.
--
-- In order: `before`, what each unit knows of the one before it; a unit put in the place of another; facts that grow with the logs; `any_step`;
-- `SafeNetwork`, and that of making.
-- Assumes nothing.
use Rattle.std.specs.Prelude.{ℕ, zero, suc, ◌*◌, ◌-◌, ◌^◌, ◌≤◌, ◌<◌, ◌≡◌, refl, ◌≢◌, ◌⊎◌, Bool, true, false, cond, List, [], ◌∷◌, ◌++◌, eqb, length}
use Rattle.std.proofs.Common.{sym, ap, ◌∙◌, subst, inl, inr, arith, mul-le-mul_right, pow-suc, mul_assoc, eqb-true, ne_eqb}
use Rattle.std.proofs.lemmas.Bool.{eqb-false}
use Rattle.base.specs.Members.{In, Every}
use Rattle.base.specs.Members.Laws.{in-cases, not-in-nil, in_right, every_nil}
use Rattle.protocol.specs.Problem.{Problem, InDomains, Laws}
use Rattle.protocol.specs.Machine.{Msg, down, back, request, estimate, solution, stop, to, Record, stamp_of, values_of, Agent, fresh, Result, refused, done, counted, pad, assign, step, Network, put, made, make}
use Rattle.protocol.specs.Tests.{true_not_false, eqb_same, le_split}
use Rattle.protocol.specs.Safety.Facts.{rank, History, OnLog, Extended, ValidMsg, valid_mono, Before, ValidRecord, Sorted, Good, Post, sorted_valid}
use Rattle.protocol.proofs.Safety.Assign.{try_post}
use Rattle.protocol.proofs.Safety.Step.{down_post, back_post, estimate_post, request_post, solution_post, stop_post}
use Rattle.protocol.specs.Safety.Logs.{Grown, logs, Recorded, top_stamp, peak, Safe}
use Rattle.protocol.proofs.Safety.Logs.{try_grown, step-grown, top_in}
use Rattle.protocol.specs.Safety.Network.{Grows, SafeNetwork, StepSafe}

-- ---- what a unit knows of the one before

module _ (P : Problem) where
  -- along a log a higher stamp is a higher rank
  sorted_order : (k : ℕ) (Past : History) (L : List Record) → Sorted P k Past L → (q r : Record) → In q L → In r L → stamp_of q < stamp_of r → rank P (values_of q) < rank P (values_of r)
  sorted_order k Past [] h q r i j lt = absurd (not-in-nil i)
  sorted_order k Past (x ∷ L) h q r i j lt = go (in-cases i) (in-cases j) (λ a b. sorted_order k Past L h.2 q r a b lt)
    where
      go : (q ≡ x) ⊎ In q L → (r ≡ x) ⊎ In r L → (In q L → In r L → rank P (values_of q) < rank P (values_of r)) → rank P (values_of q) < rank P (values_of r)
      go (inl e) (inl d) f = absurd (omega (arith, ap stamp_of e, ap stamp_of d, lt))
      go (inl e) (inr b) f = absurd (omega (arith, ap stamp_of e, (h.1 r b).0, lt))
      go (inr a) (inl d) f = omega (arith, ap (λ z. rank P (values_of z)) d, (h.1 q a).1)
      go (inr a) (inr b) f = f a b

  pad_up : (d s X : ℕ) → pad d s ≤ X → pad (suc d) s ≤ X * 32
  pad_up d s X h = rw (pow-suc 32 d, ← (mul_assoc s (32 ^ d) 32)) (mul-le-mul_right 32 h)

  module _ (us : ℕ → Agent) (safe : Safe P us) where
    pub before : (k : ℕ) → k ≤ P.n → Before P k (Recorded (logs us)) (peak (logs us) k)
    before zero h =
        record {
          len = λ s b p. ap length p.1;
          domains = λ s b p. subst (InDomains P) (sym p.1) tt;
          top = λ s b p. omega (arith, p.0);
          start = λ s b p e. p.1;
          pads = λ j s b lt p. absurd (omega arith);
          order = λ s t b c p q lt. absurd (omega (arith, p.0, q.0));
        }
    before (suc k) h = go (before k (omega arith))
      where
        g : Good P k (Recorded (logs us)) (peak (logs us) k) (us k)
        g = safe k h

        rec : (r : Record) → In r (us k).log → ValidRecord P k (Recorded (logs us)) r
        rec r i = sorted_valid P k (Recorded (logs us)) (us k).log g.sorted r i

        go : Before P k (Recorded (logs us)) (peak (logs us) k) → Before P (suc k) (Recorded (logs us)) (peak (logs us) (suc k))
        go bf =
            record {
              len = λ s b p. sym (ap length p.3) ∙ ap suc (bf.len _ _ (rec p.0 p.1).0);
              domains = λ s b p. subst (InDomains P) p.3
                  (let ok = rec p.0 p.1 in
                  (omega (arith, ok.1, ok.2), rw (bf.len _ _ ok.0) ok.3, bf.domains _ _ ok.0));
              top = λ s b p. omega (arith, p.2, top_in p.0 (us k).log p.1);
              start = λ s b p e. absurd (omega (arith, e));
              pads = λ j s b lt p. pads j s b (le_split (suc j) k lt) p;
              order = λ s t b c p q lt.
                  subst (λ x. rank P x < rank P c) p.3 (subst (λ x. rank P (values_of p.0) < rank P x) q.3
                  (sorted_order k (Recorded (logs us)) (us k).log g.sorted p.0 q.0 p.1 q.1 (omega (arith, p.2, q.2, lt))));
            }
          where
            pads : (j s : ℕ) (b : List ℕ) → (suc j ≤ k) ⊎ (suc j ≡ suc k) → Recorded (logs us) (suc j) s b → pad (suc k - suc j) s ≤ peak (logs us) (suc k)
            pads j s b (inl lt) p =
                let e : suc k - suc j ≡ suc (k - suc j) = omega arith in
                rw e (omega (arith, pad_up (k - suc j) s (peak (logs us) k) (bf.pads j s b lt p)))
            pads j s b (inr e) p =
                let p' = subst (λ x. Recorded (logs us) x s b) e p in
                let d : suc k - suc j ≡ 0 = omega arith in
                rw d (omega (arith, p'.2, top_in p'.0 (us k).log p'.1))

-- ---- a unit put in the place of another

pub put_all : (us : ℕ → Agent) (k : ℕ) (u : Agent) (Q : ℕ → Agent → Type 0) → Q k u → ((i : ℕ) → i ≢ k → Q i (us i)) → (i : ℕ) → Q i (put us k u i)
put_all us k u Q h f i = go (eqb i k) refl
  where
    go : (t : Bool) → eqb i k ≡ t → Q i (cond t u (us i))
    go true e = rw (eqb-true i k e) h
    go false e = f i (eqb-false i k e)

pub put_at : (us : ℕ → Agent) (k : ℕ) (u : Agent) → put us k u k ≡ u
put_at us k u = rw (eqb_same k)

pub put_other : (us : ℕ → Agent) (k : ℕ) (u : Agent) (i : ℕ) → i ≢ k → put us k u i ≡ us i
put_other us k u i ne = rw (ne_eqb i k ne)

-- ---- facts that grow with the logs

pub good_mono : (P : Problem) (k : ℕ) (Past Past' : History) (X X' : ℕ) (u : Agent) → ((s : ℕ) (b : List ℕ) → Past k s b → Past' k s b) → X ≤ X' → Good P k Past X u → Good P k Past' X' u
good_mono P k Past Past' X X' u f le g =
    record {
      valid = g.valid;
      sorted = sorted u.log g.sorted;
      threshold = g.threshold;
      threshold_peak = omega (arith, g.threshold_peak);
      none = g.none;
      cpa = λ z. let p = g.cpa z in
          record { past = f _ _ p.past; counter_pos = p.counter_pos; counter = p.counter; own = p.own; last = p.last; closed = p.closed; estimates = p.estimates };
      stop = g.stop;
    }
  where
    sorted : (L : List Record) → Sorted P k Past L → Sorted P k Past' L
    sorted [] h = tt
    sorted (r ∷ L) h = ((f _ _ h.0.0, h.0.1, h.0.2, h.0.3), h.1, sorted L h.2)

pub recorded_grows : (W W' : ℕ → List Record) → Grows W W' → (k s : ℕ) (b : List ℕ) → Recorded W k s b → Recorded W' k s b
recorded_grows W W' g zero s b h = h
recorded_grows W W' g (suc k) s b h = (h.0, subst (λ L. In h.0 L) (sym (g k).1) (in_right (g k).0 h.1), h.2, h.3)

pub peak_grows : (W W' : ℕ → List Record) → Grows W W' → (k : ℕ) → peak W k ≤ peak W' k
peak_grows W W' g zero = omega arith
peak_grows W W' g (suc k) =
    let z : top_stamp (W k) ≤ top_stamp (W' k) = subst (λ L. top_stamp (W k) ≤ top_stamp L) (sym (g k).1) (top_append (g k).0) in
    omega (arith, peak_grows W W' g k)
  where
    top_append : (new : List Record) → top_stamp (W k) ≤ top_stamp (new ++ W k)
    top_append [] = omega arith
    top_append (r ∷ new) = omega (arith, top_append new)

module _ (P : Problem) (laws : Laws P) (us : ℕ → Agent) (safe : Safe P us) where
  put_grows : (k : ℕ) (u : Agent) (ms : List Msg) → Grown P k (us k).log (done u ms) → Grows (logs us) (logs (put us k u))
  put_grows k u ms g = put_all us k u (λ i x. (new : List Record) × (x.log ≡ new ++ (us i).log)) (g.0, g.1) (λ i ne. ([], refl))

  lift : (k : ℕ) (res : Result) → Post P k (Recorded (logs us)) (peak (logs us) k) res → Grown P k (us k).log res → StepSafe P us k res
  lift k refused h g = h
  lift k (done u ms) h g = (all, (λ m i. valid_mono P extended m (h.1 m i)), gr)
    where
      gr : Grows (logs us) (logs (put us k u))
      gr = put_grows k u ms g

      past : (i s : ℕ) (b : List ℕ) → Recorded (logs us) i s b → Recorded (logs (put us k u)) i s b
      past = recorded_grows (logs us) (logs (put us k u)) gr

      extended : (i s : ℕ) (b : List ℕ) → Extended k (Recorded (logs us)) u.log i s b → Recorded (logs (put us k u)) i s b
      extended i s b (inl p) = past i s b p
      extended i s b (inr q) =
          subst (λ x. Recorded (logs (put us k u)) x s b) (sym q.0) (subst (λ x. OnLog x.log s b) (sym (put_at us k u)) q.1)

      all : Safe P (put us k u)
      all = put_all us k u (λ i x. i < P.n → Good P i (Recorded (logs (put us k u))) (peak (logs (put us k u)) i) x)
          (λ lt. good_mono P k _ _ _ _ u (past k) (peak_grows (logs us) (logs (put us k u)) gr k) h.0)
          (λ i ne lt. good_mono P i _ _ _ _ (us i) (past i) (peak_grows (logs us) (logs (put us k u)) gr i) (safe i lt))

  at : (k : ℕ) → k < P.n → Before P k (Recorded (logs us)) (peak (logs us) k)
  at k lt = before P us safe k (omega (arith, lt))

  step_post : (m : Msg) → ValidMsg P (Recorded (logs us)) m → Post P (to m) (Recorded (logs us)) (peak (logs us) (to m)) (step P (us (to m)) m)
  step_post (down k s b B l) ok = down_post P laws k ok.0 _ _ (at k ok.0) (us k) s b B l (safe k ok.0) ok
  step_post (back k s b B l) ok =
      let lt : k < P.n = omega (arith, ok.0) in
      back_post P laws k lt _ _ (at k lt) (us k) s b B l (safe k lt) (λ s b p. p) ok
  step_post (request k j s b) ok = request_post P laws k ok.0 _ _ (at k ok.0) (us k) j s b (safe k ok.0) ok
  step_post (estimate k j s e) ok = estimate_post P laws k ok.0 _ _ (at k ok.0) (us k) j s e (safe k ok.0) (λ s b p. p) ok
  step_post (solution k B l) ok = solution_post P laws k ok.0 _ _ (at k ok.0) (us k) B l (safe k ok.0) ok
  step_post (stop k B l) ok = stop_post P laws k ok.0 _ _ (at k ok.0) (us k) B l (safe k ok.0) ok

  -- A step on any valid message is never refused, and all stays safe.
  pub any_step : (m : Msg) → ValidMsg P (Recorded (logs us)) m → StepSafe P us (to m) (step P (us (to m)) m)
  any_step m ok = lift (to m) (step P (us (to m)) m) (step_post m ok) (step-grown P (us (to m)) m)

-- where fewer messages wait
pub safe_fewer : (P : Problem) (S : Network) (new : List Msg) → Every (λ x. In x S.pool) new → SafeNetwork P S → SafeNetwork P (record { units = S.units; pool = new; accepted = S.accepted })
safe_fewer P S new fewer r = record { safe = r.safe; msgs = λ m i. r.msgs m (fewer m i) }

module _ (P : Problem) (laws : Laws P) where
  fresh_good : (k : ℕ) (Past : History) (X : ℕ) → Good P k Past X fresh
  fresh_good k Past X =
      record {
        valid = inl (refl, refl);
        sorted = tt;
        threshold = every_nil _;
        threshold_peak = omega arith;
        none = λ e. every_nil _;
        cpa = λ z. absurd (omega arith);
        stop = λ e t. absurd (true_not_false t refl);
      }

  fresh_safe : Safe P (λ k. fresh)
  fresh_safe k lt = fresh_good k _ _

  pub make-step_safe : 0 < P.n → StepSafe P (λ k. fresh) 0 (assign P 0 fresh)
  make-step_safe lt =
      lift P laws (λ k. fresh) fresh_safe 0 (assign P 0 fresh)
      (try_post P laws 0 lt (Recorded (logs (λ k. fresh))) 0 (before P (λ k. fresh) fresh_safe 0 (omega arith)) (P.size 0 - 0) false (counted fresh)
      (record {
        valid = inl (refl, refl);
        sorted = tt;
        past = (refl, refl);
        threshold = omega arith;
        counter = omega arith;
        left = omega arith;
        top = every_nil _;
        closed = λ v lo hi. absurd (omega arith);
        stop = λ e t. absurd (true_not_false t refl);
      }))
      (try_grown P 0 (P.size 0 - 0) false (counted fresh))

  pub make_safe : 0 < P.n → SafeNetwork P (make P)
  make_safe lt = go (assign P 0 fresh) (make-step_safe lt)
    where
      go : (res : Result) → StepSafe P (λ k. fresh) 0 res → SafeNetwork P (made res)
      go refused h = absurd h
      go (done u ms) h = record { safe = h.0; msgs = h.1 }
