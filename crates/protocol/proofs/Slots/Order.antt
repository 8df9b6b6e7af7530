-- The order of what a unit sends. A stamp is compared as its sender compares it: padded with zero places up to the sender's own. Then no stamp that a
-- unit has sent is above its threshold (`Behind`), and none that it sends now is below the threshold that it had (`Timely`): so what waits in a slot has no
-- newer stamp than what overwrites it. By the walk over assigning, then over each rule. (Of the bounds of solutions Best/Pairs.antt tells.)
--
-- In order: `Timely`; backtracking and assigning; each rule of a step; any unit of a safe network; `Behind`, and two messages of one slot.
-- Assumes nothing.
use Rattle.std.specs.Prelude.{ℕ, suc, ◌+◌, ◌*◌, ◌-◌, ◌/◌, ◌^◌, ◌≤◌, ◌<◌, ◌≡◌, refl, Bool, true, false, List, [], ◌∷◌, ltb}
use Rattle.std.proofs.Common.{sym, ap, ◌∙◌, subst, arith, pow-suc, mul_assoc, suc-mul, zero-lt-suc, lt_of_mul-lt-mul_right, ltb-true, ltb-false}
use Rattle.std.proofs.Math.Nat.{one-le-pow}
use Rattle.base.specs.Members.Laws.{every_nil, every_cons, every_append}
use Rattle.protocol.specs.Problem.{Problem, Laws}
use Rattle.protocol.specs.Machine.{Msg, down, back, request, estimate, solution, stop, to, Agent, stamp, with_threshold, with_bound, Result, refused, done, take_bound, write, counted, received, pad, store, halt, backtracked, announce, give_back, backtrack, solved, try_from, resume, step, put}
use Rattle.protocol.specs.Lists.{every_announced, every-given_back, every_sent_down}
use Rattle.protocol.specs.Walk.{take_bound_cases, try_walk, resume_cases, down_walk, back_walk, request_walk, estimate_walk}
use Rattle.protocol.specs.Safety.Facts.{History, OnLog, ValidMsg, Before, Good}
use Rattle.protocol.proofs.Safety.Step.{the_cpa_out}
use Rattle.protocol.specs.Safety.Logs.{logs, Recorded, peak, Safe}
use Rattle.protocol.proofs.Safety.Network.{before, put_all, put_at}
use Rattle.protocol.proofs.Liveness.Moves.{InHand}
use Rattle.protocol.proofs.Liveness.Effect.{out_in_hand}
use Rattle.protocol.specs.Slots.Slot.{kind_of, from, slot_of, stamp_in}
use Rattle.protocol.specs.Slots.Order.{Behind, Timed, Timely}

timed_less : (k t t' : ℕ) → t ≤ t' → (r : Result) → Timed k t' r → Timed k t r
timed_less k t t' le refused h = tt
timed_less k t t' le (done w ms) h = (omega (arith, h.0), λ y i. let z = h.1 y i in record { newer = λ q. omega (arith, z.newer q); behind = z.behind })

-- ---- backtracking and assigning

module _ (P : Problem) (k : ℕ) where
  backtrack_timed : (better : Bool) (u : Agent) → u.prefix_stamp * 32 ≤ u.threshold → u.threshold ≤ u.prefix_stamp * 32 + 30 → Timed k u.threshold (backtrack P k better u)
  backtrack_timed better u lo hi = (
    omega arith,
    every_append Now (give_back P k u) (announce P k better u)
        (every-given_back P Now k u (λ e j a b. record { newer = λ q. absurd (omega (arith, q)); behind = omega arith })
        (λ i e.
        let d : k - i ≡ 1 = omega arith in
        let a : u.threshold < pad (k - i) (suc u.prefix_stamp) = rw d (omega arith) in
        let b : pad (k - i) u.prefix_stamp ≤ suc u.threshold = rw d (omega arith) in
        record { newer = λ q. a; behind = b }))
        (every_announced P Now k u better (λ j lt ne. record { newer = λ q. absurd (omega (arith, q)); behind = omega arith })),
  )
    where
      Now : Msg → Type 0
      Now = Timely k u.threshold (backtracked k u)

  -- a stamp sent to a later unit is not padded
  later_newer : (j t s : ℕ) → k < j → t ≤ s → t < pad (k - j) (suc s)
  later_newer j t s lt le = let d : k - j ≡ 0 = omega arith in rw d (omega arith)

  later_behind : (j s : ℕ) → k < j → pad (k - j) s ≤ s
  later_behind j s lt = let d : k - j ≡ 0 = omega arith in rw d (omega arith)

  pub try_timed : (m : ℕ) (better : Bool) (u : Agent) → InHand P k m u → Timed k u.threshold (try_from P k m better u)
  try_timed =
      try_walk P k (λ m better u. InHand P k m u) (λ u r. Timed k u.threshold r)
      (record {
        stuck = λ better u h. backtrack_timed better u (omega (arith, h.0)) (omega (arith, h.0, h.1));
        sends = λ m better u h lt ne. (
          omega (arith, h.0),
          every_sent_down P (Timely k u.threshold (write u)) k (write u)
              (record {
                newer = λ q. later_newer (suc k) u.threshold (stamp (write u)) (omega arith) (omega (arith, h.0));
                behind = later_behind (suc k) (stamp (write u)) (omega arith);
              })
              (λ j lo hi. record { newer = λ q. later_newer j u.threshold (stamp (write u)) lo (omega (arith, h.0)); behind = later_behind j (stamp (write u)) lo }),
        );
        solves = λ m better u h lt e. ((refl, omega (arith, h.1)), timed_less k u.threshold (solved P (write u)).threshold (omega (arith, h.0)));
        skips = λ m better u h le. ((h.0, omega (arith, h.1)), λ r p. p);
      })

  -- a CPA taken up, with or without an own value
  took_timed : (B : ℕ) (l : List ℕ) (u : Agent) → InHand P k (P.size k - u.own) (counted u) → Timed k u.threshold (resume P k (take_bound B l u))
  took_timed B l u h =
      take_bound_cases (λ C m. Unit {0}) (λ w. Timed k u.threshold (resume P k w)) B l u tt tt
      (λ C m a b ok.
      resume_cases P k (Timed k u.threshold) (with_bound C m u) (λ full. backtrack_timed false (with_bound C m u) (omega (arith, h.0)) (omega (arith, h.0, h.1)))
      (try_timed (P.size k - u.own) false (counted (with_bound C m u)) h))

-- ---- each rule of a step

module _ (P : Problem) (laws : Laws P) (k : ℕ) (k<n : k < P.n) (Past : History) (X : ℕ) (bf : Before P k Past X) (u : Agent) (g : Good P k Past X u)
    (own : (s : ℕ) (b : List ℕ) → Past (suc k) s b → OnLog u.log s b) where
  abbrev Now : Result → Type 0
  Now r = Timed k u.threshold r

  still : Now (done u [])
  still = (omega arith, every_nil _)

  -- a stamp of the CPA out that is not stale: it is in hand
  in_hand : (s : ℕ) (b : List ℕ) → Past (suc k) s b → u.threshold ≤ s → InHand P k (P.size k - u.own) (counted u)
  in_hand s b p le =
      let sm = the_cpa_out P laws k k<n Past X bf u s b g (own s b p) le in
      out_in_hand P laws k Past u (g.cpa sm.0) sm.0 (sm.3 ∙ sm.1)

  down_timed : (s : ℕ) (b : List ℕ) (B : ℕ) (l : List ℕ) → Now (step P u (down k s b B l))
  down_timed s b B l =
      down_walk P u Now k s b B l (λ st. still)
      (λ le.
      timed_less k u.threshold (s * 32) le (resume P k (take_bound B l (received s b u)))
      (took_timed P k B l (received s b u) (omega arith, omega (arith, laws.size_le_16 k))))

  back_timed : (s : ℕ) (b : List ℕ) (B : ℕ) (l : List ℕ) → ValidMsg P Past (back k s b B l) → Now (step P u (back k s b B l))
  back_timed s b B l ok =
      back_walk P u Now k s b B l (λ st. still) (λ le e. took_timed P k B l u (in_hand s b ok.1 le)) (λ le e. tt)

  estimate_timed : (j s e : ℕ) → ValidMsg P Past (estimate k j s e) → Now (step P u (estimate k j s e))
  estimate_timed j s e ok =
      estimate_walk P u Now k j s e (λ st. still)
      (λ le f full. try_timed P k (P.size k - u.own) false (counted (store j e u)) (in_hand s ok.2.0 ok.2.1 le))
      (λ le f. (omega arith, every_nil _))
      (λ le f. tt)

-- the answer to a request carries its stamp, which is not below the threshold on the units before, and the threshold then is not below it
request_timed : (P : Problem) (u : Agent) (k j s : ℕ) (b : List ℕ) → j < k → Timed k u.threshold (step P u (request k j s b))
request_timed P u k j s b lt =
    request_walk P u (Timed k u.threshold) k j s b (omega arith, every_nil _) (λ e. answered u (omega (arith, e)) (omega arith) (omega (arith, e)))
    (λ h. answered (with_threshold (t * 32) u) (omega (arith, h)) (omega (arith, h)) (omega arith))
  where
    -- the request's stamp on the units before
    t : ℕ
    t = pad (k - suc j) s

    -- one place more
    up : (x : ℕ) → pad (k - j) x ≡ pad (k - suc j) x * 32
    up x = let d : k - j ≡ suc (k - suc j) = omega (arith, lt) in rw (d, pow-suc 32 (k - suc j), ← (mul_assoc x (32 ^ (k - suc j)) 32))

    -- the next stamp, of as many places
    next : t + 1 ≤ pad (k - suc j) (suc s)
    next = omega (arith, suc-mul s (32 ^ (k - suc j)), one-le-pow (k - suc j) 32 (zero-lt-suc 31))

    reply : Msg
    reply = estimate j k s (P.estimate k b)

    answered : (w : Agent) → u.threshold / 32 ≤ t → u.threshold ≤ w.threshold → t * 32 ≤ w.threshold → Timed k u.threshold (done w (reply ∷ []))
    answered w le rises ge =
        let a : u.threshold < pad (k - j) (suc s) = omega (arith, up (suc s), next, le) in
        let c : pad (k - j) s ≤ w.threshold = omega (arith, up s, ge) in
        (rises, every_cons (Timely k u.threshold w) reply [] (record { newer = λ q. a; behind = c }) (every_nil _))

-- ---- any unit of a safe network

module _ (P : Problem) (laws : Laws P) (us : ℕ → Agent) (safe : Safe P us) where
  at : (k : ℕ) → k < P.n → Before P k (Recorded (logs us)) (peak (logs us) k)
  at k lt = before P us safe k (omega (arith, lt))

  pub step_timed : (m : Msg) → ValidMsg P (Recorded (logs us)) m → Timed (to m) (us (to m)).threshold (step P (us (to m)) m)
  step_timed (down k s b B l) ok = down_timed P laws k ok.0 _ _ (at k ok.0) (us k) (safe k ok.0) (λ s b p. p) s b B l
  step_timed (back k s b B l) ok =
      let lt : k < P.n = omega (arith, ok.0) in
      back_timed P laws k lt _ _ (at k lt) (us k) (safe k lt) (λ s b p. p) s b B l ok
  step_timed (request k j s b) ok = request_timed P (us k) k j s b ok.1
  step_timed (estimate k j s e) ok = estimate_timed P laws k ok.0 _ _ (at k ok.0) (us k) (safe k ok.0) (λ s b p. p) j s e ok
  step_timed (solution k B l) ok =
      take_bound_cases (λ C m. Unit {0}) (λ w. Timed k (us k).threshold (done w [])) B l (us k) tt tt (λ C m a b h. (omega arith, every_nil _))
  step_timed (stop k B l) ok =
      take_bound_cases (λ C m. Unit {0}) (λ w. Timed k (us k).threshold (done (halt w) [])) B l (us k) tt tt (λ C m a b h. (omega arith, every_nil _))

-- thresholds don't fall
pub behind_stays : (n : ℕ) (us : ℕ → Agent) (k : ℕ) (u : Agent) → (us k).threshold ≤ u.threshold → (x : Msg) → Behind n us x → Behind n (put us k u) x
behind_stays n us k u t x h = omega (arith, h, put_all us k u (λ i v. (us i).threshold ≤ v.threshold) t (λ i ne. omega arith) (from n x))

-- what unit k sends is behind it
pub timely_behind : (n : ℕ) (us : ℕ → Agent) (k t : ℕ) (u : Agent) (y : Msg) → from n y ≡ k → Timely k t u y → Behind n (put us k u) y
timely_behind n us k t u y e h =
    subst (λ i. pad (i - to y) (stamp_in y) ≤ (put us k u i).threshold) (sym e) (subst (λ v. pad (k - to y) (stamp_in y) ≤ v.threshold) (sym (put_at us k u)) h.behind)

-- ---- two messages of one slot: the one that waits is not newer than the one that is sent

-- a kind without a stamp
unstamped : (x : Msg) → 4 ≤ kind_of x → stamp_in x ≡ 0
unstamped (down k s b B l) h = absurd (omega (arith, h))
unstamped (back k s b B l) h = absurd (omega (arith, h))
unstamped (request k j s b) h = absurd (omega (arith, h))
unstamped (estimate k j s e) h = absurd (omega (arith, h))
unstamped (solution k B l) h = refl
unstamped (stop k B l) h = refl

pub not_newer : (n : ℕ) (us : ℕ → Agent) (k : ℕ) (u : Agent) (x y : Msg) → slot_of n x ≡ slot_of n y → from n y ≡ k → Behind n us x → Timely k (us k).threshold u y → stamp_in x ≤ stamp_in y
not_newer n us k u x y e f h g = go (ltb (kind_of y) 4) refl
  where
    -- as the sender compares it
    below : stamp_in x * 32 ^ (k - to y) ≤ (us k).threshold
    below =
        subst (λ j. pad (k - j) (stamp_in x) ≤ (us k).threshold) (ap (λ s. s.receiver) e)
        (subst (λ i. pad (i - to x) (stamp_in x) ≤ (us i).threshold) (ap (λ s. s.sender) e ∙ f) h)

    go : (t : Bool) → ltb (kind_of y) 4 ≡ t → stamp_in x ≤ stamp_in y
    go true q =
        let b : (us k).threshold < suc (stamp_in y) * 32 ^ (k - to y) = g.newer (ltb-true (kind_of y) 4 q) in
        let c : stamp_in x < suc (stamp_in y) = lt_of_mul-lt-mul_right (32 ^ (k - to y)) (omega (arith, below, b)) in
        omega (arith, c)
    go false q = omega (arith, unstamped x (omega (arith, ap (λ s. s.kind) e, ltb-false (kind_of y) 4 q)))
