-- What one step sends, counted: a calm one at most an estimate, and that for a request; any other a CPA, with the requests or the solutions
-- that go with it (`Sent`). By the walk over assigning, then over each rule.
--
-- In order: what counts; a CPA on its way down has its requests behind it (`Paired`); assigning; a step (`Turn`); what a request leaves.
-- Assumes nothing.
use Rattle.std.specs.Prelude.{ℕ, zero, suc, ◌+◌, ◌*◌, ◌-◌, ◌≤◌, ◌<◌, ◌≡◌, refl, ◌≢◌, ◌⊎◌, Bool, true, false, cond, ◌&&◌, List, [], ◌∷◌, ◌++◌, leb, eqb, length}
use Rattle.std.proofs.Common.{sym, ap, ◌∙◌, subst, inl, inr, arith, mul-add, ltb-true, leb-true, le-leb, eqb-true, eq-eqb, ne_eqb}
use Rattle.base.specs.Members.{In, here, there, Every}
use Rattle.base.specs.Members.Laws.{in_left}
use Rattle.protocol.specs.Problem.{Problem}
use Rattle.protocol.specs.Machine.{Msg, down, back, request, estimate, solution, stop, to, to_each, Agent, stamp, values, with_bound, Result, refused, done, take_bound, write, counted, received, is_out, pad, store, halt, announce, give_back, backtrack, send_down, try_from, assign, resume, step}
use Rattle.protocol.specs.Lists.{every_to_each, every_announced}
use Rattle.protocol.specs.Tests.{true_not_false, eqb_same, and_left, and_right}
use Rattle.protocol.specs.Totals.{total, total_append, total_each}
use Rattle.protocol.specs.Walk.{take_bound_cases, try_walk, counted_out, resume_cases, down_walk, back_walk, request_walk, estimate_walk}
use Rattle.protocol.specs.Liveness.Effect.{NotDown}
use Rattle.protocol.specs.Count.Weights.{extra, extra-last}
use Rattle.protocol.specs.Progress.Light.{Heavy}
use Rattle.protocol.specs.Progress.Asked.{AtLeast}
use Rattle.protocol.proofs.Progress.Asked.{on_request_at_least}
use Rattle.protocol.specs.Oldest.Turn.{is_estimate, is_other, live, move, same}

same_yes : (k : ℕ) → same k k ≡ 1
same_yes k = rw (eqb_same k)

same_no : (i k : ℕ) → i ≢ k → same i k ≡ 0
same_no i k ne = rw (ne_eqb i k ne)

pub length_total : (l : List Msg) → length l ≡ total is_estimate l + total is_other l
length_total [] = refl
length_total (m ∷ l) = omega (arith, length_total l, most m)
  where
    most : (m : Msg) → is_estimate m ≤ 1
    most (down k s b B l) = omega arith
    most (back k s b B l) = omega arith
    most (request k j s b) = omega arith
    most (estimate k j s e) = omega arith
    most (solution k B l) = omega arith
    most (stop k B l) = omega arith

cond_le : (a b c : Bool) → (b ≡ true → c ≡ true) → cond (a && b) 1 0 ≤ cond (a && c) 1 0
cond_le true true c h = rw (h refl) (omega arith)
cond_le true false c h = omega arith
cond_le false b c h = omega arith

cond_le_left : (a b : Bool) → cond (a && b) 1 0 ≤ cond a 1 0
cond_le_left true true = omega arith
cond_le_left true false = omega arith
cond_le_left false b = omega arith

-- a higher threshold leaves fewer
pub live_less : (t t' k : ℕ) → t ≤ t' → (m : Msg) → live t' k m ≤ live t k m
live_less t t' zero le m = omega arith
live_less t t' (suc k) le (down zero s b B l) = omega arith
live_less t t' (suc k) le (down (suc i) s b B l) = cond_le (eqb i k) (leb t' (s * 32)) (leb t (s * 32)) (λ e. le-leb t (s * 32) (omega (arith, leb-true t' (s * 32) e)))
live_less t t' (suc k) le (back i s b B l) = omega arith
live_less t t' (suc k) le (request i j s b) = omega arith
live_less t t' (suc k) le (estimate i j s e) = omega arith
live_less t t' (suc k) le (solution i B l) = omega arith
live_less t t' (suc k) le (stop i B l) = omega arith

-- each was sent by the unit before
pub live_move : (t k : ℕ) (m : Msg) → live t (suc k) m ≤ move k m
live_move t k (down zero s b B l) = omega arith
live_move t k (down (suc i) s b B l) = cond_le_left (eqb i k) (leb t (s * 32))
live_move t k (back i s b B l) = omega arith
live_move t k (request i j s b) = omega arith
live_move t k (estimate i j s e) = omega arith
live_move t k (solution i B l) = omega arith
live_move t k (stop i B l) = omega arith

pub live_here : (t k s : ℕ) (b : List ℕ) (B : ℕ) (l : List ℕ) → 1 ≤ k → t ≤ s * 32 → live t k (down k s b B l) ≡ 1
live_here t zero s b B l h le = absurd (omega arith)
live_here t (suc k) s b B l h le = rw (eqb_same k, le-leb t (s * 32) le)

-- none of those with a stamp below
pub live_none : (t k : ℕ) (m : Msg) → ((s : ℕ) (b : List ℕ) (B : ℕ) (l : List ℕ) → m ≡ down (suc k) s b B l → s * 32 < t) → live t (suc k) m ≡ 0
live_none t k (down zero s b B l) h = refl
live_none t k (down (suc i) s b B l) h = go (eqb i k) (leb t (s * 32)) refl refl
  where
    go : (x y : Bool) → eqb i k ≡ x → leb t (s * 32) ≡ y → ◌≡◌ {A = ℕ} (cond (x && y) 1 0) 0
    go true true e f = absurd (omega (arith, h s b B l (ap (λ z. down (suc z) s b B l) (eqb-true i k e)), leb-true t (s * 32) f))
    go true false e f = refl
    go false y e f = refl
live_none t k (back i s b B l) h = refl
live_none t k (request i j s b) h = refl
live_none t k (estimate i j s e) h = refl
live_none t k (solution i B l) h = refl
live_none t k (stop i B l) h = refl

-- ---- a CPA on its way down has its request to the unit after next behind it

module _ (n : ℕ) where
  abbrev pub Followed : Msg → List Msg → Type 0
  Followed (down zero s b B l) rest = Unit {0}
  Followed (down (suc k) s b B l) rest = suc (suc k) < n → In (request (suc (suc k)) k s b) rest
  Followed (back k s b B l) rest = Unit {0}
  Followed (request k j s b) rest = Unit {0}
  Followed (estimate k j s e) rest = Unit {0}
  Followed (solution k B l) rest = Unit {0}
  Followed (stop k B l) rest = Unit {0}

  abbrev pub Paired : List Msg → Type 0
  Paired [] = Unit {0}
  Paired (m ∷ l) = Followed m l × Paired l

  followed_more : (m : Msg) (l l' : List Msg) → Followed m l → Followed m (l ++ l')
  followed_more (down zero s b B l) r r' h = tt
  followed_more (down (suc k) s b B l) r r' h = λ lt. in_left r' (h lt)
  followed_more (back k s b B l) r r' h = tt
  followed_more (request k j s b) r r' h = tt
  followed_more (estimate k j s e) r r' h = tt
  followed_more (solution k B l) r r' h = tt
  followed_more (stop k B l) r r' h = tt

  pub paired_append : (l l' : List Msg) → Paired l → Paired l' → Paired (l ++ l')
  paired_append [] l' h g = g
  paired_append (m ∷ l) l' h g = (followed_more m l l' h.0, paired_append l l' h.1 g)

  paired_none : (l : List Msg) → Every NotDown l → Paired l
  paired_none [] h = tt
  paired_none (m ∷ l) h = (first m (h m (here refl)), paired_none l (λ x i. h x (there i)))
    where
      first : (m : Msg) → NotDown m → Followed m l
      first (down k s b B l) z = absurd z
      first (back k s b B l) z = tt
      first (request k j s b) z = tt
      first (estimate k j s e) z = tt
      first (solution k B l) z = tt
      first (stop k B l) z = tt

in_each : (g : ℕ → Msg) (lo m j : ℕ) → lo ≤ j → j < lo + m → In (g j) (to_each g lo m)
in_each g lo zero j a b = absurd (omega arith)
in_each g lo (suc m) j a b = go (eqb j lo) refl (λ c. in_each g (suc lo) m j c (omega arith))
  where
    go : (t : Bool) → eqb j lo ≡ t → (suc lo ≤ j → In (g j) (to_each g (suc lo) m)) → In (g j) (g lo ∷ to_each g (suc lo) m)
    go true e f = here (ap g (eqb-true j lo e))
    go false e f = there (f (let z : j ≢ lo = λ q. true_not_false (eq-eqb j lo q) e in omega (arith, z)))

-- ---- what goes out with a CPA

-- neither the threshold nor the stamp of the CPA in hand is below T
abbrev Behind : ℕ → Agent → Type 0
Behind T u = (T ≤ u.threshold) × (T ≤ stamp u)

module _ (P : Problem) where
  -- how many messages go out with a CPA of unit k
  abbrev pub cap : ℕ → ℕ
  cap k = P.n - k + extra P k

  pub record Sent (k : ℕ) (ms : List Msg) : Type 0 where
    pub estimates : total is_estimate ms ≡ 0
    pub others : total is_other ms ≤ cap k * total (move k) ms
    pub once : total (move k) ms ≤ 1
    pub alone : (i : ℕ) → i ≢ k → total (move i) ms ≡ 0
    pub paired : Paired P.n ms

  -- the threshold has passed T; unit 1 has stopped, or the CPA is sent
  abbrev pub Gone : ℕ → ℕ → Result → Type 0
  Gone T k refused = Unit {0}
  Gone T k (done w ms) = (T < w.threshold) × (((k ≡ 0) × (w.stopped ≡ true)) ⊎ Sent k ms)

  module _ (k : ℕ) (k<n : k < P.n) where
    sent_down : (u : Agent) → Sent k (send_down P k u)
    sent_down u =
        record {
          estimates = omega (arith, each is_estimate 0 (λ j. refl));
          others = omega (arith, each is_other 1 (λ j. refl), each (move k) 0 (λ j. refl), same_yes k, one (total (move k) ms) (omega (arith, each (move k) 0 (λ j. refl), same_yes k)));
          once = omega (arith, each (move k) 0 (λ j. refl), same_yes k);
          alone = λ i ne. omega (arith, each (move i) 0 (λ j. refl), same_no k i (λ e. ne (sym e)));
          paired = ((λ lt. in_each g (suc k) (P.n - suc k) (suc (suc k)) (omega arith) (omega arith)), paired_none P.n (to_each g (suc k) (P.n - suc k)) (every_to_each NotDown g (suc k) (P.n - suc k) (λ j a b. tt)));
        }
      where
        g : ℕ → Msg
        g j = request j k (stamp u) (values u)

        ms : List Msg
        ms = send_down P k u

        each : (f : Msg → ℕ) (c : ℕ) → ((j : ℕ) → f (g j) ≡ c) → total f (to_each g (suc k) (P.n - suc k)) ≡ c * (P.n - suc k)
        each f c h = total_each f g c h (suc k) (P.n - suc k)

        one : (x : ℕ) → x ≡ 1 → cap k * x ≡ cap k
        one x e = rw e (omega arith)

    sent_back : (i : ℕ) → suc i ≡ k → (better : Bool) → (better ≡ true → suc k ≡ P.n) → (u : Agent) → Sent k (give_back P (suc i) u ++ announce P k better u)
    sent_back i e better hb u =
        record {
          estimates = omega (arith, told is_estimate 0 (λ j. refl) better);
          others = omega (arith, told is_other 1 (λ j. refl) better, few better hb, one (total (move k) ms) moved);
          once = omega (arith, moved);
          alone = λ a ne. omega (arith, told (move a) 0 (λ j. refl) better, same_no (suc i) a (λ q. ne (sym q ∙ e)));
          paired = (tt, paired_none P.n (announce P k better u) (every_announced P NotDown k u better (λ j lt ne. tt)));
        }
      where
        g : ℕ → Msg
        g j = solution j u.bound u.best

        ms : List Msg
        ms = give_back P (suc i) u ++ announce P k better u

        count : Bool → ℕ
        count t = cond t (P.n - 1) 0

        told : (f : Msg → ℕ) (c : ℕ) → ((j : ℕ) → f (g j) ≡ c) → (t : Bool) → total f (announce P k t u) ≡ c * count t
        told f c h true = omega (
          arith,
          total_append f (to_each g 0 k) (to_each g (suc k) (P.n - suc k)),
          total_each f g c h 0 k,
          total_each f g c h (suc k) (P.n - suc k),
          ap (λ x. c * x) (let z : k + (P.n - suc k) ≡ P.n - 1 = omega arith in z),
          mul-add c k (P.n - suc k),
        )
        told f c h false = omega arith

        few : (t : Bool) → (t ≡ true → suc k ≡ P.n) → 1 + count t ≤ cap k
        few true h = omega (arith, extra-last P k (h refl), h refl)
        few false h = omega arith

        moved : total (move k) ms ≡ 1
        moved = omega (arith, told (move k) 0 (λ j. refl) better, ap (λ x. same x k) e, same_yes k)

        one : (x : ℕ) → x ≡ 1 → cap k * x ≡ cap k
        one x q = rw q (omega arith)

    -- ---- assigning

    backtrack_gone : (T : ℕ) (better : Bool) → (better ≡ true → suc k ≡ P.n) → (u : Agent) → T ≤ u.threshold → Gone T k (backtrack P k better u)
    backtrack_gone T better hb u le = go k refl
      where
        go : (i : ℕ) → i ≡ k → Gone T i (backtrack P i better u)
        go zero e = (omega arith, inl (refl, refl))
        go (suc i) e = (omega arith, inr (subst (λ x. Sent x (give_back P (suc i) u ++ announce P x better u)) (sym e) (sent_back i e better hb u)))

    pub try_gone : (T m : ℕ) (better : Bool) (u : Agent) → (better ≡ true → suc k ≡ P.n) → Behind T u → Gone T k (try_from P k m better u)
    try_gone T m better u hb h =
        try_walk P k (λ m better u. (better ≡ true → suc k ≡ P.n) × Behind T u) (λ u r. Gone T k r)
        (record {
          stuck = λ better u q. backtrack_gone T better q.0 u q.1.0;
          sends = λ m better u q lt ne. (omega (arith, q.1.1), inr (sent_down (write u)));
          solves = λ m better u q lt e. (((λ z. e), (omega (arith, q.1.1), omega (arith, q.1.1))), λ r p. p);
          skips = λ m better u q le. (q, λ r p. p);
        })
        m better u (hb, h)

    assign_gone : (T : ℕ) (u : Agent) → Behind T (counted u) → Gone T k (assign P k u)
    assign_gone T u h = try_gone T (P.size k - u.own) false (counted u) (λ z. absurd (true_not_false z refl)) h

    took_gone : (T B : ℕ) (l : List ℕ) (u : Agent) → Behind T (counted u) → Gone T k (resume P k (take_bound B l u))
    took_gone T B l u h =
        take_bound_cases (λ C m. Unit {0}) (λ w. Gone T k (resume P k w)) B l u tt tt
        (λ C m a b ok.
        resume_cases P k (Gone T k) (with_bound C m u) (λ full. backtrack_gone T false (λ z. absurd (true_not_false z refl)) (with_bound C m u) h.0) (assign_gone T (with_bound C m u) h))

  -- ---- a step

  -- no CPA is sent, and at most an estimate, for a request
  pub record Calm (u : Agent) (m : Msg) (w : Agent) (ms : List Msg) : Type 0 where
    pub threshold : u.threshold ≤ w.threshold
    pub estimates : total is_estimate ms ≤ is_other m
    pub others : total is_other ms ≡ 0
    pub moves : (i : ℕ) → total (move i) ms ≡ 0
    pub paired : Paired P.n ms

  abbrev pub Turn : (ℕ → Agent) → Msg → Result → Type 0
  Turn us m refused = Unit {0}
  Turn us m (done w ms) = Calm (us (to m)) m w ms ⊎ (Heavy us m × Gone (us (to m)).threshold (to m) (done w ms))

  module _ (us : ℕ → Agent) where
    calm : (m : Msg) (w : Agent) → (us (to m)).threshold ≤ w.threshold → Turn us m (done w [])
    calm m w le = inl (record { threshold = le; estimates = omega arith; others = refl; moves = λ i. refl; paired = tt })

    reply : (k j s : ℕ) (b : List ℕ) (e : ℕ) (w : Agent) → (us k).threshold ≤ w.threshold → Turn us (request k j s b) (done w (estimate j k s e ∷ []))
    reply k j s b e w le = inl (record { threshold = le; estimates = omega arith; others = refl; moves = λ i. refl; paired = (tt, tt) })

    turned : (m : Msg) (r : Result) → Heavy us m → Gone (us (to m)).threshold (to m) r → Turn us m r
    turned m refused h g = tt
    turned m (done w ms) h g = inr (h, g)

    less : (T T' k : ℕ) (r : Result) → T ≤ T' → Gone T' k r → Gone T k r
    less T T' k refused le g = tt
    less T T' k (done w ms) le g = (omega (arith, g.0), g.1)

    -- the CPA out is taken up again
    behind : (u : Agent) (T s : ℕ) → T ≤ u.threshold → T ≤ s → s ≡ stamp u → is_out u ≡ true → Behind T (counted u)
    behind u T s a b e o = let q = counted_out u (ltb-true 0 u.own o) in subst (λ x. (T ≤ x.threshold) × (T ≤ stamp x)) (sym q) (a, omega (arith, b, e))

    pub turn : (m : Msg) → to m < P.n → Turn us m (step P (us (to m)) m)
    turn (down k s b B l) lt =
        down_walk P (us k) (Turn us (down k s b B l)) k s b B l (λ st. calm (down k s b B l) (us k) (omega arith))
        (λ le.
        turned (down k s b B l) (resume P k (take_bound B l (received s b (us k)))) le
        (less (us k).threshold (s * 32) k (resume P k (take_bound B l (received s b (us k)))) le (took_gone k lt (s * 32) B l (received s b (us k)) (omega arith, omega arith))))
    turn (back k s b B l) lt =
        back_walk P (us k) (Turn us (back k s b B l)) k s b B l (λ st. calm (back k s b B l) (us k) (omega arith))
        (λ le e.
        let f = and_right (is_out (us k)) _ e in
        turned (back k s b B l) (resume P k (take_bound B l (us k))) le
        (took_gone k lt (us k).threshold B l (us k) (behind (us k) (us k).threshold s (omega arith) le (eqb-true s (stamp (us k)) (and_left (eqb s (stamp (us k))) _ f)) (and_left (is_out (us k)) _ e))))
        (λ le e. tt)
    turn (request k j s b) lt =
        request_walk P (us k) (Turn us (request k j s b)) k j s b (calm (request k j s b) (us k) (omega arith)) (λ e. reply k j s b _ (us k) (omega arith))
        (λ h. reply k j s b _ _ (omega (arith, h)))
    turn (estimate k j s e) lt =
        estimate_walk P (us k) (Turn us (estimate k j s e)) k j s e (λ st. calm (estimate k j s e) (us k) (omega arith))
        (λ le f full.
        let g = and_right (is_out (us k)) _ f in
        turned (estimate k j s e) (assign P k (store j e (us k))) le
        (assign_gone k lt (us k).threshold (store j e (us k)) (behind (store j e (us k)) (us k).threshold s (omega arith) le (eqb-true s (stamp (us k)) (and_right (eqb s (us k).threshold) (eqb s (stamp (us k))) g)) (and_left (is_out (us k)) _ f))))
        (λ le f. calm (estimate k j s e) (store j e (us k)) (omega arith)) (λ le f. tt)
    turn (solution k B l) lt =
        take_bound_cases (λ C m. Unit {0}) (λ w. Turn us (solution k B l) (done w [])) B l (us k) tt tt (λ C m a b ok. calm (solution k B l) (with_bound C m (us k)) (omega arith))
    turn (stop k B l) lt =
        take_bound_cases (λ C m. Unit {0}) (λ w. Turn us (stop k B l) (done (halt w) [])) B l (us k) tt tt (λ C m a b ok. calm (stop k B l) (halt (with_bound C m (us k))) (omega arith))

  -- ---- what a request of the unit before the last but one leaves

  pub request_leaves : (u : Agent) (k s : ℕ) (b : List ℕ) → AtLeast (s * 32) (step P u (request (suc (suc k)) k s b))
  request_leaves u k s b =
      let d : suc (suc k) - suc k ≡ 1 = omega arith in
      let e : pad (suc (suc k) - suc k) s ≡ s * 32 = rw d refl in
      subst (λ x. AtLeast x (step P u (request (suc (suc k)) k s b))) e (on_request_at_least P u (suc (suc k)) k (pad (suc (suc k) - suc k) s) s b)
