-- A replay is the deliveries of its list, one after another, up to the first that is refused (`replayed`); a list that was cut gives the same in parts (`in_parts`); and on a shed that was
-- made it is a run of demand 3 (`recorded`). By induction on the list. Assumes nothing.
use Rattle.std.specs.Prelude.{◌≡◌, ℕ, zero, suc, ◌+◌, ◌*◌, ◌/◌, ◌%◌, ◌<◌, ◌≤◌, Bool, true, false, cond, ◌≢◌, ◌⊎◌, List, [], ◌∷◌, ◌++◌, length, take, drop, ◌==◌, slice_index}
use Rattle.std.proofs.Math.Path.{refl}
use Rattle.std.proofs.Common.{sym, ap, ◌∙◌, subst, inr, arith, length-append, eqb-true, eq-eqb, ne_eqb}
use Rattle.std.proofs.Math.Logic.{inl}
use Rattle.std.proofs.Math.ListN.{length-drop}
use Rattle.std.proofs.lemmas.Bool.{eqb-false}
use Rattle.base.specs.Bytes.{u16_at}
use Rattle.costs.specs.declared.ValueOrder.{ValueOrder}
use Rattle.runs.specs.declared.Core.{Core}
use Rattle.runs.specs.Deliveries.{deliver_all, accepted_in}
use Rattle.slots.specs.declared.Answer.{Answer}
use Rattle.slots.specs.Calls.{Result, refused_with, lent_refusal, deliver_of}
use Rattle.slots.specs.Demand3.{Shed, shed_of, shed_made, shed_after, refusal_at, run_bytes, Made, Served}
use Rattle.slots.specs.Settle.{settled}
use Rattle.slots.specs.Checks.{lent-refused, refused_as_lent}
use Rattle.slots.specs.Theorem.{served}
use Rattle.slots.specs.Replay.{cells_in, deliver_until, Paired, replay_of, Replayed, Parts}

-- ---- a list's cells

at_front : (list : List ℕ) (i : ℕ) → i < length list → drop i list ≡ slice_index list i ∷ drop (suc i) list
at_front [] i h = absurd (omega arith)
at_front (x ∷ list) zero h = refl
at_front (x ∷ list) (suc i) h = at_front list i (omega arith)

-- the first of those that are left
pub next_cell : (list : List ℕ) (i : ℕ) → i + 1 < length list → cells_in (drop i list) ≡ u16_at list i ∷ cells_in (drop (i + 2) list)
unfolding cells_in
next_cell list i h =
    let e : i + 1 ≡ suc i = omega arith in
    let f : i + 2 ≡ suc (suc i) = omega arith in
    rw (e, f) (ap cells_in (at_front list i (omega arith) ∙ ap (λ l. slice_index list i ∷ l) (at_front list (suc i) (omega arith))))

cells_cut : (first rest : List ℕ) → Paired first → cells_in (first ++ rest) ≡ cells_in first ++ cells_in rest
unfolding cells_in
cells_cut [] rest p = refl
cells_cut (low ∷ []) rest p = absurd (omega (arith, p))
cells_cut (low ∷ high ∷ list) rest p = ap (λ cs. u16_at (low ∷ high ∷ []) 0 ∷ cs) (cells_cut list rest (omega (arith, p)))

-- ---- deliveries up to the first refusal

module _ (order : ValueOrder) (s : List ℕ) where
  abbrev until : Shed → List ℕ → Result
  until S cs = deliver_until order s S cs

  -- the first cell of some, accepted or refused
  pub until-next : (S : Shed) (c : ℕ) (cs : List ℕ) → refusal_at order s S c ≡ 0 → deliver_until order s S (c ∷ cs) ≡ deliver_until order s (shed_after order s S c) cs
  unfolding deliver_until
  until-next S c cs e = rw (eq-eqb (refusal_at order s S c) 0 e)

  pub until-refused : (S : Shed) (c : ℕ) (cs : List ℕ) → refusal_at order s S c ≢ 0 → deliver_until order s S (c ∷ cs) ≡ deliver_of order S.core s S.pool c
  unfolding deliver_until
  until-refused S c cs e = rw (ne_eqb (refusal_at order s S c) 0 e)

  until-cut : (S : Shed) (cs ds : List ℕ) → (until S cs).answer.refusal ≡ 0 → until S (cs ++ ds) ≡ until (shed_of (until S cs)) ds
  unfolding deliver_until
  until-cut S [] ds e = refl
  until-cut S (c ∷ cs) ds e = go (until-cut (shed_after order s S c) cs ds) (refusal_at order s S c == 0) refl e
    where
      go : ((until (shed_after order s S c) cs).answer.refusal ≡ 0 → until (shed_after order s S c) (cs ++ ds) ≡ until (shed_of (until (shed_after order s S c) cs)) ds) → (t : Bool) → (refusal_at order s S c == 0) ≡ t
          → (cond t (until (shed_after order s S c) cs) (deliver_of order S.core s S.pool c)).answer.refusal ≡ 0
          → cond t (until (shed_after order s S c) (cs ++ ds)) (deliver_of order S.core s S.pool c) ≡ until (shed_of (cond t (until (shed_after order s S c) cs) (deliver_of order S.core s S.pool c))) ds
      go rest true q z = rest z
      go rest false q z = absurd (eqb-false (refusal_at order s S c) 0 q z)

  until_replayed : (S : Shed) (cs : List ℕ) → Replayed order s S cs (until S cs)
  unfolding deliver_until deliver_all accepted_in
  until_replayed S [] = record { before = 0; stands = refl; accepted = refl; ends = inl (refl, refl) }
  until_replayed S (c ∷ cs) = go (until_replayed (shed_after order s S c) cs) (refusal_at order s S c == 0) refl
    where
      given : Result
      given = deliver_of order S.core s S.pool c

      more : (q : Replayed order s (shed_after order s S c) cs (until (shed_after order s S c) cs)) → refusal_at order s S c ≡ 0 → Replayed order s S (c ∷ cs) (until (shed_after order s S c) cs)
      more q e =
          record {
            before = suc q.before;
            stands = q.stands;
            accepted = omega (arith, q.accepted, ap (λ t. cond {A = ℕ} t 1 0) (eq-eqb (refusal_at order s S c) 0 e));
            ends = one_more q.ends;
          }
        where
          one_more : ((q.before ≡ length cs) × ((until (shed_after order s S c) cs).answer.refusal ≡ 0))
              ⊎ ((q.before < length cs) × ((until (shed_after order s S c) cs).answer.refusal ≡ refusal_at order s (shed_of (until (shed_after order s S c) cs)) (slice_index cs q.before)) × ((until (shed_after order s S c) cs).answer.refusal ≢ 0))
              → ((suc q.before ≡ length (c ∷ cs)) × ((until (shed_after order s S c) cs).answer.refusal ≡ 0))
              ⊎ ((suc q.before < length (c ∷ cs)) × ((until (shed_after order s S c) cs).answer.refusal ≡ refusal_at order s (shed_of (until (shed_after order s S c) cs)) (slice_index (c ∷ cs) (suc q.before))) × ((until (shed_after order s S c) cs).answer.refusal ≢ 0))
          one_more (inl h) = inl (ap suc h.0, h.1)
          one_more (inr h) = inr (omega (arith, h.0), h.1, h.2)

      ended : refusal_at order s S c ≢ 0 → Replayed order s S (c ∷ cs) given
      ended ne =
          let lent : shed_of given ≡ S = ap shed_of (refused_as_lent order S.core s S.pool c ne) in
          record { before = 0; stands = lent; accepted = refl; ends = inr (omega arith, ap (λ (T : Shed). refusal_at order s T c) (sym lent), ne) }

      go : Replayed order s (shed_after order s S c) cs (until (shed_after order s S c) cs) → (t : Bool) → (refusal_at order s S c == 0) ≡ t → Replayed order s S (c ∷ cs) (cond t (until (shed_after order s S c) cs) given)
      go rest true q = more rest (eqb-true (refusal_at order s S c) 0 q)
      go rest false q = ended (eqb-false (refusal_at order s S c) 0 q)

-- ---- the call

module _ (order : ValueOrder) (core : Core) (s pool : List ℕ) where
  pub replay_odd : (list : List ℕ) → length list % 2 ≢ 0 → replay_of order core s pool list ≡ refused_with core pool 22
  unfolding replay_of
  replay_odd list e = rw (ne_eqb (length list % 2) 0 e)

  pub replay_paired : (list : List ℕ) → Paired list → replay_of order core s pool list ≡ deliver_until order s (record { core = core; pool = pool }) (cells_in list)
  unfolding replay_of
  replay_paired list e = rw (eq-eqb (length list % 2) 0 e)

  -- 02: "an empty one is never refused"
  pub replay_empty : replay_of order core s pool [] ≡ settled (record { core = core; pool = pool })
  unfolding replay_of deliver_until cells_in
  replay_empty = refl

  pub replay_none : (list : List ℕ) → length list ≡ 0 → replay_of order core s pool list ≡ settled (record { core = core; pool = pool })
  replay_none [] e = replay_empty
  replay_none (x ∷ list) e = absurd (omega arith)

  pub replayed : (list : List ℕ) → Paired list → Replayed order s (record { core = core; pool = pool }) (cells_in list) (replay_of order core s pool list)
  replayed list e = subst (Replayed order s (record { core = core; pool = pool }) (cells_in list)) (sym (replay_paired list e)) (until_replayed order s (record { core = core; pool = pool }) (cells_in list))

-- 02: "a list cut between two pairs"
pub in_parts : (order : ValueOrder) (core : Core) (s pool first rest : List ℕ) → Paired first → Paired rest → Parts order core s pool first rest
in_parts order core s pool first rest p q z =
    let S : Shed = record { core = core; pool = pool } in
    let r = replay_of order core s pool first in
    let whole : Paired (first ++ rest) = omega (arith, p, q, length-append first rest) in
    replay_paired order core s pool (first ++ rest) whole ∙ ap (deliver_until order s S) (cells_cut first rest p)
    ∙ until-cut order s S (cells_in first) (cells_in rest) (ap (λ (x : Result). x.answer.refusal) (sym (replay_paired order core s pool first p)) ∙ z)
    ∙ ap (λ (x : Result). deliver_until order s (shed_of x) (cells_in rest)) (sym (replay_paired order core s pool first p)) ∙ sym (replay_paired order r.answer.core s r.pool rest q)

-- ---- a shed that was made

-- The replay is a run, of as many of the list's cells as were accepted, and demand 3 holds of it.
pub recorded : (order : ValueOrder) (s pool : List ℕ) → Made order s pool → (list : List ℕ) → Paired list
    → (k : ℕ) × (shed_of (replay_of order (shed_made order s pool).core s (shed_made order s pool).pool list) ≡ run_bytes order s pool (take k (cells_in list))) × Served order s pool (take k (cells_in list))
unfolding run_bytes
recorded order s pool made list e =
    let q = replayed order (shed_made order s pool).core s (shed_made order s pool).pool list e in (q.before, q.stands, served order s pool made (take q.before (cells_in list)))

-- ---- the turns of the loop that does it

no_cells : (list : List ℕ) → length list < 2 → cells_in list ≡ []
unfolding cells_in
no_cells [] h = refl
no_cells (low ∷ []) h = refl
no_cells (low ∷ high ∷ list) h = absurd (omega arith)

-- after k pairs of the list, from S₀ on, the shed is S
module _ (order : ValueOrder) (s list : List ℕ) (S₀ S : Shed) (k : ℕ) (inv : deliver_until order s S₀ (cells_in list) ≡ deliver_until order s S (cells_in (drop (2 * k) list))) where
  -- no pair is left
  pub replay_end : length list / 2 ≤ k → (record { refusal = 0; core = S.core } ≡ (deliver_until order s S₀ (cells_in list)).answer) × (S.pool ≡ (deliver_until order s S₀ (cells_in list)).pool)
  unfolding deliver_until
  replay_end h = let e : cells_in (drop (2 * k) list) ≡ [] = no_cells (drop (2 * k) list) (omega (arith, h, length-drop (2 * k) list)) in rw (inv, e) (refl, refl)

  -- the delivery of the next gave d, and left the pool m
  module _ (h : k < length list / 2) (c : ℕ) (is : c ≡ u16_at list (2 * k)) (d : Answer) (m : List ℕ) (f : (d ≡ (deliver_of order S.core s S.pool c).answer) × (m ≡ (deliver_of order S.core s S.pool c).pool)) where
    next_is : deliver_until order s S₀ (cells_in list) ≡ deliver_until order s S (c ∷ cells_in (drop (2 * k + 2) list))
    next_is = inv ∙ ap (deliver_until order s S) (next_cell list (2 * k) (omega arith) ∙ ap (λ x. x ∷ cells_in (drop (2 * k + 2) list)) (sym is))

    number : d.refusal ≡ refusal_at order s S c
    number = ap (λ (x : Answer). x.refusal) f.0

    pub replay_refused : (d.refusal ≢ 0) → (d ≡ (deliver_until order s S₀ (cells_in list)).answer) × (m ≡ (deliver_until order s S₀ (cells_in list)).pool)
    replay_refused ne =
        let e = next_is ∙ until-refused order s S c (cells_in (drop (2 * k + 2) list)) (λ z. ne (number ∙ z)) in
        (f.0 ∙ ap (λ (x : Result). x.answer) (sym e), f.1 ∙ ap (λ (x : Result). x.pool) (sym e))

    pub replay_next : d.refusal ≡ 0 → deliver_until order s S₀ (cells_in list) ≡ deliver_until order s (record { core = d.core; pool = m }) (cells_in (drop (2 * (k + 1)) list))
    replay_next z =
        let left : ◌≡◌ {A = Shed} (shed_after order s S c) (record { core = d.core; pool = m }) = λ i. record { core = (sym f.0 i).core; pool = sym f.1 i } in
        let e : 2 * k + 2 ≡ 2 * (k + 1) = omega arith in
        next_is ∙ until-next order s S c (cells_in (drop (2 * k + 2) list)) (sym number ∙ z) ∙ ap (λ (T : Shed). deliver_until order s T (cells_in (drop (2 * k + 2) list))) left
        ∙ ap (λ i. deliver_until order s (record { core = d.core; pool = m }) (cells_in (drop i list))) e

-- what is lent doesn't pass: the first delivery is refused, and there is one
pub replay_lent : (order : ValueOrder) (core : Core) (s pool list : List ℕ) → Paired list → (length list ≢ 0) → (r : ℕ) → r ≡ lent_refusal order core s pool → (r ≢ 0)
    → (record { refusal = r; core = core } ≡ (replay_of order core s pool list).answer) × (pool ≡ (replay_of order core s pool list).pool)
replay_lent order core s pool list p full zero e ne = absurd (ne refl)
replay_lent order core s pool list p full (suc r) e ne =
    let S : Shed = record { core = core; pool = pool } in
    let c = u16_at list 0 in
    let q : deliver_of order core s pool c ≡ refused_with core pool (suc r) = lent-refused order core s pool c r e in
    let w = replay_paired order core s pool list p ∙ ap (deliver_until order s S) (next_cell list 0 (omega arith))
    ∙ until-refused order s S c (cells_in (drop 2 list)) (λ z. omega (arith, z, ap (λ (x : Result). x.answer.refusal) q)) ∙ q in rw w (refl, refl)
