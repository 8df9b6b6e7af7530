-- One best for each bound: of any two pairs of bound and best, in units or in messages that wait, with equal bounds the bests are equal.
-- Only unit n makes new pairs, each with a bound below its own, which is at most every bound there is; all others are copies.
--
-- In order: the pairs there are (`Seen`); `OneBest`; one unit's step; a message that is accepted; making.
-- Assumes nothing.
use Rattle.std.specs.Prelude.{ℕ, suc, ◌≤◌, ◌<◌, pred, ◌≡◌, ◌⊎◌, List, [], ◌++◌}
use Rattle.std.proofs.Common.{sym, ap, ◌∙◌, subst, inl, inr, arith}
use Rattle.base.specs.Members.{In, Every}
use Rattle.base.specs.Members.Laws.{not-in-nil, in_append}
use Rattle.protocol.specs.Problem.{Problem, Laws, NONE, valid_le_none}
use Rattle.protocol.specs.Machine.{Msg, to, Agent, fresh, Result, refused, done, assign, step, Network, put, made, make}
use Rattle.protocol.specs.Safety.Network.{SafeNetwork}
use Rattle.protocol.proofs.Safety.Network.{put_all, put_at}
use Rattle.protocol.specs.Safety.Run.{Among}
use Rattle.protocol.proofs.Liveness.Effect.{to<n}
use Rattle.protocol.specs.Best.Told.{Carries, Has, Tells, Told, StepTells, StepTold}
use Rattle.protocol.proofs.Best.Told.{tells_falls, assign-told, step-told}
use Rattle.protocol.specs.Best.Pairs.{Known, OneBest, PairStep, Seen}

-- where fewer messages wait
module _ (P : Problem) (S : Network) (new : List Msg) (fewer : Every (λ x. In x S.pool) new) where
  pub seen_fewer : (B : ℕ) (l : List ℕ) → Seen P (record { units = S.units; pool = new; accepted = S.accepted }) B l → Seen P S B l
  seen_fewer B l (inl q) = inl q
  seen_fewer B l (inr q) = inr (q.0, fewer q.0 q.1, q.2)

  pub pairs_fewer : OneBest P S → OneBest P (record { units = S.units; pool = new; accepted = S.accepted })
  pairs_fewer g = record { one = λ B l l' s s'. g.one B l l' (seen_fewer B l s) (seen_fewer B l' s'); last = λ B l s. g.last B l (seen_fewer B l s) }

module _ (P : Problem) (S : Network) (k : ℕ) (u : Agent) (ms : List Msg) (t : PairStep P S k u ms) (rest : List Msg) (still : (x : Msg) → In x rest → In x S.pool) (count : ℕ) where
  abbrev S' : Network
  S' = record { units = put S.units k u; pool = rest ++ ms; accepted = count }

  pub last_falls : (S'.units (pred P.n)).bound ≤ (S.units (pred P.n)).bound
  last_falls = put_all S.units k u (λ i x. x.bound ≤ (S.units i).bound) t.falls (λ i ne. omega arith) (pred P.n)

  pub old_or_new : (B : ℕ) (l : List ℕ) → Seen P S' B l → Seen P S B l ⊎ Has u B l
  old_or_new B l (inl q) =
      put_all S.units k u (λ i x. i < P.n → Has x B l → Seen P S B l ⊎ Has u B l) (λ lt h. inr h) (λ i ne lt h. inl (inl (i, lt, h))) q.0 q.1 q.2
  old_or_new B l (inr q) = go (in_append rest ms q.1)
    where
      go : In q.0 rest ⊎ In q.0 ms → Seen P S B l ⊎ Has u B l
      go (inl i) = inl (inr (q.0, still q.0 i, q.2))
      go (inr i) = inr (t.copies q.0 i B l q.2)

  put-pairs : OneBest P S → OneBest P S'
  put-pairs g =
      record {
        one = λ B l l' s s'. two B l l' (old_or_new B l s) (old_or_new B l' s');
        last = λ B l s. under B l (old_or_new B l s) t.known;
      }
    where
      mixed : (B : ℕ) (l : List ℕ) → Seen P S B l → B ≡ u.bound → Known P S k u → l ≡ u.best
      mixed B l s e (inl q) = g.one u.bound l u.best (subst (λ x. Seen P S x l) e s) q
      mixed B l s e (inr q) =
          let i : pred P.n ≡ k = omega (arith, q.0) in
          absurd (omega (arith, g.last B l s, ap (λ j. (S.units j).bound) i, q.1, e))

      two : (B : ℕ) (l l' : List ℕ) → Seen P S B l ⊎ Has u B l → Seen P S B l' ⊎ Has u B l' → l ≡ l'
      two B l l' (inl s) (inl s') = g.one B l l' s s'
      two B l l' (inl s) (inr h) = mixed B l s h.0 t.known ∙ sym h.1
      two B l l' (inr h) (inl s) = h.1 ∙ sym (mixed B l' s h.0 t.known)
      two B l l' (inr h) (inr h') = h.1 ∙ sym h'.1

      under : (B : ℕ) (l : List ℕ) → Seen P S B l ⊎ Has u B l → Known P S k u → (S'.units (pred P.n)).bound ≤ B
      under B l (inl s) kn = omega (arith, last_falls, g.last B l s)
      under B l (inr h) (inl q) = omega (arith, last_falls, g.last u.bound u.best q, h.0)
      under B l (inr h) (inr q) =
          let i : pred P.n ≡ k = omega (arith, q.0) in
          omega (arith, h.0, ap (λ j. (S'.units j).bound) i, ap (λ x. x.bound) (put_at S.units k u))

-- ---- a message that is accepted

module _ (P : Problem) (laws : Laws P) where
  pub accept_steps : (S : Network) → SafeNetwork P S → (m : Msg) → In m S.pool → (u : Agent) (ms : List Msg) → step P (S.units (to m)) m ≡ done u ms → PairStep P S (to m) u ms
  accept_steps S r m i u ms d = record { lt = lt; known = known t.source; falls = t.falls; copies = t.copies }
    where
      lt : to m < P.n
      lt = to<n P laws S.units r.safe m (r.msgs m i)

      t : StepTells P (S.units (to m)) m u ms
      t = subst (StepTold P (S.units (to m)) m) d (step-told P laws (S.units (to m)) (valid_le_none P (S.units (to m)).best (r.safe (to m) lt).valid) m)

      known : (Has (S.units (to m)) u.bound u.best ⊎ Carries m u.bound u.best) ⊎ ((suc (to m) ≡ P.n) × (u.bound < (S.units (to m)).bound)) → Known P S (to m) u
      known (inl (inl q)) = inl (inl (to m, lt, q))
      known (inl (inr q)) = inl (inr (m, i, q))
      known (inr q) = inr q

  pub accept_pairs : (S : Network) → SafeNetwork P S → OneBest P S → (m : Msg) (rest : List Msg) → Among S.pool m rest → (u : Agent) (ms : List Msg)
      → step P (S.units (to m)) m ≡ done u ms → OneBest P (record { units = put S.units (to m) u; pool = rest ++ ms; accepted = suc S.accepted })
  accept_pairs S r g m rest w u ms d = put-pairs P S (to m) u ms (accept_steps S r m w.waits u ms d) rest w.still (suc S.accepted) g

  -- ---- making: before it all pairs are none

  pub make-steps : 0 < P.n → (u : Agent) (ms : List Msg) → Tells P 0 NONE [] u ms → PairStep P (made refused) 0 u ms
  make-steps n1 u ms t = record { lt = n1; known = known t.pair; falls = tells_falls P 0 NONE [] u ms t; copies = t.copies }
    where
      known : ((u.bound ≡ NONE) × (u.best ≡ [])) ⊎ ((◌≡◌ {A = ℕ} 1 P.n) × (u.bound < NONE)) → Known P (made refused) 0 u
      known (inl q) = inl (inl (0, n1, q))
      known (inr q) = inr q

  start-pairs : OneBest P (made refused)
  start-pairs = record { one = λ B l l' s s'. empty B l s ∙ sym (empty B l' s'); last = λ B l s. none B l s }
    where
      empty : (B : ℕ) (l : List ℕ) → Seen P (made refused) B l → l ≡ []
      empty B l (inl q) = q.2.1
      empty B l (inr q) = absurd (not-in-nil q.1)

      none : (B : ℕ) (l : List ℕ) → Seen P (made refused) B l → NONE ≤ B
      none B l (inl q) = omega (arith, q.2.0)
      none B l (inr q) = absurd (not-in-nil q.1)

  pub make-pairs : 0 < P.n → OneBest P (make P)
  make-pairs n1 = go (assign P 0 fresh) (assign-told P laws 0 fresh (omega arith))
    where
      go : (r : Result) → Told P 0 NONE [] r → OneBest P (made r)
      go refused t = start-pairs
      go (done u ms) t = put-pairs P (made refused) 0 u ms (make-steps n1 u ms t) [] (λ x i. i) 0 start-pairs
