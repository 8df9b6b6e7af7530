-- The records of a run stand on the machine's logs, and no prefix is among them twice: a unit's log rises in the rank of its
-- prefixes, so what a step adds to it comes after all that was there (`written_apart`). The machine's prefixes are places, the records' are values:
-- those that read alike are one (`same_places`), as what is on a log is in its domains.
-- Assumes nothing.
use Rattle.std.specs.Prelude.{ℕ, ◌<◌, ◌≡◌, refl, ◌⊎◌, List, [], ◌∷◌, ◌++◌, reverse, length}
use Rattle.std.proofs.Common.{sym, ap, ◌∙◌, subst, inl, inr, append_assoc, arith, length-append}
use Rattle.std.proofs.lemmas.List.{reverse-reverse}
use Rattle.base.specs.Members.{In, here, there, Every}
use Rattle.base.specs.Members.Laws.{in-cases, in_append, in_left, in_right, not-in-nil}
use Rattle.costs.specs.declared.ValueOrder.{ValueOrder}
use Rattle.costs.specs.Instance.{Instance}
use Rattle.costs.specs.Laws.Tried.{values_at, problem_by, values_differ}
use Rattle.rules.specs.Step.{Written}
use Rattle.rules.specs.Units.{SamePrefix, Distinct}
use Rattle.protocol.specs.Problem.{Problem, InDomains}
use Rattle.protocol.specs.Machine.{Record, values_of, Agent}
use Rattle.protocol.specs.Safety.Facts.{History, Before, Sorted, sorted_valid, rank}
use Rattle.protocol.specs.Simulation.Relations.{RecordIs, Grown}

pub distinct_append : (a b : List Written) → Distinct a → Distinct b → ((x y : Written) → In x a → In y b → SamePrefix x y → ⊥) → Distinct (a ++ b)
distinct_append [] b h g f = g
distinct_append (x ∷ a) b h g f = ((λ y i s. go y s (in_append a b i)), distinct_append a b h.1 g (λ z y i j. f z y (there i) j))
  where
    go : (y : Written) → SamePrefix x y → In y a ⊎ In y b → ⊥
    go y s (inl i) = h.0 y i s
    go y s (inr j) = f x y (here refl) j s

-- what a log has grown by
pub record New (order : ValueOrder) (I : Instance) (k : ℕ) (L : List Record) (ws : List Written) (L' : List Record) : Type 0 where
  pub records : List Record
  pub log : L' ≡ records ++ L
  pub many : length records ≡ length ws
  pub each : (w : Written) → In w ws → (q : Record) × In q records × RecordIs order I k w q

pub grown_new : (order : ValueOrder) (I : Instance) (k : ℕ) (L : List Record) (ws : List Written) (L' : List Record) → Grown order I k L ws L' → New order I k L ws L'
grown_new order I k L [] L' e = record { records = []; log = e; many = refl; each = λ w i. absurd (not-in-nil i) }
grown_new order I k L (r ∷ ws) L' g = one_more g.0 g.1 (grown_new order I k (g.0 ∷ L) ws L' g.2)
  where
    one_more : (q : Record) → RecordIs order I k r q → New order I k (q ∷ L) ws L' → New order I k L (r ∷ ws) L'
    one_more q is n =
        record {
          records = n.records ++ (q ∷ []);
          log = n.log ∙ sym (append_assoc n.records (q ∷ []) L);
          many = omega (arith, length-append n.records (q ∷ []), n.many);
          each = λ w i. go w (in-cases i);
        }
      where
        go : (w : Written) → (w ≡ r) ⊎ In w ws → (x : Record) × In x (n.records ++ (q ∷ [])) × RecordIs order I k w x
        go w (inl e) = (q, in_right n.records (here refl), subst (λ z. RecordIs order I k z q) (sym e) is)
        go w (inr j) = let x = n.each w j in (x.0, in_left (q ∷ []) x.1, x.2)

-- records of the same values are of the same places
same_places : (order : ValueOrder) (I : Instance) (k j : ℕ) (w v : Written) (q p : Record) → RecordIs order I k w q → RecordIs order I j v p
    → InDomains (problem_by order I) (values_of q) → InDomains (problem_by order I) (values_of p) → w.values ≡ v.values → values_of q ≡ values_of p
same_places order I k j w v q p a b d c e =
    values_differ order I (values_of q) (values_of p) d c
    (sym (reverse-reverse (values_at order I (values_of q))) ∙ ap reverse (sym a.1 ∙ e ∙ b.1) ∙ reverse-reverse (values_at order I (values_of p)))

module _ (P : Problem) where
  -- the places on a sorted log are in their domains
  on_log_domains : (k : ℕ) (Past : History) (X : ℕ) → Before P k Past X → (L : List Record) → Sorted P k Past L → (r : Record) → In r L → InDomains P (values_of r)
  on_log_domains k Past X bf L so r i =
      let v = sorted_valid P k Past L so r i in
      (omega (arith, v.1, v.2), rw (bf.len _ _ v.0) v.3, bf.domains _ _ v.0)

  -- of a sorted log, what is new comes after what is old
  sorted_apart : (k : ℕ) (Past : History) (new old : List Record) → Sorted P k Past (new ++ old) → (q r : Record) → In q new → In r old → rank P (values_of r) < rank P (values_of q)
  sorted_apart k Past [] old h q r i j = absurd (not-in-nil i)
  sorted_apart k Past (x ∷ new) old h q r i j = go (in-cases i) (λ l. sorted_apart k Past new old h.2 q r l j)
    where
      go : (q ≡ x) ⊎ In q new → (In q new → rank P (values_of r) < rank P (values_of q)) → rank P (values_of r) < rank P (values_of q)
      go (inl e) f = omega (arith, (h.1 r (in_right new j)).1, ap (λ z. rank P (values_of z)) e)
      go (inr l) f = f l

module _ (order : ValueOrder) (I : Instance) where
  abbrev P : Problem
  P = problem_by order I

  -- what one step writes
  pub grown_distinct : (k : ℕ) (Past : History) (X : ℕ) → Before P k Past X → (L : List Record) (ws : List Written) (L' : List Record) → Sorted P k Past L' → Grown order I k L ws L' → Distinct ws
  grown_distinct k Past X bf L [] L' so g = tt
  grown_distinct k Past X bf L (r ∷ ws) L' so g = (apart, grown_distinct k Past X bf (g.0 ∷ L) ws L' so g.2)
    where
      n : New order I k (g.0 ∷ L) ws L'
      n = grown_new order I k (g.0 ∷ L) ws L' g.2

      apart : (w : Written) → In w ws → SamePrefix r w → ⊥
      apart w i s =
          let x = n.each w i in
          let whole : Sorted P k Past (n.records ++ (g.0 ∷ L)) = subst (Sorted P k Past) n.log so in
          let lt = sorted_apart P k Past n.records (g.0 ∷ L) whole x.0 g.0 x.1 (here refl) in
          let old = on_log_domains P k Past X bf (n.records ++ (g.0 ∷ L)) whole g.0 (in_right n.records (here refl)) in
          let new = on_log_domains P k Past X bf (n.records ++ (g.0 ∷ L)) whole x.0 (in_left (g.0 ∷ L) x.1) in
          absurd (omega (arith, lt, ap (rank P) (same_places order I k k r w g.0 x.0 g.1 x.2 old new s.1)))

  -- every record stands on the log of its unit
  abbrev pub OnLogs : (ℕ → Agent) → Written → Type 0
  OnLogs us w = (k : ℕ) × (k < I.n) × ((q : Record) × In q (us k).log × RecordIs order I k w q)

  -- what one step writes is apart from all that was written before
  pub written_apart : (us : ℕ → Agent) (k : ℕ) (Past : History) (X : ℕ) → Before P k Past X → (ws : List Written) (L' : List Record) → Sorted P k Past L' → Grown order I k (us k).log ws L'
      → (W : List Written) → Every (OnLogs us) W → (x y : Written) → In x W → In y ws → SamePrefix x y → ⊥
  written_apart us k Past X bf ws L' so g W on x y i j s =
      let o = on x i in
      let n = grown_new order I k (us k).log ws L' g in
      let z = n.each y j in
      let e : o.0 ≡ k = omega (arith, o.2.2.0, s.0, z.2.0) in
      let old : In o.2.0 (us k).log = subst (λ m. In o.2.0 (us m).log) e o.2.1 in
      let whole : Sorted P k Past (n.records ++ (us k).log) = subst (Sorted P k Past) n.log so in
      let lt = sorted_apart P k Past n.records (us k).log whole z.0 o.2.0 z.1 old in
      let was = on_log_domains P k Past X bf (n.records ++ (us k).log) whole o.2.0 (in_right n.records old) in
      let new = on_log_domains P k Past X bf (n.records ++ (us k).log) whole z.0 (in_left (us k).log z.1) in
      absurd (omega (arith, lt, ap (rank P) (same_places order I o.0 k x y o.2.0 z.0 o.2.2 z.2 was new s.1)))
