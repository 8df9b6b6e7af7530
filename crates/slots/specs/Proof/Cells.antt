-- Cells with a message or none, as lists: what waits in them, what they hold once others are put in, and what they weigh. For packets and for the machine's messages alike.
-- By induction on the cells, and on what is put in. Assumes nothing.
use Rattle.std.specs.Prelude.{◌≡◌, ℕ, zero, suc, ◌+◌, ◌<◌, Bool, true, false, ◌≢◌, ◌⊎◌, List, [], ◌∷◌, ◌++◌, length, replicate, ◌==◌, slice_set}
use Rattle.std.proofs.Math.Path.{refl, sym, ap, subst}
use Rattle.std.proofs.Common.{◌∙◌, length-set, eqb-true}
use Rattle.std.proofs.Math.Logic.{inl, inr}
use Rattle.std.proofs.Math.Option.{Option, none, some, some-injective, some-ne-none}
use native.Mathlib.Omega.{arith}
use Rattle.std.proofs.Math.Seq.{get_or-set_same, get_or-set_other}
use Rattle.std.proofs.lemmas.Bool.{eqb-false}
use Rattle.base.specs.Members.{In, here, there, Every}
use Rattle.base.specs.Members.Laws.{in_right, not-in-nil, every_nil, every_append}
use Rattle.protocol.specs.Totals.{total, total_append}
use Rattle.slots.specs.Run.{at_cell, listed, waiting_in, lost_to, place, overwritten_by}

-- ---- what waits

module _ {A : Type 0} where
  pub at_waits : (l : List (Option A)) (d : ℕ) (x : A) → at_cell l d ≡ some x → In x (waiting_in l)
  unfolding waiting_in
  at_waits [] zero x e = absurd (some-ne-none x (sym e))
  at_waits [] (suc d) x e = absurd (some-ne-none x (sym e))
  at_waits (y ∷ l) zero x e = subst (λ o. In x (listed o ++ waiting_in l)) (sym e) (here refl)
  at_waits (y ∷ l) (suc d) x e = in_right (listed y) (at_waits l d x e)

  pub waits_at : (l : List (Option A)) (x : A) → In x (waiting_in l) → (d : ℕ) × (at_cell l d ≡ some x)
  unfolding waiting_in
  waits_at [] x i = absurd (not-in-nil i)
  waits_at (none ∷ l) x i = let q = waits_at l x i in (suc q.0, q.1)
  waits_at (some y ∷ l) x (here e) = (0, ap some (sym e))
  waits_at (some y ∷ l) x (there i) = let q = waits_at l x i in (suc q.0, q.1)

  pub none_at : (m d : ℕ) → at_cell {A = A} (replicate m none) d ≡ none
  none_at zero zero = refl
  none_at zero (suc d) = refl
  none_at (suc m) zero = refl
  none_at (suc m) (suc d) = none_at m d

  pub none_wait : (m : ℕ) → waiting_in {A = A} (replicate m none) ≡ []
  unfolding waiting_in
  none_wait zero = refl
  none_wait (suc m) = none_wait m

  -- ---- one cell changed

  pub cell_set : (l : List (Option A)) (d : ℕ) (y : Option A) (c : ℕ) → d < length l → ((c ≡ d) × (at_cell (slice_set l d y) c ≡ y)) ⊎ ((c ≢ d) × (at_cell (slice_set l d y) c ≡ at_cell l c))
  cell_set l d y c lt = go (c == d) refl
    where
      go : (t : Bool) → (c == d) ≡ t → ((c ≡ d) × (at_cell (slice_set l d y) c ≡ y)) ⊎ ((c ≢ d) × (at_cell (slice_set l d y) c ≡ at_cell l c))
      go true e = let q = eqb-true c d e in inl (q, subst (λ z. at_cell (slice_set l d y) z ≡ y) (sym q) (get_or-set_same l d y none lt))
      go false e = let q = eqb-false c d e in inr (q, get_or-set_other l d c y none q)

  -- what it holds in place of what it held
  set_weighs : (f : A → ℕ) (l : List (Option A)) (d : ℕ) (y : Option A) → d < length l
      → total f (waiting_in (slice_set l d y)) + total f (listed (at_cell l d)) ≡ total f (waiting_in l) + total f (listed y)
  unfolding waiting_in
  set_weighs f [] d y lt = absurd (omega (arith, lt))
  set_weighs f (x ∷ l) zero y lt = omega (arith, total_append f (listed x) (waiting_in l), total_append f (listed y) (waiting_in l))
  set_weighs f (x ∷ l) (suc d) y lt =
      omega (arith, set_weighs f l d y (omega (arith, lt)), total_append f (listed x) (waiting_in l), total_append f (listed x) (waiting_in (slice_set l d y)))

  -- the message of a cell taken out
  pub taken_weighs : (f : A → ℕ) (l : List (Option A)) (c : ℕ) (x : A) → c < length l → at_cell l c ≡ some x → total f (waiting_in (slice_set l c none)) + f x ≡ total f (waiting_in l)
  taken_weighs f l c x lt e = omega (arith, set_weighs f l c none lt, ap (λ o. total f (listed o)) e)

lost_weighs : {A : Type 0} (f : A → ℕ) (y : Option A) (x : A) → total (λ o. f o.older) (lost_to y x) ≡ total f (listed y)
lost_weighs f none x = refl
lost_weighs f (some y) x = refl

-- ---- others put in, each at a cell that there is

module _ {A : Type 0} (at : A → ℕ) where
  module _ (size : ℕ) where
    -- a cell that none goes to
    pub place_stays : (xs : List A) (l : List (Option A)) (c : ℕ) → Every (λ x. at x ≢ c) xs → at_cell (place at l xs) c ≡ at_cell l c
    unfolding place
    place_stays [] l c ne = refl
    place_stays (x ∷ xs) l c ne = place_stays xs (slice_set l (at x) (some x)) c (λ y i. ne y (there i)) ∙ get_or-set_other l (at x) c (some x) none (λ e. ne x (here refl) (sym e))

    -- what a cell holds was put in, at its own cell, or was there before
    pub place_from : (xs : List A) (l : List (Option A)) → length l ≡ size → Every (λ x. at x < size) xs → (c : ℕ) (y : A) → at_cell (place at l xs) c ≡ some y → (In y xs × (at y ≡ c)) ⊎ (at_cell l c ≡ some y)
    unfolding place
    place_from [] l s fit c y e = inr e
    place_from (x ∷ xs) l s fit c y e = go (place_from xs (slice_set l (at x) (some x)) (length-set l (at x) (some x) ∙ s) (λ z i. fit z (there i)) c y e)
      where
        first : ((c ≡ at x) × (at_cell (slice_set l (at x) (some x)) c ≡ some x)) ⊎ ((c ≢ at x) × (at_cell (slice_set l (at x) (some x)) c ≡ at_cell l c)) → at_cell (slice_set l (at x) (some x)) c ≡ some y
            → (In y (x ∷ xs) × (at y ≡ c)) ⊎ (at_cell l c ≡ some y)
        first (inl q) h = let z : x ≡ y = some-injective x y (sym q.1 ∙ h) in inl (here (sym z), ap at (sym z) ∙ sym q.0)
        first (inr q) h = inr (sym q.1 ∙ h)

        go : (In y xs × (at y ≡ c)) ⊎ (at_cell (slice_set l (at x) (some x)) c ≡ some y) → (In y (x ∷ xs) × (at y ≡ c)) ⊎ (at_cell l c ≡ some y)
        go (inl h) = inl (there h.0, h.1)
        go (inr h) = first (cell_set l (at x) (some x) c (subst (λ k. at x < k) (sym s) (fit x (here refl)))) h

    -- no two go to one cell
    abbrev pub Spread : List A → Type 0
    Spread [] = Unit {0}
    Spread (x ∷ xs) = Every (λ y. at y ≢ at x) xs × Spread xs

    -- then all of them wait
    pub place_waits : (xs : List A) (l : List (Option A)) → length l ≡ size → Every (λ x. at x < size) xs → Spread xs → Every (λ x. at_cell (place at l xs) (at x) ≡ some x) xs
    unfolding place
    place_waits [] l s fit h y i = absurd (not-in-nil i)
    place_waits (x ∷ xs) l s fit h y (here e) =
        subst (λ z. at_cell (place at (slice_set l (at x) (some x)) xs) (at z) ≡ some z) (sym e)
        (place_stays xs (slice_set l (at x) (some x)) (at x) h.0 ∙ get_or-set_same l (at x) (some x) none (subst (λ k. at x < k) (sym s) (fit x (here refl))))
    place_waits (x ∷ xs) l s fit h y (there i) = place_waits xs (slice_set l (at x) (some x)) (length-set l (at x) (some x) ∙ s) (λ z j. fit z (there j)) h.1 y i

    -- what waits and what was overwritten is what was there and what was put in
    pub place_weighs : (f : A → ℕ) (xs : List A) (l : List (Option A)) → length l ≡ size → Every (λ x. at x < size) xs
        → total f (waiting_in (place at l xs)) + total (λ o. f o.older) (overwritten_by at l xs) ≡ total f (waiting_in l) + total f xs
    unfolding place overwritten_by
    place_weighs f [] l s fit = omega arith
    place_weighs f (x ∷ xs) l s fit =
        omega (
          arith,
          place_weighs f xs (slice_set l (at x) (some x)) (length-set l (at x) (some x) ∙ s) (λ z i. fit z (there i)),
          set_weighs f l (at x) (some x) (subst (λ k. at x < k) (sym s) (fit x (here refl))),
          total_append (λ o. f o.older) (lost_to (at_cell l (at x)) x) (overwritten_by at (slice_set l (at x) (some x)) xs),
          lost_weighs f (at_cell l (at x)) x,
        )

    -- what is overwritten stood in the cell of what overwrites it
    pub overwritten_from : (xs : List A) (l : List (Option A)) → Spread xs → Every (λ o. In o.fresh xs × (at_cell l (at o.fresh) ≡ some o.older)) (overwritten_by at l xs)
    unfolding overwritten_by
    overwritten_from [] l h = every_nil _
    overwritten_from (x ∷ xs) l h =
        every_append _ (lost_to (at_cell l (at x)) x) (overwritten_by at (slice_set l (at x) (some x)) xs) (first (at_cell l (at x)) refl)
        (λ o i. let q = overwritten_from xs (slice_set l (at x) (some x)) h.1 o i in (there q.0, sym (get_or-set_other l (at x) (at o.fresh) (some x) none (h.0 o.fresh q.0)) ∙ q.1))
      where
        first : (y : Option A) → at_cell l (at x) ≡ y → Every (λ o. In o.fresh (x ∷ xs) × (at_cell l (at o.fresh) ≡ some o.older)) (lost_to y x)
        first none e o i = absurd (not-in-nil i)
        first (some y) e o (here q) = subst (λ z. In z.fresh (x ∷ xs) × (at_cell l (at z.fresh) ≡ some z.older)) (sym q) (here refl, e)
        first (some y) e o (there i) = absurd (not-in-nil i)
