-- A total as a sum of terms, one for each unit and one for each pair: parts of it taken out, so that terms can change together and the sum stays.
-- By induction on the number of terms. Assumes nothing.
use Rattle.std.specs.Prelude.{ℕ, zero, suc, ◌<◌, ◌≡◌, refl, Bool, true, false, cond, eqb, Some}
use Rattle.std.proofs.Common.{sym, ap, ◌∙◌, arith, ne_eqb, eqb-true}
use Rattle.std.proofs.lemmas.Bool.{eqb-false}
use Rattle.costs.specs.Cost.{Cost, ◌⊕◌, sum_to}
use Rattle.costs.specs.Cost.Laws.{add_assoc, add_comm, add_zero, add_pairs, sum_to_cong}

-- ---- one term taken out

abbrev without : ℕ → (ℕ → Cost) → ℕ → Cost
without k f j = cond (eqb j k) (Some 0) (f j)

without_other : (k : ℕ) (f : ℕ → Cost) (j : ℕ) → (j ≡ k → ⊥) → without k f j ≡ f j
without_other k f j h = rw (ne_eqb j k h)

sum_without : (f : ℕ → Cost) (k m : ℕ) → k < m → sum_to f m ≡ f k ⊕ sum_to (without k f) m
sum_without f k zero h = absurd (omega arith)
sum_without f k (suc m) h = go (eqb m k) refl (λ l. sum_without f k m l)
  where
    go : (t : Bool) → eqb m k ≡ t → (k < m → sum_to f m ≡ f k ⊕ sum_to (without k f) m) → sum_to f (suc m) ≡ f k ⊕ sum_to (without k f) (suc m)
    go true e ih =
        let q : m ≡ k = eqb-true m k e in
        let same : sum_to (without k f) m ≡ sum_to f m = sum_to_cong (without k f) f m (λ j l. without_other k f j (λ p. omega arith)) in
        rw (e, same, add_zero (sum_to f m), q) (add_comm (sum_to f k) (f k))
    go false e ih =
        let ne : m ≡ k → ⊥ = eqb-false m k e in
        rw (e, ih (omega arith)) (add_assoc (f k) (sum_to (without k f) m) (f m))

-- the rest, where two sums differ in that term alone
without_same : (f g : ℕ → Cost) (k m : ℕ) → ((j : ℕ) → j < m → (j ≡ k → ⊥) → f j ≡ g j) → sum_to (without k f) m ≡ sum_to (without k g) m
without_same f g k m e = sum_to_cong (without k f) (without k g) m (λ j l. go j l (eqb j k) refl)
  where
    go : (j : ℕ) → j < m → (t : Bool) → eqb j k ≡ t → without k f j ≡ without k g j
    go j l true q = rw q
    go j l false q = rw q (e j l (eqb-false j k q))

-- two sums of as many terms
sum_both : (f g : ℕ → Cost) (m : ℕ) → sum_to (λ k. f k ⊕ g k) m ≡ sum_to f m ⊕ sum_to g m
sum_both f g zero = refl
sum_both f g (suc m) = rw (sum_both f g m) (add_pairs (sum_to f m) (sum_to g m) (f m) (g m))

-- ---- a total by its terms

abbrev pub sum_terms : (ℕ → Cost) → (ℕ → ℕ → Cost) → ℕ → Cost
sum_terms own pair n = sum_to (λ k. own k ⊕ sum_to (λ a. pair a k) k) n

abbrev pairs_of : (ℕ → ℕ → Cost) → ℕ → Cost
pairs_of pair k = sum_to (λ a. pair a k) k

-- unit i's own term stands in front
own_out : (own : ℕ → Cost) (pair : ℕ → ℕ → Cost) (n i : ℕ) → i < n → sum_terms own pair n ≡ own i ⊕ (sum_to (without i own) n ⊕ sum_to (pairs_of pair) n)
own_out own pair n i h = sum_both own (pairs_of pair) n ∙ rw (sum_without own i n h) (add_assoc (own i) (sum_to (without i own) n) (sum_to (pairs_of pair) n))

pairs_same : (pair other : ℕ → ℕ → Cost) (k : ℕ) → ((a : ℕ) → a < k → pair a k ≡ other a k) → pairs_of pair k ≡ pairs_of other k
pairs_same pair other k e = sum_to_cong (λ a. pair a k) (λ a. other a k) k e

-- a term that stands for another's share: own terms but one are the same, and all pairs'
pub own_changed : (own own' : ℕ → Cost) (pair pair' : ℕ → ℕ → Cost) (n i : ℕ) (x y : Cost) → i < n
    → ((k : ℕ) → k < n → (k ≡ i → ⊥) → own k ≡ own' k) → ((a k : ℕ) → a < k → k < n → pair a k ≡ pair' a k) → x ⊕ own i ≡ y ⊕ own' i
    → x ⊕ sum_terms own pair n ≡ y ⊕ sum_terms own' pair' n
own_changed own own' pair pair' n i x y h e f s =
    let U : sum_to (without i own) n ≡ sum_to (without i own') n = without_same own own' i n e in
    let P : sum_to (pairs_of pair) n ≡ sum_to (pairs_of pair') n = sum_to_cong (pairs_of pair) (pairs_of pair') n (λ k l. pairs_same pair pair' k (λ a q. f a k q l)) in
    let rest : Cost = sum_to (without i own') n ⊕ sum_to (pairs_of pair') n in
    rw (own_out own pair n i h, own_out own' pair' n i h, U, P) (sym (add_assoc x (own i) rest) ∙ ap (λ (z : Cost). z ⊕ rest) s ∙ add_assoc y (own' i) rest)

-- a pair's term stands in front of the pairs
pair_out : (pair : ℕ → ℕ → Cost) (n lo hi : ℕ) → lo < hi → hi < n
    → sum_to (pairs_of pair) n ≡ pair lo hi ⊕ (sum_to (without lo (λ a. pair a hi)) hi ⊕ sum_to (without hi (pairs_of pair)) n)
pair_out pair n lo hi l h =
    sum_without (pairs_of pair) hi n h
    ∙ ap (λ (z : Cost). z ⊕ sum_to (without hi (pairs_of pair)) n) (sum_without (λ a. pair a hi) lo hi l)
    ∙ add_assoc (pair lo hi) (sum_to (without lo (λ a. pair a hi)) hi) (sum_to (without hi (pairs_of pair)) n)

-- one unit's own term and one pair's change, and their sum stays: so does the total
pub both_changed : (own own' : ℕ → Cost) (pair pair' : ℕ → ℕ → Cost) (n i lo hi : ℕ) → i < n → lo < hi → hi < n
    → ((k : ℕ) → k < n → (k ≡ i → ⊥) → own k ≡ own' k) → ((a k : ℕ) → a < k → k < n → (a ≡ lo → k ≡ hi → ⊥) → pair a k ≡ pair' a k)
    → own i ⊕ pair lo hi ≡ own' i ⊕ pair' lo hi → sum_terms own pair n ≡ sum_terms own' pair' n
both_changed own own' pair pair' n i lo hi h l m e f s =
    let U : sum_to (without i own) n ≡ sum_to (without i own') n = without_same own own' i n e in
    let R : sum_to (without lo (λ a. pair a hi)) hi ≡ sum_to (without lo (λ a. pair' a hi)) hi = without_same (λ a. pair a hi) (λ a. pair' a hi) lo hi (λ a q ne. f a hi q m (λ z w. ne z)) in
    let Q : sum_to (without hi (pairs_of pair)) n ≡ sum_to (without hi (pairs_of pair')) n =
    without_same (pairs_of pair) (pairs_of pair') hi n (λ k q ne. pairs_same pair pair' k (λ a r. f a k r q (λ z w. ne w))) in
    let rest : Cost = sum_to (without lo (λ a. pair' a hi)) hi ⊕ sum_to (without hi (pairs_of pair')) n in
    let others : Cost = sum_to (without i own') n in
    rw (own_out own pair n i h, own_out own' pair' n i h, pair_out pair n lo hi l m, pair_out pair' n lo hi l m, U, R, Q)
    (front (own i) others (pair lo hi) rest ∙ ap (λ (z : Cost). z ⊕ (others ⊕ rest)) s ∙ sym (front (own' i) others (pair' lo hi) rest))
  where
    front : (a b c d : Cost) → a ⊕ (b ⊕ (c ⊕ d)) ≡ a ⊕ c ⊕ (b ⊕ d)
    front a b c d = sym (add_assoc a b (c ⊕ d)) ∙ add_pairs a b c d
