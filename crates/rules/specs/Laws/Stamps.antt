-- The order of stamps on their first k places: equal is equal place by place, not smaller both ways is equal, and bigger than one that isn't
-- smaller is bigger. By recursion over the places. Assumes nothing.
use Rattle.std.specs.Prelude.{ℕ, zero, suc, ◌<◌, ◌≡◌, refl, true, List, get_or}
use Rattle.std.proofs.Common.{⊎_elim, sym, ap, ◌∙◌, arith, not-suc-le-zero, eq-or-lt_of_le, le_of_suc-le-suc, eqb-true}
use Rattle.std.proofs.lemmas.Bool.{false≢true}
use Rattle.base.specs.Shape.Laws.{and_left, and_right}
use Rattle.std.specs.declared.cmp.Ordering.{Ordering}
use Rattle.std.specs.declared.cmp.Ordering.TheVariants.{Less, Equal, Greater}
use Rattle.std.specs.Ordering.{MatchOrdering, is_ge, nat_cmp, ordering_then}
use Rattle.std.proofs.lemmas.Cmp.{ranked, tied_itself, nat_cmp_total}
use Rattle.rules.specs.State.{compare_on, same_on}

-- ---- one place

-- what each order says
abbrev Says : Ordering → ℕ → ℕ → Type 0
Says o a b = MatchOrdering o (a < b) (a ≡ b) (b < a)

order_says : (a b : ℕ) → Says (nat_cmp a b) a b
order_says a b = ranked a b (nat_cmp a b) refl

-- two numbers, neither smaller
pub order_greater : (a b : ℕ) → b < a → nat_cmp a b ≡ Greater
order_greater a b l = go (nat_cmp a b) (order_says a b)
  where
    go : (o : Ordering) → Says o a b → o ≡ Greater
    go Less s = absurd (omega arith)
    go Equal s = absurd (omega arith)
    go Greater s = refl

pub order_same : (a b : ℕ) → a ≡ b → nat_cmp a b ≡ Equal
order_same a b e = rw e (tied_itself nat_cmp_total b)

-- one place more
first_not_smaller : (o p : Ordering) → is_ge (ordering_then o p) ≡ true → is_ge o ≡ true
first_not_smaller Less p e = e
first_not_smaller Equal p e = refl
first_not_smaller Greater p e = refl

-- ---- k places

abbrev pub SamePlaces : ℕ → List ℕ → List ℕ → Type 0
SamePlaces k a b = (j : ℕ) → j < k → get_or a j 0 ≡ get_or b j 0

-- the places before the last, and the last
one_more : (k : ℕ) (a b : List ℕ) → SamePlaces k a b → get_or a k 0 ≡ get_or b k 0 → SamePlaces (suc k) a b
one_more k a b f e j l = ⊎_elim (λ (q : j ≡ k). ap (λ (i : ℕ). get_or a i 0) q ∙ e ∙ sym (ap (λ (i : ℕ). get_or b i 0) q)) (λ h. f j h) (eq-or-lt_of_le (le_of_suc-le-suc l))

pub same_places : (k : ℕ) (a b : List ℕ) → same_on k a b ≡ true → SamePlaces k a b
unfolding same_on
same_places zero a b e j l = absurd (not-suc-le-zero l)
same_places (suc k) a b e j l = one_more k a b (same_places k a b (and_left _ _ e)) (eqb-true _ _ (and_right (same_on k a b) _ e)) j l

pub equal_places : (k : ℕ) (a b : List ℕ) → compare_on k a b ≡ Equal → SamePlaces k a b
unfolding compare_on
equal_places zero a b e j l = absurd (not-suc-le-zero l)
equal_places (suc k) a b e j l = go (equal_places k a b) (compare_on k a b) (nat_cmp (get_or a k 0) (get_or b k 0)) refl (order_says (get_or a k 0) (get_or b k 0)) e j l
  where
    go : (compare_on k a b ≡ Equal → SamePlaces k a b) → (o p : Ordering) → compare_on k a b ≡ o → Says p (get_or a k 0) (get_or b k 0) → ordering_then o p ≡ Equal → SamePlaces (suc k) a b
    go again Less p q s f = absurd (let z : ◌≡◌ {A = ℕ} 0 1 = cc in omega arith)
    go again Greater p q s f = absurd (let z : ◌≡◌ {A = ℕ} 0 1 = cc in omega arith)
    go again Equal Less q s f = absurd (let z : ◌≡◌ {A = ℕ} 0 1 = cc in omega arith)
    go again Equal Greater q s f = absurd (let z : ◌≡◌ {A = ℕ} 0 1 = cc in omega arith)
    go again Equal Equal q s f = one_more k a b (again q) s

-- what is equal place by place compares alike
pub places_compare : (k : ℕ) (a b c : List ℕ) → SamePlaces k a b → compare_on k a c ≡ compare_on k b c
unfolding compare_on
places_compare zero a b c f = refl
places_compare (suc k) a b c f = rw (places_compare k a b c (λ j l. f j (omega arith)), f k (omega arith))

pub places_equal : (k : ℕ) (a b : List ℕ) → SamePlaces k a b → compare_on k a b ≡ Equal
unfolding compare_on
places_equal zero a b f = refl
places_equal (suc k) a b f = rw (places_equal k a b (λ j l. f j (omega arith)), order_same (get_or a k 0) (get_or b k 0) (f k (omega arith)))

-- two numbers, neither smaller
neither_smaller : (x y : ℕ) → is_ge (nat_cmp x y) ≡ true → is_ge (nat_cmp y x) ≡ true → x ≡ y
neither_smaller x y = go (nat_cmp x y) (nat_cmp y x) (order_says x y) (order_says y x)
  where
    go : (o p : Ordering) → Says o x y → Says p y x → is_ge o ≡ true → is_ge p ≡ true → x ≡ y
    go Less p s t g h = absurd (false≢true g)
    go Equal p s t g h = s
    go Greater Less s t g h = absurd (false≢true h)
    go Greater Equal s t g h = sym t
    go Greater Greater s t g h = absurd (omega arith)

-- neither smaller: equal on all places
pub both_ways : (k : ℕ) (a b : List ℕ) → is_ge (compare_on k a b) ≡ true → is_ge (compare_on k b a) ≡ true → SamePlaces k a b
unfolding compare_on
both_ways zero a b e f j l = absurd (not-suc-le-zero l)
both_ways (suc k) a b e f j l =
    let before : SamePlaces k a b = both_ways k a b (first_not_smaller (compare_on k a b) (nat_cmp (get_or a k 0) (get_or b k 0)) e) (first_not_smaller (compare_on k b a) (nat_cmp (get_or b k 0) (get_or a k 0)) f) in
    one_more k a b before (neither_smaller (get_or a k 0) (get_or b k 0) (rw (places_equal k a b before) at e) (rw (places_equal k b a (λ j l. sym (before j l))) at f)) j l

-- bigger than what isn't smaller
pub bigger_than : (k : ℕ) (a b c : List ℕ) → compare_on k a b ≡ Greater → is_ge (compare_on k b c) ≡ true → compare_on k a c ≡ Greater
unfolding compare_on
bigger_than zero a b c e f = absurd (let z : ◌≡◌ {A = ℕ} 0 1 = cc in omega arith)
bigger_than (suc k) a b c e f = go (bigger_than k a b c) (compare_on k a b) (compare_on k b c) (nat_cmp x y) (nat_cmp y z) refl refl (order_says x y) (order_says y z) e f
  where
    x : ℕ
    x = get_or a k 0

    y : ℕ
    y = get_or b k 0

    z : ℕ
    z = get_or c k 0

    go : (compare_on k a b ≡ Greater → is_ge (compare_on k b c) ≡ true → compare_on k a c ≡ Greater) → (o p s t : Ordering) → compare_on k a b ≡ o
        → compare_on k b c ≡ p → Says s x y → Says t y z → ordering_then o s ≡ Greater → is_ge (ordering_then p t) ≡ true → ordering_then (compare_on k a c) (nat_cmp x z) ≡ Greater
    go again Less p s t q r m n g h = absurd (let z : ◌≡◌ {A = ℕ} 0 1 = cc in omega arith)
    go again Equal Less s t q r m n g h = absurd (false≢true h)
    go again Greater p s t q r m n g h = rw (again q (ap is_ge r ∙ first_not_smaller p t h))
    go again Equal Greater s t q r m n g h = rw (places_compare k a b c (equal_places k a b q) ∙ r)
    go again Equal Equal Less t q r m n g h = absurd (let z : ◌≡◌ {A = ℕ} 0 1 = cc in omega arith)
    go again Equal Equal Equal t q r m n g h = absurd (let z : ◌≡◌ {A = ℕ} 0 1 = cc in omega arith)
    go again Equal Equal Greater Less q r m n g h = absurd (false≢true h)
    go again Equal Equal Greater Equal q r m n g h = rw (places_compare k a b c (equal_places k a b q) ∙ r) (order_greater x z (omega arith))
    go again Equal Equal Greater Greater q r m n g h = rw (places_compare k a b c (equal_places k a b q) ∙ r) (order_greater x z (omega arith))

-- a first difference stays
pub bigger_more : (k : ℕ) (a b : List ℕ) → compare_on k a b ≡ Greater → compare_on (suc k) a b ≡ Greater
unfolding compare_on
bigger_more k a b e = rw e

pub fewer_not_smaller : (k : ℕ) (a b : List ℕ) → is_ge (compare_on (suc k) a b) ≡ true → is_ge (compare_on k a b) ≡ true
unfolding compare_on
fewer_not_smaller k a b e = first_not_smaller (compare_on k a b) (nat_cmp (get_or a k 0) (get_or b k 0)) e
