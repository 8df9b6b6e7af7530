-- Laws of costs: they add in any order, `⊑` orders them with forbidden above every number, sums keep that order and the least is the greatest
-- below all (proofs/LeastOf); when a cost is a number, and how large it then is; what a cost counts as. By cases on what is forbidden, then on numbers.
-- In order: sums; the order; the least; costs that are numbers; limits; as numbers; costs of a table.
-- Assumes nothing.
use Rattle.std.specs.Prelude.{◌≡◌, ℕ, zero, suc, ◌+◌, ◌-◌, ◌*◌, ◌<◌, ◌≤◌, min, Bool, true, false, cond, ◌||◌, ◌≢◌, ◌==◌, nat_le, nat_lt, refl, Some, None}
use Rattle.std.proofs.Common.{sym, ap, subst, arith, leb-true, ltb-true, ltb-false, le-ltb, eqb-true, ne_eqb}
use Rattle.std.proofs.lemmas.Bool.{false≢true, eqb-false}
use Rattle.base.specs.Sums as N
use Rattle.base.specs.Limits.{NONE, pair_limit, forbidden_pair}
use Rattle.table.specs.Stream.{pair_good}
use Rattle.costs.specs.Cost.{Cost, ◌⊕◌, sum_from, sum_to, lesser, least, below, as_number, pair_cost}

-- ---- sums

pub add_assoc : (a b c : Cost) → a ⊕ b ⊕ c ≡ a ⊕ (b ⊕ c)
add_assoc (Some x) (Some y) (Some z) = ap Some (omega arith)
add_assoc (Some x) (Some y) None = refl
add_assoc (Some x) None c = refl
add_assoc None b c = refl

pub add_comm : (a b : Cost) → a ⊕ b ≡ b ⊕ a
add_comm (Some x) (Some y) = ap Some (omega arith)
add_comm (Some x) None = refl
add_comm None (Some y) = refl
add_comm None None = refl

pub add_zero : (c : Cost) → c ⊕ Some 0 ≡ c
add_zero (Some x) = ap Some (omega arith)
add_zero None = refl

pub zero_add : (c : Cost) → Some 0 ⊕ c ≡ c
zero_add (Some x) = ap Some (omega arith)
zero_add None = refl

pub add_forbidden : (c : Cost) → c ⊕ None ≡ None
add_forbidden (Some x) = refl
add_forbidden None = refl

-- two sums, added part by part
pub add_pairs : (a b c d : Cost) → a ⊕ b ⊕ (c ⊕ d) ≡ a ⊕ c ⊕ (b ⊕ d)
add_pairs (Some x) (Some y) (Some z) (Some w) = ap Some (omega arith)
add_pairs (Some x) (Some y) (Some z) None = refl
add_pairs (Some x) (Some y) None d = refl
add_pairs (Some x) None (Some z) d = refl
add_pairs (Some x) None None d = refl
add_pairs None b c d = refl

pub sum_from_cong : (f g : ℕ → Cost) (lo m : ℕ) → ((j : ℕ) → lo ≤ j → j < lo + m → f j ≡ g j) → sum_from f lo m ≡ sum_from g lo m
sum_from_cong f g lo zero e = refl
sum_from_cong f g lo (suc m) e =
    let a : f lo ≡ g lo = e lo (omega arith) (omega arith) in
    let b : sum_from f (suc lo) m ≡ sum_from g (suc lo) m = sum_from_cong f g (suc lo) m (λ j l h. e j (omega arith) (omega arith)) in
    cc

pub sum_to_cong : (f g : ℕ → Cost) (m : ℕ) → ((j : ℕ) → j < m → f j ≡ g j) → sum_to f m ≡ sum_to g m
sum_to_cong f g zero e = refl
sum_to_cong f g (suc m) e =
    let a : f m ≡ g m = e m (omega arith) in
    let b : sum_to f m ≡ sum_to g m = sum_to_cong f g m (λ j h. e j (omega arith)) in
    cc

pub sums_zero : (f : ℕ → Cost) (m : ℕ) → ((j : ℕ) → f j ≡ Some 0) → sum_to f m ≡ Some 0
sums_zero f zero e = refl
sums_zero f (suc m) e = rw (sums_zero f m e, e m)

-- ---- the order

infix 26 ◌⊑◌
abbrev pub ◌⊑◌ : Cost → Cost → Type 0
Some m ⊑ Some n = m ≤ n
Some m ⊑ None = Unit {0}
None ⊑ Some n = ⊥
None ⊑ None = Unit {0}

pub le_refl : (c : Cost) → c ⊑ c
le_refl (Some n) = omega arith
le_refl None = tt

pub le_trans : (a b c : Cost) → a ⊑ b → b ⊑ c → a ⊑ c
le_trans (Some x) (Some y) (Some z) p q = omega arith
le_trans (Some x) (Some y) None p q = tt
le_trans (Some x) None (Some z) p q = absurd q
le_trans (Some x) None None p q = tt
le_trans None (Some y) c p q = absurd p
le_trans None None c p q = q

-- sums of more are no less
pub add_mono : (a b c d : Cost) → a ⊑ c → b ⊑ d → a ⊕ b ⊑ c ⊕ d
add_mono (Some x) (Some y) (Some z) (Some w) p q = omega arith
add_mono (Some x) (Some y) (Some z) None p q = tt
add_mono (Some x) (Some y) None d p q = tt
add_mono (Some x) None (Some z) (Some w) p q = absurd q
add_mono (Some x) None (Some z) None p q = tt
add_mono (Some x) None None d p q = tt
add_mono None b (Some z) d p q = absurd p
add_mono None b None d p q = tt

pub add_more : (a b : Cost) → a ⊑ a ⊕ b
add_more (Some x) (Some y) = omega arith
add_more (Some x) None = tt
add_more None b = tt

-- the sums of two parts are at most the sum of their whole
pub sum_from_add_le : (f g k : ℕ → Cost) → ((j : ℕ) → f j ⊕ g j ⊑ k j) → (lo m : ℕ) → sum_from f lo m ⊕ sum_from g lo m ⊑ sum_from k lo m
sum_from_add_le f g k e lo zero = omega arith
sum_from_add_le f g k e lo (suc m) =
    subst (λ x. x ⊑ k lo ⊕ sum_from k (suc lo) m) (add_pairs (f lo) (g lo) (sum_from f (suc lo) m) (sum_from g (suc lo) m))
    (add_mono (f lo ⊕ g lo) (sum_from f (suc lo) m ⊕ sum_from g (suc lo) m) (k lo) (sum_from k (suc lo) m) (e lo) (sum_from_add_le f g k e (suc lo) m))

-- ---- the least of f 1, .., f d

pub lesser-left : (c d : Cost) → lesser c d ⊑ c
lesser-left (Some m) (Some n) = omega arith
lesser-left (Some m) None = omega arith
lesser-left None (Some n) = tt
lesser-left None None = tt

pub lesser_right : (c d : Cost) → lesser c d ⊑ d
lesser_right (Some m) (Some n) = omega arith
lesser_right (Some m) None = tt
lesser_right None d = le_refl d

pub lesser_greatest : (e c d : Cost) → e ⊑ c → e ⊑ d → e ⊑ lesser c d
lesser_greatest (Some x) (Some m) (Some n) p q = omega arith
lesser_greatest (Some x) (Some m) None p q = p
lesser_greatest None (Some m) d p q = absurd p
lesser_greatest e None d p q = q

pub least_cong : (f g : ℕ → Cost) (d : ℕ) → ((v : ℕ) → f v ≡ g v) → least f d ≡ least g d
least_cong f g zero e = refl
least_cong f g (suc d) e =
    let a : f (suc d) ≡ g (suc d) = e (suc d) in
    let b : least f d ≡ least g d = least_cong f g d e in
    cc

-- ---- costs that are numbers

-- told apart by a code
IsForbidden : Cost → Type 0
IsForbidden (Some n) = ⊥
IsForbidden None = Unit {0}

pub number_not_forbidden : (n : ℕ) → Some n ≢ None
unfolding IsForbidden
number_not_forbidden n e = subst IsForbidden (sym e) tt

pub sum_left : (c d : Cost) → c ⊕ d ≢ None → c ≢ None
sum_left (Some m) d h = number_not_forbidden m
sum_left None d h = λ e. h refl

pub sum_right : (c d : Cost) → c ⊕ d ≢ None → d ≢ None
sum_right c (Some n) h = number_not_forbidden n
sum_right (Some m) None h = λ e. h refl
sum_right None None h = λ e. h refl

pub sum_number : (c d : Cost) → c ≢ None → d ≢ None → c ⊕ d ≢ None
sum_number (Some m) (Some n) p q = number_not_forbidden (m + n)
sum_number (Some m) None p q = q
sum_number None d p q = p

-- a sum is a number just where each part is
pub sums_number : (f : ℕ → Cost) (m : ℕ) → ((j : ℕ) → j < m → f j ≢ None) → sum_to f m ≢ None
sums_number f zero h = number_not_forbidden 0
sums_number f (suc m) h = sum_number (sum_to f m) (f m) (sums_number f m (λ j l. h j (omega arith))) (h m (omega arith))

pub sums_part : (f : ℕ → Cost) (m : ℕ) → sum_to f m ≢ None → (j : ℕ) → j < m → f j ≢ None
sums_part f zero h j l = absurd (omega arith)
sums_part f (suc m) h j l = go (nat_lt j m) refl (sums_part f m (sum_left (sum_to f m) (f m) h) j)
  where
    go : (t : Bool) → nat_lt j m ≡ t → (j < m → f j ≢ None) → f j ≢ None
    go true e ih = ih (ltb-true j m e)
    go false e ih = let q : j ≡ m = omega (arith, ltb-false j m e) in rw q (sum_right (sum_to f m) (f m) h)

pub sum_forbidden : (f : ℕ → Cost) (j m : ℕ) → j < m → f j ≡ None → sum_to f m ≡ None
sum_forbidden f j zero l e = absurd (omega arith)
sum_forbidden f j (suc m) l e = go (nat_lt j m) refl (λ h. sum_forbidden f j m h e)
  where
    go : (t : Bool) → nat_lt j m ≡ t → (j < m → sum_to f m ≡ None) → sum_to f (suc m) ≡ None
    go true q ih = rw (ih (ltb-true j m q))
    go false q ih = let p : m ≡ j = omega (arith, ltb-false j m q) in rw (p, e) (add_forbidden (sum_to f j))

pub number_eq : (m n : ℕ) → Some m ≡ Some n → m ≡ n
number_eq m n e = ap as_number e

-- a part of a number, taken off
pub taken_off : (n : ℕ) (c d : Cost) → Some n ≡ c ⊕ d → Some (n - as_number d) ≡ c
taken_off n (Some x) (Some y) e = let q : n ≡ x + y = number_eq n (x + y) e in ap Some (omega arith)
taken_off n (Some x) None e = absurd (number_not_forbidden n e)
taken_off n None d e = absurd (number_not_forbidden n e)

-- ---- limits: a cost that is a number is at most M

abbrev pub AtMost : ℕ → Cost → Type 0
AtMost M (Some n) = n ≤ M
AtMost M None = Unit {0}

pub most_is : (M n : ℕ) (c : Cost) → c ≡ Some n → AtMost M c → n ≤ M
most_is M n c e p = subst (λ x. AtMost M x) e p

pub most_add : (M L : ℕ) (c d : Cost) → AtMost M c → AtMost L d → AtMost (M + L) (c ⊕ d)
most_add M L (Some m) (Some n) p q = omega arith
most_add M L (Some m) None p q = tt
most_add M L None d p q = tt

pub most_mono : (M L : ℕ) (c : Cost) → M ≤ L → AtMost M c → AtMost L c
most_mono M L (Some n) h p = omega arith
most_mono M L None h p = tt

pub most-lesser : (M : ℕ) (c d : Cost) → AtMost M c → AtMost M d → AtMost M (lesser c d)
most-lesser M (Some m) (Some n) p q = omega arith
most-lesser M (Some m) None p q = p
most-lesser M None d p q = q

pub most-sum_from : (M : ℕ) (f : ℕ → Cost) (lo m : ℕ) → ((j : ℕ) → AtMost M (f j)) → AtMost (M * m) (sum_from f lo m)
most-sum_from M f lo zero h = omega arith
most-sum_from M f lo (suc m) h = most_mono (M + M * m) (M * suc m) (f lo ⊕ sum_from f (suc lo) m) (omega arith) (most_add M (M * m) (f lo) (sum_from f (suc lo) m) (h lo) (most-sum_from M f (suc lo) m h))

pub most_sum_to : (M : ℕ) (f : ℕ → Cost) (m : ℕ) → ((j : ℕ) → AtMost M (f j)) → AtMost (M * m) (sum_to f m)
most_sum_to M f zero h = omega arith
most_sum_to M f (suc m) h = most_mono (M * m + M) (M * suc m) (sum_to f m ⊕ f m) (omega arith) (most_add (M * m) M (sum_to f m) (f m) (most_sum_to M f m h) (h m))

-- ---- as numbers

-- within a limit, as a number it is none or within that limit
pub number_most : (M : ℕ) (c : Cost) → AtMost M c → c ≢ None → as_number c ≤ M
number_most M (Some n) p h = p
number_most M None p h = absurd (h refl)

-- below none it is a number
pub number_below : (c : Cost) → as_number c < NONE → c ≢ None
number_below (Some n) p = number_not_forbidden n
number_below None p = absurd (omega arith)

pub number_is : (c : Cost) → c ≢ None → c ≡ Some (as_number c)
number_is (Some n) h = refl
number_is None h = absurd (h refl)

-- a forbidden cost counts as no more than it is
pub number_le : (c : Cost) → Some (as_number c) ⊑ c
number_le (Some n) = omega arith
number_le None = tt

pub at_least : (B : ℕ) (c : Cost) → B ≤ as_number c → Some B ⊑ c
at_least B (Some n) h = h
at_least B None h = tt

pub numbers_le : (f : ℕ → Cost) (lo m : ℕ) → Some (N.sum_from (λ j. as_number (f j)) lo m) ⊑ sum_from f lo m
numbers_le f lo zero = omega arith
numbers_le f lo (suc m) = add_mono (Some (as_number (f lo))) (Some (N.sum_from (λ j. as_number (f j)) (suc lo) m)) (f lo) (sum_from f (suc lo) m) (number_le (f lo)) (numbers_le f (suc lo) m)

-- what is at least B is, where it is a number, a number of at least B
pub reached : (B : ℕ) (c : Cost) → Some B ⊑ c → as_number c < NONE → B ≤ as_number c
reached B (Some n) p h = p
reached B None p h = absurd (omega arith)

-- the order of numbers, below none
pub number_mono : (c d : Cost) → c ⊑ d → as_number d < NONE → as_number c ≤ as_number d
number_mono (Some m) (Some n) p h = p
number_mono (Some m) None p h = absurd (omega arith)
number_mono None (Some n) p h = absurd p
number_mono None None p h = absurd (omega arith)

-- where a sum is below a bound, each part is a number, and the first is below it too
pub below_part : (c d : Cost) (B : ℕ) → below (c ⊕ d) B ≡ true → as_number c < B
below_part (Some m) (Some n) B e = omega (arith, ltb-true (m + n) B e)
below_part (Some m) None B e = absurd (false≢true e)
below_part None d B e = absurd (false≢true e)

pub below_numbers : (c d : Cost) (B : ℕ) → below (c ⊕ d) B ≡ true → c ≡ Some (as_number c)
below_numbers (Some m) d B e = refl
below_numbers None d B e = absurd (false≢true e)

pub number_behind : (m : ℕ) (c : Cost) → Some m ⊕ c ≡ Some (as_number (Some m ⊕ c)) → c ≡ Some (as_number c)
number_behind m (Some n) e = refl
number_behind m None e = absurd (number_not_forbidden NONE (sym e))

-- a bound is at most none, so comparing numbers is comparing costs
pub below_number : (c : Cost) (B : ℕ) → B ≤ NONE → below c B ≡ nat_lt (as_number c) B
below_number (Some n) B h = refl
below_number None B h = sym (le-ltb NONE B h)

-- the least, of numbers none of which is past NONE
pub lesser_number : (c d : Cost) → as_number c ≤ NONE → as_number d ≤ NONE → as_number (lesser c d) ≡ min (as_number c) (as_number d)
lesser_number (Some m) (Some n) p q = refl
lesser_number (Some m) None p q = omega arith
lesser_number None (Some n) p q = omega arith
lesser_number None None p q = omega arith

-- ---- costs of a table

pub pair_forbidden : pair_cost forbidden_pair ≡ None
pair_forbidden = refl

pub pair_number_lem : (x : ℕ) → x < forbidden_pair → pair_cost x ≡ Some x
pair_number_lem x h = rw (ne_eqb x forbidden_pair (λ e. omega arith))

-- forbidden is the last number of 16 bits: so the least of such numbers stands for the least of their costs
pub pair_lesser : (x y : ℕ) → x ≤ forbidden_pair → y ≤ forbidden_pair → lesser (pair_cost x) (pair_cost y) ≡ pair_cost (min x y)
pair_lesser x y p q = go (x == forbidden_pair) (y == forbidden_pair) refl refl
  where
    go : (s t : Bool) → (x == forbidden_pair) ≡ s → (y == forbidden_pair) ≡ t → lesser (pair_cost x) (pair_cost y) ≡ pair_cost (min x y)
    go true t a b = let e : min x y ≡ y = omega (arith, eqb-true x forbidden_pair a) in rw (a, e)
    go false true a b =
        let e : min x y ≡ x = omega (arith, eqb-true y forbidden_pair b) in
        rw (e, a, b)
    go false false a b =
        let ne : min x y ≡ forbidden_pair → ⊥ = λ e. omega (arith, eqb-false x forbidden_pair a, eqb-false y forbidden_pair b) in
        rw (a, b, ne_eqb (min x y) forbidden_pair ne)

-- a number that passes check 7 is forbidden, or a cost within the limit
pub good_cost : (x : ℕ) → pair_good x ≡ true → AtMost pair_limit (pair_cost x)
unfolding pair_good
good_cost x e = go (x == forbidden_pair) (nat_le x pair_limit) refl refl e
  where
    go : (t r : Bool) → (x == forbidden_pair) ≡ t → nat_le x pair_limit ≡ r → (r || t) ≡ true → AtMost pair_limit (cond t None (Some x))
    go true r a b g = tt
    go false true a b g = leb-true x pair_limit b
    go false false a b g = absurd (false≢true g)
