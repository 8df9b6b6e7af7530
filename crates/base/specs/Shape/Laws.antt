-- Laws of numbers from 1 to d and of shapes: a test as a fact, and what a good shape says of n and each size.
-- Assumes nothing.
use Rattle.std.specs.Prelude.{ℕ, zero, suc, ◌+◌, ◌≤◌, ◌<◌, min, ◌≡◌, refl, Bool, true, false, ◌&&◌, List, [], ◌∷◌, leb, get_or, length, take, drop}
use Rattle.std.proofs.Common.{sym, ap, ◌∙◌, le_of_suc-le-suc, not-suc-le-zero, add-one, arith, leb-true, le-leb, length-take, drop_of_length-le, drop-cons, get_or-take, length-take-le}
use Rattle.std.proofs.lemmas.Bool.{false≢true}
use Rattle.base.specs.Limits.{places}
use Rattle.base.specs.Shape.{is_value, all_in_sixteen, shape_good}

pub and_left : (a b : Bool) → (a && b) ≡ true → a ≡ true
and_left true b e = refl
and_left false b e = e

pub and_right : (a b : Bool) → (a && b) ≡ true → b ≡ true
and_right true b e = e
and_right false b e = absurd (false≢true e)

-- being 1 to d, as a test and as a fact
module _ (d x : ℕ) where
  pub value_range : is_value d x ≡ true → (1 ≤ x) × (x ≤ d)
  value_range e = (leb-true 1 x (and_left _ _ e), leb-true x d (and_right (leb 1 x) _ e))

  pub range_value : 1 ≤ x → x ≤ d → is_value d x ≡ true
  range_value l h = simp (le-leb 1 x l, le-leb x d h)

-- 1 to 16
abbrev pub in_sixteen : ℕ → Bool
in_sixteen = is_value places

pub in_range_lem : (x : ℕ) → in_sixteen x ≡ true → (1 ≤ x) × (x ≤ 16)
in_range_lem = value_range places

-- each number of such a list is 1 to 16
all_at : (l : List ℕ) → all_in_sixteen l ≡ true → (k : ℕ) → k < length l → in_sixteen (get_or l k 0) ≡ true
unfolding all_in_sixteen
all_at [] e k h = absurd (not-suc-le-zero h)
all_at (x ∷ l) e zero h = and_left _ _ e
all_at (x ∷ l) e (suc k) h = all_at l (and_right (in_sixteen x) _ e) k (le_of_suc-le-suc h)

-- the number of units of a good shape, and the size of each unit
pub shape_n : (n : ℕ) (l : List ℕ) → shape_good n l ≡ true → (1 ≤ n) × (n ≤ 16)
unfolding shape_good
shape_n n l e = in_range_lem n (and_left _ _ e)

pub shape_size : (n : ℕ) (l : List ℕ) → shape_good n l ≡ true → n ≤ length l → (k : ℕ) → k < n → (1 ≤ get_or l k 0) × (get_or l k 0 ≤ 16)
unfolding shape_good
shape_size n l e h k b =
    let f : length (take n l) ≡ n = length-take-le n l h in
    in_range_lem (get_or l k 0) (ap in_sixteen (sym (get_or-take n l k 0 b)) ∙ all_at (take n l) (and_right (in_sixteen n) _ e) k (omega arith))

-- a count out of range is bad; otherwise the sizes decide
pub shape_bad_n : (n : ℕ) (l : List ℕ) → in_sixteen n ≡ false → shape_good n l ≡ false
unfolding shape_good
shape_bad_n n l e = rw e

pub shape_good_n : (n : ℕ) (l : List ℕ) → in_sixteen n ≡ true → shape_good n l ≡ all_in_sixteen (take n l)
unfolding shape_good
shape_good_n n l e = rw e

-- the sizes from place i on: the one at i, then those after it; none past the end
pub all_step : (n i : ℕ) (l : List ℕ) → i < n → i < length l
    → all_in_sixteen (drop i (take n l)) ≡ (in_sixteen (get_or l i 0) && all_in_sixteen (drop (i + 1) (take n l)))
unfolding all_in_sixteen
all_step n i l h b =
    let f : i < length (take n l) = simp length-take (omega arith) in
    rw (drop-cons (take n l) i 0 f, get_or-take n l i 0 h, add-one)

pub all_none : (n i : ℕ) (l : List ℕ) → min n (length l) ≤ i → all_in_sixteen (drop i (take n l)) ≡ true
unfolding all_in_sixteen
all_none n i l h =
    let f : length (take n l) ≤ i = simp length-take h in
    rw (drop_of_length-le (take n l) f)
