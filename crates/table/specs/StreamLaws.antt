-- Streams: what holds of an accepted one (accepted_units, -size, -length, -unary, -cost, -most), by taking stream_refusal's tests apart.
-- In order: a cost that passes check 7; what the first byte says; how pairs_in and costs_good grow; turns of the loops over sizes and costs; the
-- answers of stream_refusal; an accepted stream.
-- Assumes nothing.
use Rattle.std.specs.Prelude.{ℕ, zero, suc, ◌+◌, ◌*◌, ◌-◌, ◌/◌, ◌%◌, ◌≤◌, ◌<◌, min, max, Bool, true, false, cond, ◌&&◌, ◌||◌, List, [], ◌∷◌, ◌++◌, ◌≡◌, refl, eqb, leb, length, get_or, take, drop}
use Rattle.std.proofs.Common.{mul-le-mul, zero-add, add-zero, add_assoc, le_of_suc-le-suc, not-suc-le-zero, mul-add, add-mul, le_refl, suc-mul, mul-suc, add-one, arith, ap, ◌∙◌, length-take, length-drop, take-suc, length-take-le, get_or-take, get_or-drop}
use Rattle.std.proofs.Math.Path.{sym}
use Rattle.std.proofs.Math.ListN.{get_or-eq_default}
use borrow.Author.Tests.{eqb-true, eqb-false, leb-true, leb-false, eq-eqb, ne_eqb, le-leb, lt-leb}
use Rattle.base.specs.Limits.{pair_limit, forbidden_pair, unary_limit, stream_size}
use Rattle.base.specs.Bytes.{u16_at}
use Rattle.base.specs.Bytes.Laws.{AllBytes, u16_past}
use Rattle.base.specs.Shape.{all_in_sixteen, shape_good}
use Rattle.base.specs.Shape.Laws.{in_sixteen, and_left, and_right, in_range_lem, shape_n, shape_size, all_step, all_none}
use Rattle.table.specs.declared.Costs.{Costs}
use Rattle.table.specs.declared.Costs.TheVariants.{Unary, Pair}
use Rattle.table.specs.Stream.{in_form_two, opening, units_of, after_units, sizes_of, sum_list, unaries_in, pairs_in, unaries_at, pairs_at, needed, pair_good, unary_good, costs_good, stream_refusal, Accepted}

-- ---- a cost that passes check 7

pub pair_small : (x : ℕ) → x ≤ pair_limit → pair_good x ≡ true
unfolding pair_good
pair_small x h = rw (le-leb x pair_limit h)

pub pair_forbidden : pair_good forbidden_pair ≡ true
unfolding pair_good
pair_forbidden = refl

pub unary_small : (x : ℕ) → x ≤ unary_limit → unary_good x ≡ true
unfolding unary_good
unary_small x h = le-leb x unary_limit h

pub unary_most : (x : ℕ) → unary_good x ≡ true → x ≤ unary_limit
unfolding unary_good
unary_most x e = leb-true x unary_limit e

-- Both checks in one comparison: a pair cost goes one higher, so that the forbidden number, the last of 16 bits, comes round to 0; a unary cost
-- stays as it is.
abbrev pub within : ℕ → ℕ → Bool
within lift x = leb ((x + lift) % 65536) (pair_limit + lift)

pair_within : (x : ℕ) → x < 65536 → pair_good x ≡ within 1 x
unfolding pair_good
pair_within x h = go (leb x pair_limit) refl (eqb x forbidden_pair) refl
  where
    go : (a : Bool) → leb x pair_limit ≡ a → (b : Bool) → eqb x forbidden_pair ≡ b → (a || b) ≡ within 1 x
    go true l b e = sym (le-leb ((x + 1) % 65536) (pair_limit + 1) (omega (arith, leb-true x pair_limit l)))
    go false l true e = sym (le-leb ((x + 1) % 65536) (pair_limit + 1) (omega (arith, eqb-true x forbidden_pair e)))
    go false l false e = sym (lt-leb ((x + 1) % 65536) (pair_limit + 1) (omega (arith, leb-false x pair_limit l, eqb-false x forbidden_pair e)))

unary_within : (x : ℕ) → x < 65536 → unary_good x ≡ within 0 x
unfolding unary_good
unary_within x h = let e : (x + 0) % 65536 ≡ x = omega arith in rw e

-- the lift and the check of each kind of costs
abbrev pub lift_of : Costs → ℕ
lift_of Unary = 0
lift_of Pair = 1

pub lift_most : (kind : Costs) → lift_of kind ≤ 1
lift_most Unary = omega arith
lift_most Pair = omega arith

abbrev pub test_of : Costs → ℕ → Bool
test_of Unary = unary_good
test_of Pair = pair_good

-- ---- what the first byte says

pub opening-most : (s : List ℕ) → opening s ≤ 1
unfolding opening
opening-most s = go (in_form_two s)
  where
    go : (t : Bool) → cond t 1 0 ≤ 1
    go true = omega arith
    go false = omega arith

pub opening-two : (s : List ℕ) → in_form_two s ≡ true → opening s ≡ 1
unfolding opening
opening-two s e = rw e

pub opening_one : (s : List ℕ) → in_form_two s ≡ false → opening s ≡ 0
unfolding opening
opening_one s e = rw e

pub opening_none : (s : List ℕ) → length s ≡ 0 → opening s ≡ 0
unfolding opening
opening_none [] e = refl
opening_none (x ∷ s) e = absurd (omega arith)

-- and the other way round
pub form_one : (s : List ℕ) → opening s ≡ 0 → in_form_two s ≡ false
form_one s e = go (in_form_two s) refl
  where
    go : (t : Bool) → in_form_two s ≡ t → t ≡ false
    go true f = absurd (omega (arith, opening-two s f))
    go false f = refl

pub form_two_lem : (s : List ℕ) → (opening s ≡ 0 → ⊥) → in_form_two s ≡ true
form_two_lem s h = go (in_form_two s) refl
  where
    go : (t : Bool) → in_form_two s ≡ t → t ≡ true
    go true f = refl
    go false f = absurd (h (opening_one s f))

pub unaries_two : (s : List ℕ) → in_form_two s ≡ true → unaries_in s ≡ sum_list (sizes_of s)
unfolding unaries_in
unaries_two s e = rw e

pub unaries_one : (s : List ℕ) → in_form_two s ≡ false → unaries_in s ≡ 0
unfolding unaries_in
unaries_one s e = rw e

-- none in form one, which has no byte before n
pub unaries_by : (s : List ℕ) → unaries_in s ≡ opening s * sum_list (sizes_of s)
unfolding unaries_in opening
unaries_by s = go (in_form_two s)
  where
    go : (t : Bool) → cond t (sum_list (sizes_of s)) 0 ≡ cond t 1 0 * sum_list (sizes_of s)
    go true = omega arith
    go false = omega arith

-- what code finds that goes by how many bytes stand before n, and n
module _ (s : List ℕ) (before n : ℕ) (b : before ≡ opening s) (u : n ≡ units_of s) where
  pub sizes-found : take n (drop (before + 1) s) ≡ sizes_of s
  sizes-found = rw (b, u)

  pub unaries_found : before * sum_list (take n (drop (before + 1) s)) ≡ unaries_in s
  unaries_found = rw (sizes-found, b) (sym (unaries_by s))

-- ---- how pairs_in and costs_good grow

and_true : (a : Bool) → (a && true) ≡ a
and_true true = refl
and_true false = refl

and_assoc : (a b c : Bool) → ((a && b) && c) ≡ (a && (b && c))
and_assoc true b c = refl
and_assoc false b c = refl

-- one size more
pub sum_snoc : (l : List ℕ) (d : ℕ) → sum_list (l ++ (d ∷ [])) ≡ sum_list l + d
unfolding sum_list
sum_snoc [] d = omega arith
sum_snoc (x ∷ l) d = let e = sum_snoc l d in omega arith

pub pairs_snoc : (l : List ℕ) (d : ℕ) → pairs_in (l ++ (d ∷ [])) ≡ pairs_in l + sum_list l * d
unfolding sum_list pairs_in
pairs_snoc [] d = omega arith
pairs_snoc (x ∷ l) d = rw (sum_snoc l d, pairs_snoc l d, mul-add, add-mul) (omega arith)

-- sizes up to 16 add up to at most 16 for each
pub sum_most : (l : List ℕ) → all_in_sixteen l ≡ true → sum_list l ≤ 16 * length l
unfolding sum_list all_in_sixteen
sum_most [] e = omega arith
sum_most (x ∷ l) e =
    let r = sum_most l (and_right (in_sixteen x) (all_in_sixteen l) e) in
    let h = (in_range_lem x (and_left (in_sixteen x) (all_in_sixteen l) e)).1 in
    omega arith

-- and need at most 256 costs for each pair of units
pub pairs-most : (l : List ℕ) → all_in_sixteen l ≡ true → pairs_in l + 128 * length l ≤ 128 * (length l * length l)
unfolding pairs_in all_in_sixteen
pairs-most [] e = omega arith
pairs-most (x ∷ l) e =
    let g = and_right (in_sixteen x) (all_in_sixteen l) e in
    let r = pairs-most l g in
    let h = (in_range_lem x (and_left (in_sixteen x) (all_in_sixteen l) e)).1 in
    let p : x * sum_list l ≤ 16 * (16 * length l) = mul-le-mul h (sum_most l g) in
    let q : suc (length l) * suc (length l) ≡ length l * length l + 2 * length l + 1 = simp (suc-mul, mul-suc) (omega arith) in
    rw q (omega arith)

-- and as many unary costs, at most
pub unaries_most : (s : List ℕ) → all_in_sixteen (sizes_of s) ≡ true → unaries_in s ≤ 16 * length (sizes_of s)
unfolding unaries_in
unaries_most s e = go (in_form_two s)
  where
    go : (t : Bool) → cond t (sum_list (sizes_of s)) 0 ≤ 16 * length (sizes_of s)
    go true = sum_most (sizes_of s) e
    go false = omega arith

-- unary cost and pair cost number k of a stream, from 0
abbrev pub stream_unary : List ℕ → ℕ → ℕ
stream_unary s k = u16_at s (unaries_at s + 2 * k)

abbrev pub stream_cost : List ℕ → ℕ → ℕ
stream_cost s k = u16_at s (pairs_at s + 2 * k)

-- where costs pass, each does
pub costs_at : (good : ℕ → Bool) (s : List ℕ) (k m : ℕ) → costs_good good s k m ≡ true → (j : ℕ) → j < m → good (u16_at s (k + 2 * j)) ≡ true
unfolding costs_good
costs_at good s k zero e j h = absurd (not-suc-le-zero h)
costs_at good s k (suc m) e zero h = rw add-zero (and_left (good (u16_at s k)) (costs_good good s (k + 2) m) e)
costs_at good s k (suc m) e (suc j) h =
    let i : k + 2 * suc j ≡ k + 2 + 2 * j = omega arith in
    rw i (costs_at good s (k + 2) m (and_right (good (u16_at s k)) (costs_good good s (k + 2) m) e) j (le_of_suc-le-suc h))

-- and where each does, they pass
pub costs_each : (good : ℕ → Bool) (s : List ℕ) (k m : ℕ) → ((j : ℕ) → j < m → good (u16_at s (k + 2 * j)) ≡ true) → costs_good good s k m ≡ true
unfolding costs_good
costs_each good s k zero f = refl
costs_each good s k (suc m) f =
    let a : good (u16_at s k) ≡ true = rw add-zero at (f 0 (omega arith)) in
    rw a (costs_each good s (k + 2) m (λ j h. let i : k + 2 + 2 * j ≡ k + 2 * suc j = omega arith in rw i (f (suc j) (omega arith))))

-- the same bytes are the same costs
pub costs_same : (good : ℕ → Bool) (s t : List ℕ) (k j m : ℕ) → ((i : ℕ) → i < 2 * m → get_or s (k + i) 0 ≡ get_or t (j + i) 0) → costs_good good s k m ≡ costs_good good t j m
unfolding costs_good
costs_same good s t k j zero e = refl
costs_same good s t k j (suc m) e =
    let a : get_or s k 0 ≡ get_or t j 0 = rw (add-zero k, add-zero j) at (e 0 (omega arith)) in
    let b : get_or s (k + 1) 0 ≡ get_or t (j + 1) 0 = e 1 (omega arith) in
    let r : costs_good good s (k + 2) m ≡ costs_good good t (j + 2) m =
    costs_same good s t (k + 2) (j + 2) m (λ i h. rw (add_assoc k 2 i, add_assoc j 2 i) (e (2 + i) (omega arith))) in
    rw (a, b, r)

-- two tests that agree on 16 bits
costs_alike : (good like : ℕ → Bool) → ((x : ℕ) → x < 65536 → good x ≡ like x) → (s : List ℕ) (k m : ℕ) → AllBytes s → costs_good good s k m ≡ costs_good like s k m
unfolding costs_good
costs_alike good like g s k zero b = refl
costs_alike good like g s k (suc m) b = rw (g (u16_at s k) (omega (arith, b k, b (k + 1))), costs_alike good like g s (k + 2) m b)

pub pairs-within : (s : List ℕ) (k m : ℕ) → AllBytes s → costs_good pair_good s k m ≡ costs_good (within 1) s k m
pairs-within s k m b = costs_alike pair_good (within 1) pair_within s k m b

pub unaries_within : (s : List ℕ) (k m : ℕ) → AllBytes s → costs_good unary_good s k m ≡ costs_good (within 0) s k m
unaries_within s k m b = costs_alike unary_good (within 0) unary_within s k m b

pub costs_lifted : (kind : Costs) (s : List ℕ) (k m : ℕ) → AllBytes s → costs_good (test_of kind) s k m ≡ costs_good (within (lift_of kind)) s k m
costs_lifted Unary s k m b = unaries_within s k m b
costs_lifted Pair s k m b = pairs-within s k m b

-- costs in two parts
pub costs_split : (good : ℕ → Bool) (s : List ℕ) (k a b : ℕ) → costs_good good s k (a + b) ≡ (costs_good good s k a && costs_good good s (k + 2 * a) b)
unfolding costs_good
costs_split good s k zero b = rw (zero-add b, add-zero k)
costs_split good s k (suc a) b =
    let e : suc a + b ≡ suc (a + b) = omega arith in
    let i : k + 2 * suc a ≡ k + 2 + 2 * a = omega arith in
    rw (e, i, costs_split good s (k + 2) a b) (sym (and_assoc (good (u16_at s k)) (costs_good good s (k + 2) a) (costs_good good s (k + 2 + 2 * a) b)))

-- the costs of a part are those at its place
pub costs_part : (good : ℕ → Bool) (s : List ℕ) (k m n : ℕ) → 2 * m ≤ n → costs_good good (take n (drop k s)) 0 m ≡ costs_good good s k m
costs_part good s k m n h = costs_same good (take n (drop k s)) s 0 k m (λ i l. rw (zero-add i) (get_or-take n (drop k s) i 0 (omega arith) ∙ get_or-drop k s i 0))

-- Past the end there are only zeros: of costs that stand there, or have one byte there, a small one passes.
module _ (lift : ℕ) (up : lift ≤ 1) where
  small_within : (x : ℕ) → x < 256 → within lift x ≡ true
  small_within x h = le-leb ((x + lift) % 65536) (pair_limit + lift) (omega arith)

  pub costs_none : (s : List ℕ) (k m : ℕ) → length s ≤ k → costs_good (within lift) s k m ≡ true
  costs_none s k m h = costs_each (within lift) s k m (λ j l. rw (u16_past s (k + 2 * j) (omega arith)) (small_within 0 (omega arith)))

  costs_short : (s : List ℕ) (k m : ℕ) → AllBytes s → length s ≤ k + 1 → costs_good (within lift) s k m ≡ true
  costs_short s k m b h =
      costs_each (within lift) s k m (λ j l. small_within (u16_at s (k + 2 * j)) (omega (arith, b (k + 2 * j), get_or-eq_default s 0 {n = k + 2 * j + 1} (omega arith))))

  -- as many as there are bytes for
  pub costs_whole : (s : List ℕ) (k m a : ℕ) → AllBytes s → a ≡ min ((length s - k) / 2) m → costs_good (within lift) s k m ≡ costs_good (within lift) s k a
  costs_whole s k m a b e = go (leb m ((length s - k) / 2)) refl
    where
      go : (t : Bool) → leb m ((length s - k) / 2) ≡ t → costs_good (within lift) s k m ≡ costs_good (within lift) s k a
      go true l = let f : m ≡ a = omega (arith, leb-true m ((length s - k) / 2) l) in ap (costs_good (within lift) s k) f
      go false l =
          let c = leb-false m ((length s - k) / 2) l in
          let f : m ≡ a + (m - a) = omega arith in
          ap (costs_good (within lift) s k) f ∙ costs_split (within lift) s k a (m - a) ∙ rw (costs_short s (k + 2 * a) (m - a) b (omega arith), and_true)

-- the higher of two numbers is within a limit where both are
both_within : (limit a b : ℕ) → leb (max a b) limit ≡ (leb a limit && leb b limit)
both_within limit a b = go (leb a limit) (leb b limit) refl refl
  where
    go : (x y : Bool) → leb a limit ≡ x → leb b limit ≡ y → leb (max a b) limit ≡ (x && y)
    go true true f g = le-leb (max a b) limit (omega (arith, leb-true a limit f, leb-true b limit g))
    go true false f g = lt-leb (max a b) limit (omega (arith, leb-false b limit g))
    go false y f g = lt-leb (max a b) limit (omega (arith, leb-false a limit f))

-- a turn of a loop for the highest, of costs lifted, and its end
pub highest_next : {w : Bool} (lift : ℕ) (s : List ℕ) (k m most : ℕ) → w ≡ (leb most (pair_limit + lift) && costs_good (within lift) s k m) → 0 < m
    → w ≡ (leb (max most ((u16_at s k + lift) % 65536)) (pair_limit + lift) && costs_good (within lift) s (k + 2) (m - 1))
unfolding costs_good
highest_next lift s k m most inv h =
    let e : m ≡ suc (m - 1) = omega arith in
    let x : ℕ = (u16_at s k + lift) % 65536 in
    inv ∙ ap (λ (j : ℕ). leb most (pair_limit + lift) && costs_good (within lift) s k j) e
    ∙ sym (rw (both_within (pair_limit + lift) most x) (and_assoc (leb most (pair_limit + lift)) (leb x (pair_limit + lift)) (costs_good (within lift) s (k + 2) (m - 1))))

pub highest_end : {w : Bool} (lift : ℕ) (s : List ℕ) (k m most : ℕ) → w ≡ (leb most (pair_limit + lift) && costs_good (within lift) s k m) → m ≡ 0 → w ≡ leb most (pair_limit + lift)
unfolding costs_good
highest_end lift s k m most inv e = inv ∙ rw (e, and_true)

-- ---- a turn of a loop over the sizes or the costs, and its end: w is what the whole test gives

module _ {w : Bool} (s : List ℕ) (o n i : ℕ) (inv : w ≡ all_in_sixteen (drop i (take n (drop o s)))) where
  sizes_step : i < n → o + i < length s → w ≡ (in_sixteen (get_or s (o + i) 0) && all_in_sixteen (drop (i + 1) (take n (drop o s))))
  sizes_step h l = inv ∙ all_step n i (drop o s) h (simp length-drop (omega arith)) ∙ rw (get_or-drop o s i 0)

  pub sizes_bad : i < n → o + i < length s → in_sixteen (get_or s (o + i) 0) ≡ false → false ≡ w
  sizes_bad h l e = sym (sizes_step h l ∙ rw e)

  pub sizes-next : i < n → o + i < length s → in_sixteen (get_or s (o + i) 0) ≡ true → w ≡ all_in_sixteen (drop (i + 1) (take n (drop o s)))
  sizes-next h l e = sizes_step h l ∙ rw e

  pub sizes_end : min n (length s - o) ≤ i → true ≡ w
  sizes_end h = sym (inv ∙ all_none n i (drop o s) (simp length-drop h))

module _ {w : Bool} (good : ℕ → Bool) (s : List ℕ) (k m : ℕ) (inv : w ≡ costs_good good s k m) where
  pub costs_end : m ≡ 0 → true ≡ w
  unfolding costs_good
  costs_end e = sym (inv ∙ rw e)

  -- a run of them
  run_step : (a : ℕ) → a ≤ m → w ≡ (costs_good good s k a && costs_good good s (k + 2 * a) (m - a))
  run_step a h = let e : m ≡ a + (m - a) = omega arith in inv ∙ ap (costs_good good s k) e ∙ costs_split good s k a (m - a)

  pub run_bad : (a : ℕ) → a ≤ m → costs_good good s k a ≡ false → false ≡ w
  run_bad a h e = sym (run_step a h ∙ rw e)

  pub run-next : (a : ℕ) → a ≤ m → costs_good good s k a ≡ true → w ≡ costs_good good s (k + 2 * a) (m - a)
  run-next a h e = run_step a h ∙ rw e

module _ (s : List ℕ) (o n i : ℕ) (h : i < n) (l : o + i < length s) where
  sizes_more : take (i + 1) (take n (drop o s)) ≡ take i (take n (drop o s)) ++ (get_or s (o + i) 0 ∷ [])
  sizes_more =
      let b : i < length (take n (drop o s)) = simp (length-take, length-drop) (omega arith) in
      rw (add-one, take-suc (take n (drop o s)) i 0 b, get_or-take n (drop o s) i 0 h, get_or-drop o s i 0)

  pub sum_more : sum_list (take (i + 1) (take n (drop o s))) ≡ sum_list (take i (take n (drop o s))) + get_or s (o + i) 0
  sum_more = rw (sizes_more, sum_snoc (take i (take n (drop o s))) (get_or s (o + i) 0))

  pub pairs_more : pairs_in (take (i + 1) (take n (drop o s))) ≡ pairs_in (take i (take n (drop o s))) + sum_list (take i (take n (drop o s))) * get_or s (o + i) 0
  pairs_more = rw (sizes_more, pairs_snoc (take i (take n (drop o s))) (get_or s (o + i) 0))

-- ---- the answers of stream_refusal, in their order

pub refused_short : (s : List ℕ) → length s ≤ opening s → 6 ≡ stream_refusal s
unfolding stream_refusal
refused_short s h = rw (le-leb (length s) (opening s) h)

module _ (s : List ℕ) (some : opening s < length s) where
  there : leb (length s) (opening s) ≡ false
  there = lt-leb (length s) (opening s) some

  pub refused_units : in_sixteen (units_of s) ≡ false → 5 ≡ stream_refusal s
  unfolding stream_refusal shape_good
  refused_units u = simp (there, u)

  module _ (units : in_sixteen (units_of s) ≡ true) where
    pub refused-sizes : all_in_sixteen (sizes_of s) ≡ false → 5 ≡ stream_refusal s
    unfolding stream_refusal shape_good
    refused-sizes z = simp (there, units, z)

    module _ (sizes : all_in_sixteen (sizes_of s) ≡ true) where
      pub refused_length : (length s ≡ needed s → ⊥) → 6 ≡ stream_refusal s
      unfolding stream_refusal shape_good
      refused_length x = simp (there, units, sizes, ne_eqb (length s) (needed s) x)

      module _ (l : length s ≡ needed s) where
        pub refused_unary : costs_good unary_good s (unaries_at s) (unaries_in s) ≡ false → 7 ≡ stream_refusal s
        unfolding stream_refusal shape_good
        refused_unary f = simp (there, units, sizes, eq-eqb (length s) (needed s) l, f)

        module _ (g : costs_good unary_good s (unaries_at s) (unaries_in s) ≡ true) where
          pub refused_pair : costs_good pair_good s (pairs_at s) (pairs_in (sizes_of s)) ≡ false → 7 ≡ stream_refusal s
          unfolding stream_refusal shape_good
          refused_pair f = simp (there, units, sizes, eq-eqb (length s) (needed s) l, g, f)

          pub accepted_by_tests : costs_good pair_good s (pairs_at s) (pairs_in (sizes_of s)) ≡ true → 0 ≡ stream_refusal s
          unfolding stream_refusal shape_good
          accepted_by_tests f = simp (there, units, sizes, eq-eqb (length s) (needed s) l, g, f)

-- ---- an accepted stream

-- the tests of stream_refusal, taken apart
passed : (e a b c d : Bool) → ◌≡◌ {A = ℕ} (cond e 6 (cond a (cond b (cond (c && d) 0 7) 6) 5)) 0
    → (e ≡ false) × (a ≡ true) × (b ≡ true) × (c ≡ true) × (d ≡ true)
passed true a b c d h = absurd (omega arith)
passed false false b c d h = absurd (omega arith)
passed false true false c d h = absurd (omega arith)
passed false true true false d h = absurd (omega arith)
passed false true true true false h = absurd (omega arith)
passed false true true true true h = (refl, refl, refl, refl, refl)

module _ (s : List ℕ) (ok : Accepted s) where
  tests : (leb (length s) (opening s) ≡ false) × (shape_good (units_of s) (after_units s) ≡ true) × (eqb (length s) (needed s) ≡ true)
      × (costs_good unary_good s (unaries_at s) (unaries_in s) ≡ true) × (costs_good pair_good s (pairs_at s) (pairs_in (sizes_of s)) ≡ true)
  unfolding Accepted stream_refusal
  tests =
      passed (leb (length s) (opening s)) (shape_good (units_of s) (after_units s)) (eqb (length s) (needed s)) (costs_good unary_good s (unaries_at s) (unaries_in s))
      (costs_good pair_good s (pairs_at s) (pairs_in (sizes_of s))) ok

  -- n and the sizes pass base's test
  pub accepted_shape : shape_good (units_of s) (after_units s) ≡ true
  accepted_shape = tests.1

  pub accepted_all : all_in_sixteen (sizes_of s) ≡ true
  unfolding shape_good
  accepted_all = and_right (in_sixteen (units_of s)) (all_in_sixteen (sizes_of s)) tests.1

  -- n is 1 to 16
  pub accepted_units : (1 ≤ units_of s) × (units_of s ≤ 16)
  accepted_units = shape_n (units_of s) (after_units s) tests.1

  -- the stream is as long as n and the sizes need
  pub accepted_length : length s ≡ needed s
  accepted_length = eqb-true (length s) (needed s) tests.2

  sizes_room : units_of s ≤ length (after_units s)
  sizes_room = simp length-drop (omega (arith, accepted_length))

  -- all n sizes are there
  pub accepted-sizes_length : length (sizes_of s) ≡ units_of s
  accepted-sizes_length = length-take-le (units_of s) (after_units s) sizes_room

  -- the size of unit k + 1 is 1 to 16
  pub accepted_size : (k : ℕ) → k < units_of s → (1 ≤ get_or (after_units s) k 0) × (get_or (after_units s) k 0 ≤ 16)
  accepted_size k h = shape_size (units_of s) (after_units s) tests.1 sizes_room k h

  -- each cost passes check 7
  pub accepted_unary : (k : ℕ) → k < unaries_in s → stream_unary s k ≤ unary_limit
  accepted_unary k h = unary_most (stream_unary s k) (costs_at unary_good s (unaries_at s) (unaries_in s) tests.3 k h)

  pub accepted-cost : (k : ℕ) → k < pairs_in (sizes_of s) → pair_good (stream_cost s k) ≡ true
  accepted-cost k h = costs_at pair_good s (pairs_at s) (pairs_in (sizes_of s)) tests.4 k h

  -- 02, job 7: "a stream buffer of 61,970"
  pub accepted-most : length s ≤ stream_size
  accepted-most =
      let u = accepted_units in
      let p = pairs-most (sizes_of s) accepted_all in
      let l : length (sizes_of s) ≤ 16 = rw accepted-sizes_length u.1 in
      let q : length (sizes_of s) * length (sizes_of s) ≤ 16 * length (sizes_of s) = mul-le-mul l (le_refl (length (sizes_of s))) in
      omega (arith, accepted_length, opening-most s, unaries_most s accepted_all)
