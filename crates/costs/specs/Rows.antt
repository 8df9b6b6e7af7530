-- The costs of all own values at once, as sums: a row of numbers for each unit, in which what is forbidden counts so much that a sum tells it.
-- In order: a sum and the cost that it stands for; rows added, one number or four at a time; the sums of a prefix. By cases on what is forbidden, then on numbers.
-- Assumes nothing.
use Rattle.std.specs.Prelude.{◌≡◌, ℕ, suc, pred, ◌+◌, ◌-◌, ◌*◌, ◌%◌, ◌^◌, ◌<◌, ◌≤◌, min, Bool, true, false, cond, ◌&&◌, List, length, replicate, ◌==◌, nat_le, nat_lt, slice_index, slice_set, Some, None}
use Rattle.std.proofs.Math.Path.{refl}
use Rattle.std.proofs.Common.{sym, ap, ◌∙◌, zero-add, mod-eq_of_lt, arith, length-set, get_or-set_same, get_or-set_other, lt-ltb, le-ltb, le-leb, ltb-true, ltb-false, leb-true, leb-false, eqb-true}
use Rattle.std.proofs.Math.Bool.{and-false}
use Rattle.std.proofs.lemmas.List.{get_or-replicate}
use Rattle.std.proofs.lemmas.Bool.{eqb-false}
use Rattle.base.specs.Bytes.{u16_at}
use Rattle.base.specs.Bytes.Laws.{AllBytes}
use Rattle.base.specs.Limits.{forbidden_pair}
use Rattle.base.specs.Shape.{is_value}
use Rattle.base.specs.Shape.Laws.{range_value}
use Rattle.costs.specs.Cost.{Cost, ◌⊕◌, as_number, pair_cost}
use Rattle.costs.specs.Cost.Laws.{AtMost, number_not_forbidden}
use Rattle.costs.specs.declared.Seat.{Seat}
use Rattle.costs.specs.Instance.{View, in_pair, lent_view, view_from}
use Rattle.costs.specs.Bounds.{cost_with}
use Rattle.costs.specs.Lent.Parts.{dom_from, others_before}
use Rattle.costs.specs.Lent.Steps.{pair_from_lem, pair_no_other, pair_lower, unary_from, cost_none, cost_more}

-- ---- a sum, and the cost that it stands for

-- more than 256 costs of 16 bits come to
abbrev pub forbidden_sum : ℕ
forbidden_sum = 16777216

-- a number of 16 bits in a sum
abbrev pub widened : ℕ → ℕ
widened y = cond (y == forbidden_pair) forbidden_sum y

pub widened-most : (y : ℕ) → y < 65536 → widened y ≤ forbidden_sum
widened-most y l = go (y == forbidden_pair)
  where
    go : (t : Bool) → cond t forbidden_sum y ≤ forbidden_sum
    go true = omega arith
    go false = omega arith

abbrev pub sum_cost : ℕ → Cost
sum_cost x = cond (nat_lt x forbidden_sum) (Some x) None

-- x is the sum of what a value costs, c, alone and with k units
pub record Summed (k x : ℕ) (c : Cost) : Type 0 where
  pub told : sum_cost x ≡ c
  pub most : AtMost (65535 * (k + 1)) c
  pub fits : x ≤ forbidden_sum * (k + 1)

pub summed_unary : (y : ℕ) → y < 65536 → Summed 0 y (Some y)
summed_unary y l = record { told = rw (lt-ltb y forbidden_sum (omega arith)); most = omega arith; fits = omega arith }

-- a unit that has no value costs nothing
pub summed_same : (k x : ℕ) (c : Cost) → Summed k x c → Summed (k + 1) (x + 0) (c ⊕ Some 0)
summed_same k x (Some m) s = let z : x + 0 ≡ x = omega arith in let y : m + 0 ≡ m = omega arith in record { told = rw (z, y) s.told; most = omega (arith, s.most); fits = omega (arith, s.fits) }
summed_same k x None s = let z : x + 0 ≡ x = omega arith in record { told = rw z s.told; most = tt; fits = omega (arith, s.fits) }

-- a number told is the number itself
number_told : (x m : ℕ) → sum_cost x ≡ Some m → (x ≡ m) × (x < forbidden_sum)
number_told x m e = go (nat_lt x forbidden_sum) refl e
  where
    go : (t : Bool) → nat_lt x forbidden_sum ≡ t → cond t (Some x) None ≡ Some m → (x ≡ m) × (x < forbidden_sum)
    go true q f = (ap as_number f, ltb-true x forbidden_sum q)
    go false q f = absurd (number_not_forbidden m (sym f))

forbidden_told : (x : ℕ) → sum_cost x ≡ None → forbidden_sum ≤ x
forbidden_told x e = go (nat_lt x forbidden_sum) refl e
  where
    go : (t : Bool) → nat_lt x forbidden_sum ≡ t → cond t (Some x) None ≡ None → forbidden_sum ≤ x
    go true q f = absurd (number_not_forbidden x f)
    go false q f = ltb-false x forbidden_sum q

-- one unit more, with a number of 16 bits
pub summed_more : (k x : ℕ) (c : Cost) (y : ℕ) → k ≤ 16 → y < 65536 → Summed k x c → Summed (k + 1) (x + widened y) (c ⊕ pair_cost y)
summed_more k x c y few l s = go (y == forbidden_pair) c s
  where
    go : (t : Bool) (c : Cost) → Summed k x c → Summed (k + 1) (x + cond t forbidden_sum y) (c ⊕ cond t None (Some y))
    go true (Some m) s = record { told = rw (le-ltb (x + forbidden_sum) forbidden_sum (omega arith)); most = tt; fits = omega (arith, s.fits) }
    go false (Some m) s =
        let n = number_told x m s.told in
        record { told = rw (lt-ltb (x + y) forbidden_sum (omega (arith, n.0, s.most)), n.0); most = omega (arith, s.most); fits = omega (arith, s.fits) }
    go t None s = record { told = rw (le-ltb (x + cond t forbidden_sum y) forbidden_sum (omega (arith, forbidden_told x s.told))); most = tt; fits = part t }
      where
        part : (t : Bool) → x + cond t forbidden_sum y ≤ forbidden_sum * (k + 1 + 1)
        part true = omega (arith, s.fits)
        part false = omega (arith, s.fits)

-- ---- rows written and added

-- one number more of those that f says
pub filled_more : (f : ℕ → ℕ) (i : ℕ) (row : List ℕ) (x : ℕ) → i < length row → ((k : ℕ) → k < i → slice_index row k ≡ f k) → x ≡ f i → (k : ℕ) → k < i + 1 → slice_index (slice_set row i x) k ≡ f k
filled_more f i row x in_row old e k l = go (k == i) refl
  where
    go : (t : Bool) → (k == i) ≡ t → slice_index (slice_set row i x) k ≡ f k
    go true q = rw (eqb-true k i q) (get_or-set_same row i x 0 in_row ∙ e)
    go false q = let ne = eqb-false k i q in get_or-set_other row i k x 0 ne ∙ old k (omega (arith, l, ne))

-- each of the first m sums has its number more
pub record Added (m : ℕ) (f : ℕ → ℕ) (before after : List ℕ) : Type 0 where
  pub long : length after ≡ length before
  pub each : (i : ℕ) → i < m → slice_index after i ≡ slice_index before i + f i

-- the first i of them so far, the others as they were
pub record Adding (i : ℕ) (f : ℕ → ℕ) (before after : List ℕ) : Type 0 where
  pub long : length after ≡ length before
  pub done : (k : ℕ) → k < i → slice_index after k ≡ slice_index before k + f k
  pub rest : (k : ℕ) → i ≤ k → slice_index after k ≡ slice_index before k

module _ (f : ℕ → ℕ) (before : List ℕ) where
  pub adding_none : Adding 0 f before before
  adding_none = record { long = refl; done = λ k l. absurd (omega arith); rest = λ k l. refl }

  pub adding_more : (i : ℕ) (after : List ℕ) (x : ℕ) → i < length after → Adding i f before after → x ≡ slice_index after i + f i → Adding (i + 1) f before (slice_set after i x)
  adding_more i after x in_List a e = record { long = length-set after i x ∙ a.long; done = λ k l. by_place k (k == i) refl l; rest = λ k l. get_or-set_other after i k x 0 (λ q. omega arith) ∙ a.rest k (omega arith) }
    where
      by_place : (k : ℕ) (t : Bool) → (k == i) ≡ t → k < i + 1 → slice_index (slice_set after i x) k ≡ slice_index before k + f k
      by_place k true q l = rw (eqb-true k i q) (get_or-set_same after i x 0 in_List ∙ e ∙ ap (λ y. y + f i) (a.rest i (omega arith)))
      by_place k false q l = let ne = eqb-false k i q in get_or-set_other after i k x 0 ne ∙ a.done k (omega (arith, l, ne))

  pub adding_done : (m i : ℕ) (after : List ℕ) → m ≤ i → Adding i f before after → Added m f before after
  adding_done m i after l a = record { long = a.long; each = λ k b. a.done k (omega arith) }

-- ---- four numbers at a time: behind the first m sums a number may be added that nobody asks for, so each sum is kept in 32 bits

-- y added at place i
abbrev pub added_at : ℕ → ℕ → List ℕ → List ℕ
added_at i y l = slice_set l i ((slice_index l i + y) % 2 ^ 32)

-- the four costs from byte `at` on added from place i on
abbrev pub four_added : List ℕ → ℕ → ℕ → List ℕ → List ℕ
four_added costs at i l =
    added_at (i + 3) (widened (u16_at costs (at + 6))) (added_at (i + 2) (widened (u16_at costs (at + 4))) (added_at (i + 1) (widened (u16_at costs (at + 2))) (added_at i (widened (u16_at costs at)) l)))

-- the numbers before place i are added, of the first m; the sums from there on are as they were
pub record Passing (m i : ℕ) (f : ℕ → ℕ) (before after : List ℕ) : Type 0 where
  pub long : length after ≡ length before
  pub done : (k : ℕ) → k < i → k < m → slice_index after k ≡ slice_index before k + f k
  pub rest : (k : ℕ) → i ≤ k → slice_index after k ≡ slice_index before k

module _ (m : ℕ) (f : ℕ → ℕ) (before : List ℕ) where
  pub passing_none : Passing m 0 f before before
  passing_none = record { long = refl; done = λ k l. absurd (omega arith); rest = λ k l. refl }

  -- one number more
  passing_more : (i : ℕ) (after : List ℕ) (y : ℕ) → i < length before → (i < m → slice_index before i + f i < 2 ^ 32) → y ≡ f i → Passing m i f before after → Passing m (suc i) f before (added_at i y after)
  passing_more i after y room fits e p = record {
    long = length-set after i ((slice_index after i + y) % 2 ^ 32) ∙ p.long;
    done = λ k l few. by_place k (k == i) refl l few;
    rest = λ k l. get_or-set_other after i k ((slice_index after i + y) % 2 ^ 32) 0 (λ q. omega arith) ∙ p.rest k (omega arith);
  }
    where
      by_place : (k : ℕ) (t : Bool) → (k == i) ≡ t → k < suc i → k < m → slice_index (added_at i y after) k ≡ slice_index before k + f k
      by_place k true q l few =
          let same = eqb-true k i q in
          rw same
          (get_or-set_same after i ((slice_index after i + y) % 2 ^ 32) 0 (omega (arith, p.long, room)) ∙ rw (p.rest i (omega arith), e) (mod-eq_of_lt (fits (omega (arith, same, few)))))
      by_place k false q l few = let ne = eqb-false k i q in get_or-set_other after i k ((slice_index after i + y) % 2 ^ 32) 0 ne ∙ p.done k (omega (arith, l, ne)) few

  pub passing_four : (costs : List ℕ) (at i : ℕ) (after : List ℕ) → ((k : ℕ) → f (i + k) ≡ widened (u16_at costs (at + 2 * k))) → i + 4 ≤ length before → ((k : ℕ) → k < m → slice_index before k + f k < 2 ^ 32) → Passing m i f before after
      → Passing m (i + 4) f before (four_added costs at i after)
  passing_four costs at i after is room fits p =
      let n0 : i + 0 ≡ i = omega arith in
      let b0 : at + 2 * 0 ≡ at = omega arith in
      let e0 : widened (u16_at costs at) ≡ f i = sym (rw (n0, b0) at (is 0)) in
      let n1 : i + 1 ≡ suc i = omega arith in
      let e1 : widened (u16_at costs (at + 2)) ≡ f (suc i) = sym (rw n1 at (is 1)) in
      let n2 : i + 2 ≡ suc (suc i) = omega arith in
      let e2 : widened (u16_at costs (at + 4)) ≡ f (suc (suc i)) = sym (rw n2 at (is 2)) in
      let n3 : i + 3 ≡ suc (suc (suc i)) = omega arith in
      let e3 : widened (u16_at costs (at + 6)) ≡ f (suc (suc (suc i))) = sym (rw n3 at (is 3)) in
      let n4 : i + 4 ≡ suc (suc (suc (suc i))) = omega arith in
      let p1 = passing_more i after _ (omega arith) (fits i) e0 p in
      let p2 = passing_more (suc i) _ _ (omega arith) (fits (suc i)) e1 p1 in
      let p3 = passing_more (suc (suc i)) _ _ (omega arith) (fits (suc (suc i))) e2 p2 in
      let p4 = passing_more (suc (suc (suc i))) _ _ (omega arith) (fits (suc (suc (suc i)))) e3 p3 in
      rw (n4, n3, n2, n1) p4

  pub passing_done : (i : ℕ) (after : List ℕ) → m ≤ i → Passing m i f before after → Added m f before after
  passing_done i after l p = record { long = p.long; each = λ k b. p.done k (omega arith) b }

-- nothing added
pub added_nothing : (m : ℕ) (f : ℕ → ℕ) (before : List ℕ) → ((i : ℕ) → f i ≡ 0) → Added m f before before
added_nothing m f before e = record { long = refl; each = λ i l. omega (arith, e i) }

-- the number of value i + 1 in the row of value u of a unit of e values; its costs begin at byte `at`, in rows of d
abbrev pub unit_row : List ℕ → ℕ → ℕ → ℕ → ℕ → ℕ → ℕ
unit_row costs at d e u i = cond (is_value e u) (widened (u16_at costs (at + 2 * ((u - 1) * d) + 2 * i))) 0

pub added_row : (costs : List ℕ) (at d e u m : ℕ) (before after : List ℕ) → is_value e u ≡ true → Added m (λ (i : ℕ). widened (u16_at costs (at + 2 * ((u - 1) * d) + 2 * i))) before after → Added m (unit_row costs at d e u) before after
added_row costs at d e u m before after value a = record { long = a.long; each = λ i l. a.each i l ∙ rw value }

-- sums that can take one number more
abbrev pub Small : ℕ → List ℕ → Type 0
Small m sums = (i : ℕ) → i < m → slice_index sums i ≤ 285212672

-- ---- the sums of a prefix of k units

abbrev pub Sums : View → List ℕ → ℕ → List ℕ → Type 0
Sums w values k sums = (i : ℕ) → i < 16 → i < w.dom w.place → Summed k (slice_index sums i) (cost_with w values k (suc i))

module _ (seat : Seat) (costs values : List ℕ) where
  pub dom_is : (view_from seat costs).dom (view_from seat costs).place ≡ dom_from seat (pred seat.own)
  unfolding lent_view
  dom_is = refl

  pub sums_none : (sums : List ℕ) → AllBytes costs → ((i : ℕ) → i < 16 → i < dom_from seat (pred seat.own) → slice_index sums i ≡ u16_at costs (2 * i)) → Sums (view_from seat costs) values 0 sums
  sums_none sums bytes e i l b =
      let value : is_value (dom_from seat (pred seat.own)) (suc i) ≡ true = range_value (dom_from seat (pred seat.own)) (suc i) (omega arith) (omega (arith, b, dom_is)) in
      let same : suc i - 1 ≡ i = omega arith in
      let is : cost_with (view_from seat costs) values 0 (suc i) ≡ Some (u16_at costs (2 * i)) = cost_none (view_from seat costs) values (suc i) ∙ ap Some (unary_from seat costs (suc i) ∙ rw (value, same)) in
      rw (is, e i l (omega (arith, b, dom_is))) (summed_unary (u16_at costs (2 * i)) (omega (arith, bytes (2 * i), bytes (2 * i + 1))))

  -- one unit more
  pub sums_more : (j : ℕ) → j ≤ 16 → j < pred seat.own → AllBytes costs → (sums after : List ℕ) → Sums (view_from seat costs) values j sums → (d at e u m : ℕ) → d ≡ dom_from seat (pred seat.own) → at ≡ 2 * (d + d * others_before seat j)
      → e ≡ dom_from seat j → u ≡ slice_index values j → ((i : ℕ) → i < 16 → i < d → i < m) → Added m (unit_row costs at d e u) sums after → Sums (view_from seat costs) values (j + 1) after
  sums_more j few below bytes sums after old d at e u m is-d is_at is-e is-u within added i l b =
      let in-d : i < d = omega (arith, b, dom_is, is-d) in
      let own : is_value d (suc i) ≡ true = range_value d (suc i) (omega arith) (omega (arith, in-d)) in
      rw (added.each i (within i l in-d), cost_more) (go (is_value e u) refl own)
    where
      number : ℕ
      number = u16_at costs (at + 2 * ((u - 1) * d) + 2 * i)

      go : (t : Bool) → is_value e u ≡ t → is_value d (suc i) ≡ true
          → Summed (j + 1) (slice_index sums i + cond t (widened number) 0) (cost_with (view_from seat costs) values j (suc i) ⊕ (view_from seat costs).pair j (slice_index values j) (suc i))
      go true q own =
          let same : 2 * (d + d * others_before seat j + in_pair d u (suc i)) ≡ at + 2 * ((u - 1) * d) + 2 * i = omega (arith, is_at) in
          let cost : (view_from seat costs).pair j (slice_index values j) (suc i) ≡ pair_cost number =
          pair_from_lem seat costs j (slice_index values j) (suc i) ∙ rw (← is-d, ← is-e, ← is-u) (pair_lower costs (pred seat.own) j d e (others_before seat j) u (suc i) below q own ∙ ap (λ x. pair_cost (u16_at costs x)) same) in
          rw cost (summed_more j (slice_index sums i) (cost_with (view_from seat costs) values j (suc i)) number few (omega (arith, bytes (at + 2 * ((u - 1) * d) + 2 * i), bytes (at + 2 * ((u - 1) * d) + 2 * i + 1))) (old i l b))
      go false q own =
          let cost : (view_from seat costs).pair j (slice_index values j) (suc i) ≡ Some 0 =
          pair_from_lem seat costs j (slice_index values j) (suc i) ∙ rw (← is-d, ← is-e, ← is-u) (pair_no_other costs (pred seat.own) j d e (others_before seat j) u (suc i) (λ z. omega arith) q) in
          rw cost (summed_same j (slice_index sums i) (cost_with (view_from seat costs) values j (suc i)) (old i l b))

-- ---- what sums tell

-- the cost of own value v with the first k units as a number, 0 where there is no such value
abbrev pub paid_number : View → List ℕ → ℕ → ℕ → ℕ
paid_number w values k v = cond (is_value (w.dom w.place) v) (as_number (cost_with w values k v)) 0

-- the numbers of the first m values, which are all of the first 16, told by their sums
pub paid_told : (w : View) (values : List ℕ) (k : ℕ) (sums paid : List ℕ) (m : ℕ) → Sums w values k sums → m ≡ min (w.dom w.place) 16 → Adding m (λ (i : ℕ). as_number (sum_cost (slice_index sums i))) (replicate 16 0) paid
    → (i : ℕ) → i < 16 → slice_index paid i ≡ paid_number w values k (suc i)
paid_told w values k sums paid m told e a i l = go (nat_le (suc i) (w.dom w.place)) refl
  where
    go : (t : Bool) → nat_le (suc i) (w.dom w.place) ≡ t → slice_index paid i ≡ cond (nat_le 1 (suc i) && t) (as_number (cost_with w values k (suc i))) 0
    go true q =
        let b : i < w.dom w.place = leb-true (suc i) (w.dom w.place) q in
        a.done i (omega (arith, e, l, b)) ∙ rw (get_or-replicate {A = ℕ} 16 i 0 0 l, zero-add, ← (told i l b).told, le-leb 1 (suc i) (omega arith))
    go false q = a.rest i (omega (arith, e, leb-false (suc i) (w.dom w.place) q)) ∙ get_or-replicate {A = ℕ} 16 i 0 0 l ∙ rw and-false
