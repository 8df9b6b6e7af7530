-- Every move keeps what each assignment is worth, floor plus total, and neither bars a cost nor frees one. 02, job 8: "For every lotting, floor plus
-- total is the same before and after each move". A row move changes one unit's own term and one pair's, and their sum stays (specs/Terms).
-- In order: amounts; a row's move; the own costs'; the calls. Assumes nothing.
use Prim.Native.Nat.{ℕ, suc, pred, ◌+◌, ◌-◌, ◌≤◌, ◌<◌}
use Rattle.std.specs.Prelude.{◌⊎◌, ◌≡◌, Bool, cond, not, ◌&&◌, List, leb, ltb, length, Some, None}
use Rattle.std.proofs.Common.{inl, inr, ◌∙◌, arith}
use Rattle.std.proofs.Math.Path.{refl, sym, ap}
use Rattle.std.proofs.Math.Bool.{true, false}
use Rattle.std.proofs.Math.Dec.{eqb}
use Rattle.std.proofs.Math.ListN.{get_or}
use borrow.Author.Tests.{eqb-true, eqb-false, leb-true, ltb-true, eq-eqb, lt-ltb, not-true}
use Rattle.base.specs.Every.Laws.{every_at, every_by}
use Rattle.base.specs.Shape.{is_value, shape_good}
use Rattle.base.specs.Shape.Laws.{and_left, and_right, value_range}
use Rattle.base.specs.Sums.{sum_to}
use Rattle.costs.specs.Cost.{Cost, ◌⊕◌}
use Rattle.costs.specs.Cost.Laws.{◌⊑◌}
use Rattle.costs.proofs.LeastOf.{least_le}
use Rattle.costs.specs.Instance.{dom_in}
use Rattle.costs.specs.Bounds.{Valued, total}
use Rattle.costs.specs.Laws.Stream.{all_four}
use Rattle.projections.specs.Held.{own_at, pair_at, with_at, cost_count, barred, held_cost, Held, instance_in, worth}
use Rattle.projections.specs.Held.Laws.{InDom, own_inside, own_once, pair_behind, with_later, with_earlier}
use Rattle.projections.specs.Terms.{sum_terms, own_changed, both_changed}
use Rattle.projections.specs.Moves.{change_each, lowered, raised, least_at, taken, row_taken, own_taken, projected, unary_projected, extended, row_there, lent_good, raise_fits, project_fits, unary_fits, extend_fits, refusal_by, project_refusal, unary_project_refusal, extend_refusal, project_of, unary_project_of, extend_of}
use Rattle.projections.specs.Moves.Changed.{free, Apart, each_other, each_at, each_free, Row, order, row-lower, row_higher, row_moved, own-moved, own-kept, pair_moved, pair_kept, row-free}

-- ---- amounts

taken_le : (c : Cost) (x : ℕ) → c ⊑ Some x → taken c ≤ x
taken_le (Some a) x h = h
taken_le None x h = omega arith

-- what is taken off some costs is at most each of them
pub taken-most : (place : ℕ → ℕ) (d : ℕ) (l : List ℕ) (v : ℕ) → InDom d v → get_or l (place v) 0 < barred → taken (least_at place d l) ≤ get_or l (place v) 0
taken-most place d l v r h =
    let x : ℕ = get_or l (place v) 0 in
    let e : held_cost x ≡ Some x = rw (lt-ltb x barred h) in
    taken_le (least_at place d l) x (rw e at (least_le (λ w. held_cost (get_or l (place w) 0)) d v r.0 r.1))

lowered_balance : (o a x : ℕ) → (x < barred → a ≤ x) → Some o ⊕ held_cost x ≡ Some (o + a) ⊕ held_cost (lowered a x)
lowered_balance o a x h = go (ltb x barred) refl
  where
    go : (t : Bool) → ltb x barred ≡ t → Some o ⊕ held_cost x ≡ Some (o + a) ⊕ held_cost (lowered a x)
    go true e =
        let m : x < barred = ltb-true x barred e in
        let q : a ≤ x = h m in
        rw (e, lt-ltb (x - a) barred (omega arith)) (ap Some (omega arith))
    go false e = rw (e, e)

lowered-free : (a x : ℕ) → ltb (lowered a x) barred ≡ ltb x barred
lowered-free a x = go (ltb x barred) refl
  where
    go : (t : Bool) → ltb x barred ≡ t → ltb (lowered a x) barred ≡ ltb x barred
    go true e = let m : x < barred = ltb-true x barred e in rw (e, lt-ltb (x - a) barred (omega arith))
    go false e = rw (e, e)

module _ (part x : ℕ) (fits : raise_fits part x ≡ true) where
  raised_balance : (o : ℕ) → part ≤ o → Some o ⊕ held_cost x ≡ Some (o - part) ⊕ held_cost (raised part x)
  raised_balance o h = go (ltb x barred) refl fits
    where
      go : (t : Bool) → ltb x barred ≡ t → cond t (ltb (x + part) barred) true ≡ true → Some o ⊕ held_cost x ≡ Some (o - part) ⊕ held_cost (raised part x)
      go true e f = rw (e, f) (ap Some (omega arith))
      go false e f = rw (e, e)

  raised-free : ltb (raised part x) barred ≡ ltb x barred
  raised-free = go (ltb x barred) refl fits
    where
      go : (t : Bool) → ltb x barred ≡ t → cond t (ltb (x + part) barred) true ≡ true → ltb (raised part x) barred ≡ ltb x barred
      go true e f = rw (e, f)
      go false e f = rw (e, e)

-- ---- a row's move

module _ (n : ℕ) (sizes : List ℕ) where
  abbrev dom : ℕ → ℕ
  dom = dom_in n sizes

  abbrev own_term : List ℕ → List ℕ → ℕ → Cost
  own_term costs l k = Some (get_or costs (own_at dom k (get_or l k 0)) 0)

  abbrev pair_term : List ℕ → List ℕ → ℕ → ℕ → Cost
  pair_term costs l a b = held_cost (get_or costs (pair_at dom n a (get_or l a 0) b (get_or l b 0)) 0)

  total_terms : (costs l : List ℕ) → total (instance_in n sizes costs) l ≡ sum_terms (own_term costs l) (pair_term costs l) n
  unfolding total
  total_terms costs l = refl

  module _ {i u j : ℕ} (r : Row dom n i u j) (c : List ℕ) (count : length c ≡ cost_count dom n) (f g : ℕ → ℕ)
      (balance : (v : ℕ) → InDom (dom j) v → Some (get_or c (own_at dom i u) 0) ⊕ held_cost (get_or c (with_at dom n i u j v) 0) ≡ Some (g (get_or c (own_at dom i u) 0)) ⊕ held_cost (f (get_or c (with_at dom n i u j v) 0)))
      (l : List ℕ) (valued : Valued (instance_in n sizes c) l) where
    abbrev c' : List ℕ
    c' = row_moved r c count f g

    -- the value at a place
    abbrev at : ℕ → ℕ
    at k = get_or l k 0

    own_same : (k : ℕ) → k < n → (k ≡ i → ⊥) → own_term c l k ≡ own_term c' l k
    own_same k h ne = ap Some (sym (own-kept r c count f g k (at k) h (valued k h) (λ e q. ne e)))

    -- an assignment that has value u
    module _ (has : at i ≡ u) where
      own_then : get_or c' (own_at dom i (at i)) 0 ≡ g (get_or c (own_at dom i u) 0)
      own_then = ap (λ (z : ℕ). get_or c' (own_at dom i z) 0) has ∙ own-moved r c count f g

      own_first : get_or c (own_at dom i (at i)) 0 ≡ get_or c (own_at dom i u) 0
      own_first = ap (λ (z : ℕ). get_or c (own_at dom i z) 0) has

      balanced : (p : ℕ) → p ≡ with_at dom n i u j (at j) → Some (get_or c (own_at dom i (at i)) 0) ⊕ held_cost (get_or c p 0) ≡ Some (get_or c' (own_at dom i (at i)) 0) ⊕ held_cost (get_or c' p 0)
      balanced p e = rw (e, own_then, own_first, pair_moved r c count f g (at j) (valued j r.other)) (balance (at j) (valued j r.other))

    module _ (h : i < j) where
      lower_same : (a b : ℕ) → a < b → b < n → (a ≡ i → b ≡ j → ⊥) → pair_term c l a b ≡ pair_term c' l a b
      lower_same a b lt m ne =
          ap held_cost
          (sym (pair_kept r c count f g a (at a) b (at b)
          (λ v q e. let z = row-lower r a (at a) b (at b) v h lt m (valued a (omega arith)) (valued b m) q e in ne z.0 z.1)))

      lower_both : own_term c l i ⊕ pair_term c l i j ≡ own_term c' l i ⊕ pair_term c' l i j
      lower_both = go (eqb (at i) u) refl
        where
          go : (t : Bool) → eqb (at i) u ≡ t → own_term c l i ⊕ pair_term c l i j ≡ own_term c' l i ⊕ pair_term c' l i j
          go true e =
              let has : at i ≡ u = eqb-true (at i) u e in
              balanced has (pair_at dom n i (at i) j (at j)) (ap (λ (z : ℕ). pair_at dom n i z j (at j)) has ∙ sym (with_later dom n i u j (at j) h))
          go false e =
              let ne : at i ≡ u → ⊥ = eqb-false (at i) u e in
              let x = own-kept r c count f g i (at i) r.unit (valued i r.unit) (λ z q. ne q) in
              let y = pair_kept r c count f g i (at i) j (at j) (λ v q z. ne (row-lower r i (at i) j (at j) v h h r.other (valued i r.unit) (valued j r.other) q z).2) in
              rw (x, y)

    module _ (h : j < i) where
      higher_same : (a b : ℕ) → a < b → b < n → (a ≡ j → b ≡ i → ⊥) → pair_term c l a b ≡ pair_term c' l a b
      higher_same a b lt m ne =
          ap held_cost
          (sym (pair_kept r c count f g a (at a) b (at b)
          (λ v q e. let z = row_higher r a (at a) b (at b) v h lt m (valued a (omega arith)) (valued b m) q e in ne z.0 z.1)))

      higher_both : own_term c l i ⊕ pair_term c l j i ≡ own_term c' l i ⊕ pair_term c' l j i
      higher_both = go (eqb (at i) u) refl
        where
          go : (t : Bool) → eqb (at i) u ≡ t → own_term c l i ⊕ pair_term c l j i ≡ own_term c' l i ⊕ pair_term c' l j i
          go true e =
              let has : at i ≡ u = eqb-true (at i) u e in
              balanced has (pair_at dom n j (at j) i (at i)) (ap (λ (z : ℕ). pair_at dom n j (at j) i z) has ∙ sym (with_earlier dom n i u j (at j) h))
          go false e =
              let ne : at i ≡ u → ⊥ = eqb-false (at i) u e in
              let x = own-kept r c count f g i (at i) r.unit (valued i r.unit) (λ z q. ne q) in
              let y = pair_kept r c count f g j (at j) i (at i) (λ v q z. ne (row_higher r j (at j) i (at i) v h h r.unit (valued j r.other) (valued i r.unit) q z).2) in
              rw (x, y)

    row-total : total (instance_in n sizes c) l ≡ total (instance_in n sizes c') l
    row-total = total_terms c l ∙ go (order r) ∙ sym (total_terms c' l)
      where
        go : (i < j) ⊎ (j < i) → sum_terms (own_term c l) (pair_term c l) n ≡ sum_terms (own_term c' l) (pair_term c' l) n
        go (inl h) = both_changed (own_term c l) (own_term c' l) (pair_term c l) (pair_term c' l) n i i j r.unit h r.other own_same (lower_same h) (lower_both h)
        go (inr h) = both_changed (own_term c l) (own_term c' l) (pair_term c l) (pair_term c' l) n i j i r.unit h r.unit own_same (higher_same h) (higher_both h)

  -- ---- the own costs' move

  module _ (i : ℕ) (unit : i < n) (c : List ℕ) (count : length c ≡ cost_count dom n) (good : (k : ℕ) → k < sum_to dom n → free c k ≡ true) where
    pub own-apart : Apart (own_at dom i) c (dom i)
    own-apart = record { once = λ v w p q e. (own_once dom i i v w p q e).1; there = λ v p. rw count (omega (arith, own_inside dom n i v unit p)) }

    module _ (a : ℕ) (most : (v : ℕ) → InDom (dom i) v → a ≤ get_or c (own_at dom i v) 0) (l : List ℕ) (valued : Valued (instance_in n sizes c) l) where
      abbrev u' : List ℕ
      u' = change_each (lowered a) (own_at dom i) (dom i) c

      units_same : (k : ℕ) → k < n → (k ≡ i → ⊥) → own_term c l k ≡ own_term u' l k
      units_same k h ne = ap Some (sym (each_other (lowered a) (own_at dom i) c (dom i) (own_at dom k (get_or l k 0)) (λ v q e. ne (own_once dom k i (get_or l k 0) v (valued k h) q e).0)))

      pairs_same : (x y : ℕ) → x < y → y < n → pair_term c l x y ≡ pair_term u' l x y
      pairs_same x y lt h =
          let p : ℕ = pair_at dom n x (get_or l x 0) y (get_or l y 0) in
          ap held_cost (sym (each_other (lowered a) (own_at dom i) c (dom i) p (λ v q e. omega (arith, own_inside dom n i v unit q, pair_behind dom n x (get_or l x 0) y (get_or l y 0)))))

      moved_up : (F : ℕ) → Some F ⊕ own_term c l i ≡ Some (F + a) ⊕ own_term u' l i
      moved_up F =
          let v : ℕ = get_or l i 0 in
          let x : ℕ = get_or c (own_at dom i v) 0 in
          let in-dom : InDom (dom i) v = valued i unit in
          let e : get_or u' (own_at dom i v) 0 ≡ x - a = each_at (lowered a) (own_at dom i) c (dom i) own-apart v in-dom ∙ rw (good (own_at dom i v) (own_inside dom n i v unit in-dom)) in
          rw e (ap Some (omega (arith, most v in-dom)))

      own-worth : (F : ℕ) → Some F ⊕ total (instance_in n sizes c) l ≡ Some (F + a) ⊕ total (instance_in n sizes u') l
      own-worth F =
          rw (total_terms c l, total_terms u' l)
          (own_changed (own_term c l) (own_term u' l) (pair_term c l) (pair_term u' l) n i (Some F) (Some (F + a)) unit units_same pairs_same (moved_up F))

-- ---- the calls

-- what has passed where none is refused
pub record Passed (n : ℕ) (sizes : List ℕ) (h : Held) (there fits : Bool) : Type 0 where
  pub shape : shape_good n sizes ≡ true
  pub count : length h.costs ≡ cost_count (dom_in n sizes) n
  pub found : there ≡ true
  pub floor : h.floor < barred
  pub own : (k : ℕ) → k < sum_to (dom_in n sizes) n → free h.costs k ≡ true
  pub fit : fits ≡ true

tests : (a b c d e : Bool) → ◌≡◌ {A = ℕ} (cond (not a) 5 (cond (not b) 6 (cond (not c) 10 (cond (d && e) 0 19)))) 0 → (a ≡ true) × (b ≡ true) × (c ≡ true) × (d ≡ true) × (e ≡ true)
tests true true true true true h = (refl, refl, refl, refl, refl)
tests true true true true false h = absurd (omega arith)
tests true true true false e h = absurd (omega arith)
tests true true false d e h = absurd (omega arith)
tests true false c d e h = absurd (omega arith)
tests false b c d e h = absurd (omega arith)

module _ (n : ℕ) (sizes : List ℕ) (h : Held) (there fits : Bool) where
  pub passed : refusal_by n sizes h there fits ≡ 0 → Passed n sizes h there fits
  passed e =
      let lent : Bool = lent_good (dom_in n sizes) n h in
      let p = tests (shape_good n sizes) (eqb (length h.costs) (cost_count (dom_in n sizes) n)) there lent fits e in
      record {
        shape = p.0;
        count = eqb-true (length h.costs) (cost_count (dom_in n sizes) n) p.1;
        found = p.2;
        floor = ltb-true h.floor barred (and_left _ _ p.3);
        own = every_at (λ k. ltb (get_or h.costs k 0) barred) (sum_to (dom_in n sizes) n) (and_right (ltb h.floor barred) _ p.3);
        fit = p.4;
      }

  -- and the other way round
  pub unrefused : Passed n sizes h there fits → refusal_by n sizes h there fits ≡ 0
  unrefused p =
      rw (
        p.shape,
        eq-eqb (length h.costs) (cost_count (dom_in n sizes) n) p.count,
        p.found,
        lt-ltb h.floor barred p.floor,
        every_by (λ k. ltb (get_or h.costs k 0) barred) (sum_to (dom_in n sizes) n) p.own,
        p.fit,
      )

-- the row of a unit, a value and another unit that are there
pub row-found : (n : ℕ) (dom : ℕ → ℕ) (unit value other : ℕ) → row_there n dom unit value other ≡ true → Row dom n (pred unit) value (pred other)
row-found n dom unit value other e =
    let q = all_four (is_value n unit) (is_value (dom (pred unit)) value) (is_value n other) (not (eqb unit other)) e in
    let a = value_range n unit q.0 in
    let b = value_range (dom (pred unit)) value q.1 in
    let c = value_range n other q.2 in
    let ne : unit ≡ other → ⊥ = eqb-false unit other (not-true (eqb unit other) q.3) in
    record { unit = omega (arith, a.0, a.1); value = b; other = omega (arith, c.0, c.1); apart = λ q. ne (omega (arith, a.0, c.0)) }

-- and by their numbers
pub found_range : (n : ℕ) (dom : ℕ → ℕ) (unit value other : ℕ) → row_there n dom unit value other ≡ true → (1 ≤ unit) × (unit ≤ n) × (1 ≤ other)
found_range n dom unit value other e =
    let q = all_four (is_value n unit) (is_value (dom (pred unit)) value) (is_value n other) (not (eqb unit other)) e in
    let a = value_range n unit q.0 in
    (a.0, a.1, (value_range n other q.2).0)

-- 02: "For every lotting, floor plus total is the same before and after each move"; and no cost is barred or freed
pub record Kept (n : ℕ) (sizes : List ℕ) (h h' : Held) : Type 0 where
  pub same : (l : List ℕ) → Valued (instance_in n sizes h.costs) l → worth n sizes h' l ≡ worth n sizes h l
  pub bars : (p : ℕ) → free h'.costs p ≡ free h.costs p
  pub small : h.floor < barred → h'.floor < barred

pub kept_all : (n : ℕ) (sizes : List ℕ) (h : Held) → Kept n sizes h h
kept_all n sizes h = record { same = λ l v. refl; bars = λ p. refl; small = λ q. q }

-- one move after another
pub kept_on : (n : ℕ) (sizes : List ℕ) (h k m : Held) → Kept n sizes h k → Kept n sizes k m → Kept n sizes h m
kept_on n sizes h k m a b = record { same = λ l v. b.same l v ∙ a.same l v; bars = λ p. b.bars p ∙ a.bars p; small = λ q. b.small (a.small q) }

module _ (n : ℕ) (sizes : List ℕ) (h : Held) where
  abbrev dm : ℕ → ℕ
  dm = dom_in n sizes

  module _ {i u j : ℕ} (r : Row dm n i u j) where
    -- the own cost of the row's value, and those of the row
    abbrev own : ℕ
    own = get_or h.costs (own_at dm i u) 0

    abbrev cost : ℕ → ℕ
    cost v = get_or h.costs (with_at dm n i u j v) 0

    abbrev α : ℕ
    α = row_taken dm n i u j h.costs

    projected-kept : length h.costs ≡ cost_count dm n → free h.costs (own_at dm i u) ≡ true → project_fits dm n i u j h ≡ true → Kept n sizes h (projected dm n i u j h)
    unfolding projected
    projected-kept count good fits =
        record {
          same = λ l v.
              ap (λ (z : Cost). Some h.floor ⊕ z)
              (sym (row-total n sizes r h.costs count (lowered α) (λ x. x + α) (λ w q. lowered_balance own α (cost w) (taken-most (with_at dm n i u j) (dm j) h.costs w q)) l v));
          bars = row-free r h.costs count (lowered α) (λ x. x + α) (λ w q. lowered-free α (cost w)) (fits ∙ sym good);
          small = λ q. q;
        }

    extended-kept : (part : ℕ) → length h.costs ≡ cost_count dm n → free h.costs (own_at dm i u) ≡ true → extend_fits dm n i u j part h ≡ true → Kept n sizes h (extended dm n i u j part h)
    unfolding extended
    extended-kept part count good fits =
        let small : part ≤ own = leb-true part own (and_left (leb part own) _ fits) in
        let room : (w : ℕ) → InDom (dm j) w → raise_fits part (cost w) ≡ true = λ w q.
        let e : suc (w - 1) ≡ w = omega (arith, q.0) in
        ap (λ (z : ℕ). raise_fits part (cost z)) (sym e) ∙ every_at (λ k. raise_fits part (cost (suc k))) (dm j) (and_right (leb part own) _ fits) (w - 1) (omega (arith, q.0, q.1)) in
        record {
          same = λ l v.
              ap (λ (z : Cost). Some h.floor ⊕ z)
              (sym (row-total n sizes r h.costs count (raised part) (λ x. x - part) (λ w q. raised_balance part (cost w) (room w q) own small) l v));
          bars = row-free r h.costs count (raised part) (λ x. x - part) (λ w q. raised-free part (cost w) (room w q))
              (lt-ltb (own - part) barred (omega (arith, ltb-true own barred good)) ∙ sym good);
          small = λ q. q;
        }

  unary_kept : (i : ℕ) → i < n → length h.costs ≡ cost_count dm n → ((k : ℕ) → k < sum_to dm n → free h.costs k ≡ true) → unary_fits dm i h ≡ true → Kept n sizes h (unary_projected dm i h)
  unfolding unary_projected
  unary_kept i unit count good fits =
      let β : ℕ = own_taken dm i h.costs in
      let most : (v : ℕ) → InDom (dm i) v → β ≤ get_or h.costs (own_at dm i v) 0 = λ v q.
      taken-most (own_at dm i) (dm i) h.costs v q (ltb-true (get_or h.costs (own_at dm i v) 0) barred (good (own_at dm i v) (own_inside dm n i v unit q))) in
      record {
        same = λ l v. sym (own-worth n sizes i unit h.costs count good β most l v h.floor);
        bars = each_free (lowered β) (own_at dm i) h.costs (dm i) (own-apart n sizes i unit h.costs count good) (λ v q. lowered-free β (get_or h.costs (own_at dm i v) 0));
        small = λ q. ltb-true (h.floor + β) barred fits;
      }

  -- ---- the theorems: each call keeps these, whatever it is lent

  module _ (unit value other : ℕ) where
    pub project_keeps : Kept n sizes h (project_of n sizes unit value other h).held
    unfolding project_of
    project_keeps = go (eqb (project_refusal n sizes unit value other h) 0) refl
      where
        go : (t : Bool) → eqb (project_refusal n sizes unit value other h) 0 ≡ t → Kept n sizes h (cond t (projected dm n (pred unit) value (pred other) h) h)
        go true e =
            let p = passed n sizes h (row_there n dm unit value other) (project_fits dm n (pred unit) value (pred other) h) (eqb-true (project_refusal n sizes unit value other h) 0 e) in
            let r = row-found n dm unit value other p.found in
            projected-kept r p.count (p.own (own_at dm (pred unit) value) (own_inside dm n (pred unit) value r.unit r.value)) p.fit
        go false e = kept_all n sizes h

    pub extend_keeps : (part : ℕ) → Kept n sizes h (extend_of n sizes unit value other part h).held
    unfolding extend_of
    extend_keeps part = go (eqb (extend_refusal n sizes unit value other part h) 0) refl
      where
        go : (t : Bool) → eqb (extend_refusal n sizes unit value other part h) 0 ≡ t → Kept n sizes h (cond t (extended dm n (pred unit) value (pred other) part h) h)
        go true e =
            let p = passed n sizes h (row_there n dm unit value other) (extend_fits dm n (pred unit) value (pred other) part h) (eqb-true (extend_refusal n sizes unit value other part h) 0 e) in
            let r = row-found n dm unit value other p.found in
            extended-kept r part p.count (p.own (own_at dm (pred unit) value) (own_inside dm n (pred unit) value r.unit r.value)) p.fit
        go false e = kept_all n sizes h

  pub unary_project_keeps : (unit : ℕ) → Kept n sizes h (unary_project_of n sizes unit h).held
  unfolding unary_project_of
  unary_project_keeps unit = go (eqb (unary_project_refusal n sizes unit h) 0) refl
    where
      go : (t : Bool) → eqb (unary_project_refusal n sizes unit h) 0 ≡ t → Kept n sizes h (cond t (unary_projected dm (pred unit) h) h)
      go true e =
          let p = passed n sizes h (is_value n unit) (unary_fits dm (pred unit) h) (eqb-true (unary_project_refusal n sizes unit h) 0 e) in
          let a = value_range n unit p.found in
          unary_kept (pred unit) (omega (arith, a.0, a.1)) p.count p.own p.fit
      go false e = kept_all n sizes h
