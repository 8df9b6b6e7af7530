-- No table comes to a 19 when everything is projected once, so a lower bound is refused only where its costs can't be held. By counting: a binary
-- projection adds at most 60,000 to one own cost, and there are at most 4,096; each of at most 16 unary ones adds at most such an own cost to the floor.
-- In order: places after a change; small costs; the calls; all moves, counted; a table. Assumes nothing.
use Prim.Native.Nat.{ℕ, zero, suc, pred, ◌+◌, ◌*◌, ◌-◌, ◌≤◌, ◌<◌}
use Rattle.std.specs.Prelude.{◌≡◌, Bool, cond, ltb, length, Some, None}
use Rattle.std.proofs.Math.Path.{refl, subst}
use Rattle.std.proofs.Common.{sym, ap, ◌∙◌, le_refl, get_or-set_same, get_or-set_other}
use Rattle.std.proofs.Math.Bool.{true, false}
use mathlib.Core.List.{List}
use native.Mathlib.Omega.{arith}
use Rattle.std.proofs.Math.Nat.{mul-le-mul}
use Rattle.std.proofs.Math.Dec.{eqb}
use Rattle.std.proofs.Math.ListN.{get_or, length-set, get_or-eq_default}
use borrow.Author.Tests.{eqb-true, eqb-false, ltb-true, ltb-false, lt-ltb}
use Rattle.base.specs.Limits.{pair_limit, unary_limit}
use Rattle.base.specs.Refusal.Laws.{or_left}
use Rattle.base.specs.Shape.{is_value, shape_good}
use Rattle.base.specs.Shape.Laws.{range_value, shape_n}
use Rattle.base.specs.Sums.{sum_to}
use Rattle.table.specs.Stream.{in_form_two, units_of, stream_refusal, Accepted}
use Rattle.table.specs.StreamLaws.{unaries_two, accepted_unary, accepted-cost}
use Rattle.costs.specs.Cost.{Cost, as_number, pair_cost}
use Rattle.costs.specs.Cost.Laws.{AtMost, good_cost}
use Rattle.costs.proofs.LeastOf.{most-least}
use Rattle.costs.specs.Instance.{cost_number, dom_in, dom_of}
use Rattle.costs.specs.Gather.{sizes_in}
use Rattle.costs.specs.Gather.Sizes.{accepted-sizes_good}
use Rattle.costs.specs.Laws.Stream.{unaries_from, costs_of, row_start, unary_number_at, cost_number_at, accepted-there, unaries_in_stream, costs_in_stream, dom-most}
use Rattle.projections.specs.Held.{own_at, with_at, cost_count, barred, held_cost, Held}
use Rattle.projections.specs.Held.Laws.{InDom, own_inside}
use Rattle.projections.specs.Moves.{change_at, change_each, lowered, least_at, taken, row_taken, own_taken, projected, unary_projected, row_there, project_fits, unary_fits, refusal_by, Outcome, outcome_by, project_of, unary_project_of, held_by, answer_of}
use Rattle.projections.specs.Moves.Changed.{each_length, Row, row_behind}
use Rattle.projections.specs.Moves.Worth.{unrefused, row-found}
use Rattle.projections.specs.All.{then_move, project_with, project_value, project_unit, project_units, project_own, project_floor, before_all, project_all_of}
use Rattle.projections.specs.All.Laws.{in_order_counts}
use Rattle.projections.specs.Made.{own_number, pair_number, held_of, held_refusal, projected_of, bound_of}
use Rattle.projections.specs.Made.Laws.{held-count, own_held, pair_held, same_dom}

-- ---- what stands at each place, after costs are changed

module _ (P Q : ℕ → ℕ → Type 0) (f : ℕ → ℕ) (q : ℕ) (l : List ℕ) (all : (p : ℕ) → P p (get_or l p 0)) (keep : (p x : ℕ) → P p x → Q p x) (new : (x : ℕ) → P q x → Q q (f x)) where
  changed_all : (p : ℕ) → Q p (get_or (change_at f q l) p 0)
  changed_all p = go (eqb p q) (ltb q (length l)) refl refl
    where
      go : (s t : Bool) → eqb p q ≡ s → ltb q (length l) ≡ t → Q p (get_or (change_at f q l) p 0)
      go false t e h = rw (get_or-set_other l q p (f (get_or l q 0)) 0 (eqb-false p q e)) (keep p (get_or l p 0) (all p))
      go true true e h = rw (eqb-true p q e, get_or-set_same l q (f (get_or l q 0)) 0 (ltb-true q (length l) h)) (new (get_or l q 0) (all q))
      go true false e h =
          let past : length l ≤ q = ltb-false q (length l) h in
          let a : get_or (change_at f q l) q 0 ≡ get_or l q 0 =
          get_or-eq_default (change_at f q l) 0 (omega (arith, length-set l q (f (get_or l q 0)))) ∙ sym (get_or-eq_default l 0 past) in
          rw (eqb-true p q e, a) (keep q (get_or l q 0) (all q))

each_all : (P : ℕ → ℕ → Type 0) (f : ℕ → ℕ) → ((p x : ℕ) → P p x → P p (f x)) → (place : ℕ → ℕ) (l : List ℕ) → ((p : ℕ) → P p (get_or l p 0)) → (d p : ℕ) → P p (get_or (change_each f place d l) p 0)
each_all P f e place l all zero = all
each_all P f e place l all (suc d) = changed_all P P f (place (suc d)) (change_each f place d l) (each_all P f e place l all d) (λ p x h. h) (e (place (suc d)))

-- ---- small costs

-- no more binary projections than these: of 16 units' 16 values with 16 units; an own cost is then at most so much
abbrev move_limit : ℕ
move_limit = 4096

abbrev own_limit : ℕ
own_limit = 245820000

-- what may stand at place p: an own cost of at most M, a pair cost that is barred or at most 60,000
abbrev May : ℕ → ℕ → ℕ → ℕ → Type 0
May own M p x = (p < own → x ≤ M) × (own ≤ p → x < barred → x ≤ pair_limit)

pub record Small (dom : ℕ → ℕ) (n M F : ℕ) (h : Held) : Type 0 where
  pub count : length h.costs ≡ cost_count dom n
  pub floor : h.floor ≤ F
  pub cost : (p : ℕ) → May (sum_to dom n) M p (get_or h.costs p 0)

lowered_may : (own M a p x : ℕ) → May own M p x → May own M p (lowered a x)
lowered_may own M a p x m = go (ltb x barred) refl
  where
    go : (t : Bool) → ltb x barred ≡ t → May own M p (cond t (x - a) x)
    go true e = (λ h. omega (arith, m.0 h), λ h q. omega (arith, m.1 h (ltb-true x barred e)))
    go false e = m

held-most : (L x : ℕ) → (x < barred → x ≤ L) → AtMost L (held_cost x)
held-most L x h = go (ltb x barred) refl
  where
    go : (t : Bool) → ltb x barred ≡ t → AtMost L (cond t (Some x) None)
    go true e = h (ltb-true x barred e)
    go false e = tt

-- of costs that are barred or at most L, at most L is taken
taken_small : (L : ℕ) (place : ℕ → ℕ) (d : ℕ) (l : List ℕ) → ((v : ℕ) → get_or l (place v) 0 < barred → get_or l (place v) 0 ≤ L) → taken (least_at place d l) ≤ L
taken_small L place d l h = go (least_at place d l) (most-least L (λ v. held_cost (get_or l (place v) 0)) d (λ v. held-most L (get_or l (place v) 0) (h v)))
  where
    go : (c : Cost) → AtMost L c → taken c ≤ L
    go (Some a) m = m
    go None m = omega arith

module _ {dom : ℕ → ℕ} {n M F : ℕ} {h : Held} (s : Small dom n M F h) where
  small_more : (N G : ℕ) → M ≤ N → F ≤ G → Small dom n N G h
  small_more N G a b = record { count = s.count; floor = omega (arith, s.floor); cost = λ p. (λ q. omega (arith, (s.cost p).0 q), (s.cost p).1) }

  -- a row's least is at most 60,000, and the least of a unit's own costs at most M
  row_small : {i u j : ℕ} → Row dom n i u j → row_taken dom n i u j h.costs ≤ pair_limit
  row_small {i} {u} {j} r = taken_small pair_limit (with_at dom n i u j) (dom j) h.costs (λ v. (s.cost (with_at dom n i u j v)).1 (row_behind r v))

  own_small : (i : ℕ) → pair_limit ≤ M → own_taken dom i h.costs ≤ M
  own_small i m = taken_small M (own_at dom i) (dom i) h.costs (λ v. go (own_at dom i v) (ltb (own_at dom i v) (sum_to dom n)) refl)
    where
      go : (p : ℕ) (t : Bool) → ltb p (sum_to dom n) ≡ t → get_or h.costs p 0 < barred → get_or h.costs p 0 ≤ M
      go p true e q = (s.cost p).0 (ltb-true p (sum_to dom n) e)
      go p false e q = omega (arith, (s.cost p).1 (ltb-false p (sum_to dom n) e) q)

  projected_small : {i u j : ℕ} → Row dom n i u j → Small dom n (M + pair_limit) F (projected dom n i u j h)
  unfolding projected
  projected_small {i} {u} {j} r =
      let α : ℕ = row_taken dom n i u j h.costs in
      let row : List ℕ = change_each (lowered α) (with_at dom n i u j) (dom j) h.costs in
      record {
        count = length-set row (own_at dom i u) (get_or row (own_at dom i u) 0 + α) ∙ each_length (lowered α) (with_at dom n i u j) h.costs (dom j) ∙ s.count;
        floor = s.floor;
        cost =
            changed_all (May (sum_to dom n) M) (May (sum_to dom n) (M + pair_limit)) (λ x. x + α) (own_at dom i u) row
            (each_all (May (sum_to dom n) M) (lowered α) (lowered_may (sum_to dom n) M α) (with_at dom n i u j) h.costs s.cost (dom j))
            (λ p x m. (λ q. omega (arith, m.0 q), m.1))
            (λ x m. (λ q. omega (arith, m.0 q, row_small r), λ q. absurd (omega (arith, own_inside dom n i u r.unit r.value))));
      }

  unary_small : (i : ℕ) → pair_limit ≤ M → Small dom n M (F + M) (unary_projected dom i h)
  unfolding unary_projected
  unary_small i m =
      let β : ℕ = own_taken dom i h.costs in
      record {
        count = each_length (lowered β) (own_at dom i) h.costs (dom i) ∙ s.count;
        floor = omega (arith, s.floor, own_small i m);
        cost = each_all (May (sum_to dom n) M) (lowered β) (lowered_may (sum_to dom n) M β) (own_at dom i) h.costs s.cost (dom i);
      }

-- ---- the calls

module _ (n : ℕ) (sizes : List ℕ) (shape : shape_good n sizes ≡ true) where
  abbrev dom : ℕ → ℕ
  dom = dom_in n sizes

  -- no move was refused, and the costs are small
  abbrev Good : ℕ → ℕ → Outcome → Type 0
  Good M F x = (x.refusal ≡ 0) × Small dom n M F x.held

  passes : {M F : ℕ} (h : Held) (there fits : Bool) → Small dom n M F h → M < barred → F < barred → there ≡ true → fits ≡ true → refusal_by n sizes h there fits ≡ 0
  passes h there fits s a b t f =
      unrefused n sizes h there fits
      record { shape = shape; count = s.count; found = t; floor = omega (arith, s.floor); own = λ k q. lt-ltb (get_or h.costs k 0) barred (omega (arith, (s.cost k).0 q)); fit = f }

  moved : {M F r : ℕ} (h : Held) {k : Held} → r ≡ 0 → Small dom n M F k → Good M F (outcome_by r h k)
  moved h e s = (e, rw e s)

  then_good : {M F N G : ℕ} (move : Held → Outcome) (x : Outcome) → Good M F x → (Small dom n M F x.held → Good N G (move x.held)) → Good N G (then_move move x)
  then_good move x g e = rw g.0 (e g.1)

  project_good : (M F unit value other : ℕ) (h : Held) → row_there n dom unit value other ≡ true → Small dom n M F h → M + pair_limit < barred → F < barred
      → Good (M + pair_limit) F (project_of n sizes unit value other h)
  unfolding project_of
  project_good M F unit value other h there s a b =
      let i : ℕ = pred unit in
      let j : ℕ = pred other in
      let r : Row dom n (pred unit) value (pred other) = row-found n dom unit value other there in
      let own : get_or h.costs (own_at dom i value) 0 ≤ M = (s.cost (own_at dom i value)).0 (own_inside dom n i value r.unit r.value) in
      let fits : project_fits dom n i value j h ≡ true = lt-ltb (get_or h.costs (own_at dom i value) 0 + row_taken dom n i value j h.costs) barred (omega (arith, row_small s r)) in
      moved h (passes h (row_there n dom unit value other) (project_fits dom n i value j h) s (omega arith) b there fits) (projected_small s r)

  unary_good : (M F unit : ℕ) (h : Held) → is_value n unit ≡ true → Small dom n M F h → pair_limit ≤ M → M < barred → F + M < barred → Good M (F + M) (unary_project_of n sizes unit h)
  unfolding unary_project_of
  unary_good M F unit h there s m a b =
      let i : ℕ = pred unit in
      let fits : unary_fits dom i h ≡ true = lt-ltb (h.floor + own_taken dom i h.costs) barred (omega (arith, s.floor, own_small s i m)) in
      moved h (passes h (is_value n unit) (unary_fits dom i h) s a (omega arith) there fits) (unary_small s i m)

  -- ---- all of them, counted

  -- after k binary projections, and after k unary ones
  abbrev Lifted : ℕ → Outcome → Type 0
  Lifted k x = k ≤ move_limit → Good (pair_limit * suc k) 0 x

  abbrev Floored : ℕ → Outcome → Type 0
  Floored k x = k ≤ 16 → Good own_limit (own_limit * k) x

  lifted_more : (k m : ℕ) (x : Outcome) → k ≤ m → Lifted k x → Lifted m x
  lifted_more k m x h g few = let p = g (omega arith) in (p.0, small_more p.1 (pair_limit * suc m) 0 (omega arith) (omega arith))

  with_lifted : (unit value other : ℕ) → InDom n unit → InDom (dom (pred unit)) value → InDom n other → (k : ℕ) (x : Outcome) → Lifted k x → Lifted (k + 1) (project_with n sizes unit value other x)
  unfolding project_with
  with_lifted unit value other a b c k x g = go (eqb unit other) refl
    where
      go : (t : Bool) → eqb unit other ≡ t → Lifted (k + 1) (cond t x (then_move (project_of n sizes unit value other) x))
      go true e few = lifted_more k (k + 1) x (omega arith) g few
      go false e few =
          let there : row_there n dom unit value other ≡ true = rw (range_value n unit a.0 a.1, range_value (dom (pred unit)) value b.0 b.1, range_value n other c.0 c.1, e) in
          let z : pair_limit * suc k + pair_limit ≡ pair_limit * suc (k + 1) = omega arith in
          subst (λ (M : ℕ). Good M 0 (then_move (project_of n sizes unit value other) x)) z
          (then_good (project_of n sizes unit value other) x (g (omega arith))
          (λ s. project_good (pair_limit * suc k) 0 unit value other x.held there s (omega arith) (omega arith)))

  value_lifted : (unit value : ℕ) → InDom n unit → InDom (dom (pred unit)) value → (k : ℕ) (x : Outcome) → Lifted k x → Lifted (k + n) (project_value n sizes unit value x)
  unfolding project_value
  value_lifted unit value a b k x g =
      lifted_more (k + 1 * n) (k + n) (project_value n sizes unit value x) (omega arith)
      (in_order_counts Lifted (λ (j : ℕ) (y : Outcome). project_with n sizes unit value (suc j) y) 1 n (λ j m y h. with_lifted unit value (suc j) a b (omega arith, h) m y) k x g)

  module _ (few : (i : ℕ) → dom i ≤ 16) where
    unit_lifted : (i : ℕ) → i < n → (k : ℕ) (x : Outcome) → Lifted k x → Lifted (k + n * 16) (project_unit n sizes i x)
    unfolding project_unit
    unit_lifted i h k x g =
        let w : n * dom i ≤ n * 16 = mul-le-mul (le_refl n) (few i) in
        lifted_more (k + n * dom i) (k + n * 16) (project_unit n sizes i x) (omega arith)
        (in_order_counts Lifted (λ (j : ℕ) (y : Outcome). project_value n sizes (suc i) (suc j) y) n (dom i) (λ j m y q. value_lifted (suc i) (suc j) (omega arith, h) (omega arith, q) m y) k x g)

    units_lifted : (x : Outcome) → Lifted 0 x → Lifted move_limit (project_units n sizes x)
    unfolding project_units
    units_lifted x g =
        let m : n ≤ 16 = (shape_n n sizes shape).1 in
        let d : n * 16 ≤ 256 = omega arith in
        let w : n * 16 * n ≤ 256 * 16 = mul-le-mul d m in
        lifted_more (0 + n * 16 * n) move_limit (project_units n sizes x) (omega arith)
        (in_order_counts Lifted (λ (i : ℕ) (y : Outcome). project_unit n sizes i y) (n * 16) n (λ i k y h. unit_lifted i h k y) 0 x g)

    own_floored : (unit : ℕ) → InDom n unit → (k : ℕ) (x : Outcome) → Floored k x → Floored (k + 1) (project_own n sizes unit x)
    unfolding project_own
    own_floored unit a k x g most =
        let z : own_limit * k + own_limit ≡ own_limit * (k + 1) = omega arith in
        subst (λ (F : ℕ). Good own_limit F (then_move (unary_project_of n sizes unit) x)) z
        (then_good (unary_project_of n sizes unit) x (g (omega arith))
        (λ s. unary_good own_limit (own_limit * k) unit x.held (range_value n unit a.0 a.1) s (omega arith) (omega arith) (omega arith)))

    floor_given : (x : Outcome) → Floored 0 x → (project_floor n sizes x).refusal ≡ 0
    unfolding project_floor
    floor_given x g =
        let m : n ≤ 16 = (shape_n n sizes shape).1 in
        (in_order_counts Floored (λ (i : ℕ) (y : Outcome). project_own n sizes (suc i) y) 1 n (λ i k y h. own_floored (suc i) (omega arith, h) k y) 0 x g (omega arith)).0

    all_given : (h : Held) → Small dom n pair_limit 0 h → (project_all_of n sizes h).refusal ≡ 0
    unfolding project_all_of
    all_given h s =
        let start : Good pair_limit 0 (before_all n sizes h) = (passes h true true s (omega arith) (omega arith) refl refl, s) in
        let units : Lifted move_limit (project_units n sizes (before_all n sizes h)) = units_lifted (before_all n sizes h) (λ q. start) in
        floor_given (project_units n sizes (before_all n sizes h)) (λ q. units (omega arith))

-- ---- a table's

abbrev own_count : List ℕ → ℕ
own_count s = sum_to (dom_of s) (units_of s)

abbrev pair_count : List ℕ → ℕ
pair_count s = row_start (dom_of s) (units_of s) (units_of s)

module _ (s : List ℕ) (ok : Accepted s) where
  own-most : (k : ℕ) → k < own_count s → own_number s k ≤ unary_limit
  own-most k h = go (in_form_two s) refl
    where
      go : (t : Bool) → in_form_two s ≡ t → cond t (cost_number (unaries_from s) k) 0 ≤ unary_limit
      go true e = rw (unary_number_at s k) (accepted_unary s ok k (omega (arith, unaries_in_stream s (accepted-there s ok), unaries_two s e)))
      go false e = omega arith

  pair_most : (k : ℕ) → k < pair_count s → pair_number s k < barred → pair_number s k ≤ pair_limit
  pair_most k h =
      go (pair_cost (cost_number (costs_of s) k)) (good_cost (cost_number (costs_of s) k) (rw (cost_number_at s k) (accepted-cost s ok k (omega (arith, costs_in_stream s (accepted-there s ok))))))
    where
      go : (c : Cost) → AtMost pair_limit c → as_number c < barred → as_number c ≤ pair_limit
      go (Some a) m q = m
      go None m q = absurd (omega arith)

  held_small : Small (dom_of s) (units_of s) pair_limit 0 (held_by 0 (held_of s))
  held_small =
      record {
        count = held-count s;
        floor = omega arith;
        cost = λ p. (λ h. rw (own_held s p h) (own-most p h), λ h. behind p h (ltb (p - own_count s) (pair_count s)) refl);
      }
    where
      behind : (p : ℕ) → own_count s ≤ p → (t : Bool) → ltb (p - own_count s) (pair_count s) ≡ t → get_or (held_of s) p 0 < barred → get_or (held_of s) p 0 ≤ pair_limit
      behind p h true e =
          let k : ℕ = p - own_count s in
          let q : k < pair_count s = ltb-true k (pair_count s) e in
          let z : get_or (held_of s) p 0 ≡ pair_number s k = ap (λ (i : ℕ). get_or (held_of s) i 0) (omega arith) ∙ pair_held s k q in
          rw z (pair_most k q)
      behind p h false e =
          let z : get_or (held_of s) p 0 ≡ 0 = get_or-eq_default (held_of s) 0 (omega (arith, held-count s, ltb-false (p - own_count s) (pair_count s) e)) in
          λ q. omega arith

  -- everything projected once is refused for no table
  pub table_projects : (projected_of s).refusal ≡ 0
  table_projects =
      all_given (units_of s) (sizes_in s) (accepted-sizes_good s ok) (λ i. subst (λ (d : ℕ → ℕ). d i ≤ 16) (sym (same_dom s ok)) (dom-most s ok i)) (held_by 0 (held_of s))
      (subst (λ (d : ℕ → ℕ). Small d (units_of s) pair_limit 0 (held_by 0 (held_of s))) (sym (same_dom s ok)) held_small)

-- so a lower bound is refused just as holding the costs is: by 5, 6, 7, 13, never by 19
pub bound_refusal : (s : List ℕ) (room : ℕ) → (bound_of s room).refusal ≡ held_refusal s room
unfolding bound_of held_refusal Accepted
bound_refusal s room = go (eqb (held_refusal s room) 0) refl
  where
    go : (t : Bool) → eqb (held_refusal s room) 0 ≡ t → (cond t (answer_of (projected_of s)) (record { refusal = held_refusal s room; floor = 0 })).refusal ≡ held_refusal s room
    go true e =
        let z : held_refusal s room ≡ 0 = eqb-true (held_refusal s room) 0 e in
        table_projects s (or_left (stream_refusal s) (cond (ltb room (length (held_of s))) 13 0) z) ∙ sym z
    go false e = refl
