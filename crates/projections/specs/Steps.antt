-- What the code goes by: runs of costs at even steps, which stand where specs/Held says; that the laws of these places carry over; and the moves as
-- the code makes them. Assumes nothing.
use Rattle.std.specs.Prelude.{ℕ, zero, suc, pred, ◌+◌, ◌*◌, ◌-◌, ◌≤◌, ◌<◌, min, ◌≡◌, refl, Bool, true, false, cond, ◌&&◌, List, ltb, length, get_or, set}
use Rattle.std.proofs.Common.{sym, ap, ◌∙◌, subst, arith, mul_comm, add-one, ltb-true, ltb-false, lt-ltb, le-ltb, eq-eqb, ne_eqb}
use Rattle.std.specs.Prelude.{take}
use Rattle.std.specs.List.{list_all}
use Rattle.std.proofs.lemmas.List.Folds.{list_all_more}
use Rattle.base.specs.Every.{every}
use Rattle.base.specs.Every.Laws.{every_by}
use Rattle.base.specs.Shape.{shape_good}
use Rattle.base.specs.Sums.{sum_from, sum_to}
use Rattle.base.specs.Sums.Laws.{sum_to_sum_from}
use Rattle.costs.specs.Instance.{dom_in, pair_start, in_pair}
use Rattle.costs.specs.Cost.{lesser}
use Rattle.costs.specs.Cost.Laws.{least_cong}
use Rattle.projections.specs.declared.Moved.{Moved}
use Rattle.projections.specs.declared.Run.{Run}
use Rattle.projections.specs.declared.Found.{Found}
use Rattle.projections.specs.Held.{own_at, with_at, cost_count, barred, held_cost, Held}
use Rattle.projections.specs.Held.Laws.{InDom, with_later, with_earlier}
use Rattle.projections.specs.Moves.{in_order, change_each, least_at, lowered, raised, raise_fits, row_there, lent_good, refusal_by, Outcome, held_by, answer_of}
use Rattle.projections.specs.Moves.Changed.{Apart, Row, apart_upto, each_next}
use Rattle.projections.specs.Moves.Worth.{passed}
pub mod Calls

-- ---- runs

-- where the cost of value v stands
abbrev pub run_place : Run → ℕ → ℕ
run_place run v = run.start + run.step * (v - 1)

-- the run has the costs of d values, which stand at these places
pub record RunOf (place : ℕ → ℕ) (d : ℕ) (run : Run) : Type 0 where
  pub count : run.count ≡ d
  pub at : (v : ℕ) → place v ≡ run_place run v
  pub low : run.start ≤ 67108864
  pub near : run.step ≤ 255
  pub few : run.count ≤ 255

-- its costs are there
pub record Inside (run : Run) (l : List ℕ) : Type 0 where
  pub there : (k : ℕ) → k < run.count → run.start + run.step * k < length l
  pub low : run.start ≤ 67108864
  pub near : run.step ≤ 255
  pub few : run.count ≤ 255

-- and each can be raised by so much
pub record Raisable (run : Run) (by : ℕ) (l : List ℕ) : Type 0 where
  pub apart : Apart (run_place run) l run.count
  pub fits : (v : ℕ) → InDom run.count v → raise_fits by (get_or l (run_place run v) 0) ≡ true

-- raised by so much where `up`, else lowered
abbrev pub shifted : Bool → ℕ → ℕ → ℕ
shifted true by = raised by
shifted false by = lowered by

-- ---- the row that a move finds

-- where its costs stand, and that the own cost is one: nothing is refused before the amount
pub record RowAt (n : ℕ) (sizes : List ℕ) (unit value other : ℕ) (h : Held) (f : Found) : Type 0 where
  pub none : refusal_by n sizes h (row_there n (dom_in n sizes) unit value other) true ≡ 0
  pub row : Row (dom_in n sizes) n (pred unit) value (pred other)
  pub count : length h.costs ≡ cost_count (dom_in n sizes) n
  pub own : f.own ≡ own_at (dom_in n sizes) (pred unit) value
  pub low : f.own ≤ 4335
  pub there : f.own < length h.costs
  pub small : get_or h.costs f.own 0 < barred
  pub run : RunOf (with_at (dom_in n sizes) n (pred unit) value (pred other)) (dom_in n sizes (pred other)) f.row

-- ---- places that are the same

each_places : (f : ℕ → ℕ) (place other : ℕ → ℕ) → ((v : ℕ) → place v ≡ other v) → (d : ℕ) (l : List ℕ) → change_each f place d l ≡ change_each f other d l
each_places f place other e zero l = refl
each_places f place other e (suc d) l = rw (each_places f place other e d l, e (suc d))

every_same : (p q : ℕ → Bool) → ((k : ℕ) → p k ≡ q k) → (m : ℕ) → every p m ≡ every q m
every_same p q e zero = refl
every_same p q e (suc m) = rw (every_same p q e m, e m)

module _ {place : ℕ → ℕ} {d : ℕ} {run : Run} (r : RunOf place d run) where
  pub run_each : (f : ℕ → ℕ) (l : List ℕ) → change_each f (run_place run) run.count l ≡ change_each f place d l
  run_each f l = rw r.count (each_places f (run_place run) place (λ v. sym (r.at v)) d l)

  pub run-least : (l : List ℕ) → least_at (run_place run) run.count l ≡ least_at place d l
  run-least l = rw r.count (least_cong (λ v. held_cost (get_or l (run_place run v) 0)) (λ v. held_cost (get_or l (place v) 0)) d (λ v. ap (λ (p : ℕ). held_cost (get_or l p 0)) (sym (r.at v))))

  pub run-every : (test : ℕ → Bool) (l : List ℕ) → every (λ k. test (get_or l (run_place run (suc k)) 0)) run.count ≡ every (λ k. test (get_or l (place (suc k)) 0)) d
  run-every test l = rw r.count (every_same (λ k. test (get_or l (run_place run (suc k)) 0)) (λ k. test (get_or l (place (suc k)) 0)) (λ k. ap (λ (p : ℕ). test (get_or l p 0)) (sym (r.at (suc k)))) d)

  pub run_inside : (l : List ℕ) → Apart place l d → Inside run l
  run_inside l a =
      record {
        there = λ k h.
            let e : suc k - 1 ≡ k = omega arith in
            let q = a.there (suc k) (omega arith, omega (arith, r.count)) in
            subst (λ (m : ℕ). run.start + run.step * m < length l) e (subst (λ (p : ℕ). p < length l) (r.at (suc k)) q);
        low = r.low;
        near = r.near;
        few = r.few;
      }

  pub run-apart : (l : List ℕ) → Apart place l d → Apart (run_place run) l run.count
  run-apart l a = rw r.count record { once = λ v w p q e. a.once v w p q (r.at v ∙ e ∙ sym (r.at w)); there = λ v p. subst (λ (x : ℕ). x < length l) (r.at v) (a.there v p) }

-- ---- the least cost of a run

-- one cost more
pub least-next : (run : Run) (k : ℕ) (l : List ℕ) → lesser (least_at (run_place run) k l) (held_cost (get_or l (run.start + run.step * k) 0)) ≡ least_at (run_place run) (k + 1) l
least-next run k l =
    let q : suc k - 1 ≡ k = omega arith in
    rw (add-one k, q)

-- the least of two is that of their numbers, of which a barred one is the largest
pub held_min : (a b : ℕ) → held_cost (min a b) ≡ lesser (held_cost a) (held_cost b)
held_min a b = go (ltb a barred) refl (ltb b barred) refl
  where
    go : (s : Bool) → ltb a barred ≡ s → (t : Bool) → ltb b barred ≡ t → held_cost (min a b) ≡ lesser (held_cost a) (held_cost b)
    go true p true q = rw (p, q, lt-ltb (min a b) barred (omega (arith, ltb-true a barred p, ltb-true b barred q)))
    go true p false q = let e : min a b ≡ a = omega (arith, ltb-true a barred p, ltb-false b barred q) in rw (e, p, q)
    go false p true q = let e : min a b ≡ b = omega (arith, ltb-false a barred p, ltb-true b barred q) in rw (e, p, q)
    go false p false q = rw (p, q, le-ltb (min a b) barred (omega (arith, ltb-false a barred p, ltb-false b barred q)))

-- ---- a test of the first of some costs

pub all_every : (p : ℕ → Bool) (l : List ℕ) (m : ℕ) → m ≤ length l → list_all p (take m l) ≡ every (λ k. p (get_or l k 0)) m
all_every p l zero h = refl
all_every p l (suc m) h =
    ap (λ (i : ℕ). list_all p (take i l)) (sym (add-one m)) ∙ list_all_more p l m 0 (omega arith) ∙ ap (λ (b : Bool). b && p (get_or l m 0)) (all_every p l m (omega arith))

-- ---- costs changed one by one

pub each_turn : (f : ℕ → ℕ) (run : Run) (k : ℕ) (l m : List ℕ) (x : ℕ) → m ≡ change_each f (run_place run) k l → x ≡ f (get_or m (run.start + run.step * k) 0)
    → set m (run.start + run.step * k) x ≡ change_each f (run_place run) (k + 1) l
each_turn f run k l m x e q =
    let z : suc k - 1 ≡ k = omega arith in
    rw (add-one k, z, q, e)

-- the next cost of the run is as it was, and so can be raised
pub shift_turn : (run : Run) (by : ℕ) (up : Bool) (k : ℕ) (l m : List ℕ) → (up ≡ true → Raisable run by l) → k < run.count → m ≡ change_each (shifted up by) (run_place run) k l
    → up ≡ true → raise_fits by (get_or m (run.start + run.step * k) 0) ≡ true
shift_turn run by up k l m r h e t =
    let z : suc k - 1 ≡ k = omega arith in
    let a : Apart (run_place run) l (suc k) = apart_upto (run_place run) l (suc k) run.count h (r t).apart in
    let f : raise_fits by (get_or l (run_place run (suc k)) 0) ≡ true = (r t).fits (suc k) (omega arith, h) in
    let g : raise_fits by (get_or (change_each (shifted up by) (run_place run) k l) (run_place run (suc k)) 0) ≡ true = rw (each_next (shifted up by) (run_place run) l k a) f in
    rw e (subst (λ (i : ℕ). raise_fits by (get_or (change_each (shifted up by) (run_place run) k l) (run.start + run.step * i) 0) ≡ true) z g)

pub raise_room : (by x : ℕ) → x < barred → raise_fits by x ≡ true → x + by < barred
raise_room by x h e = ltb-true (x + by) barred (subst (λ (t : Bool). cond t (ltb (x + by) barred) true ≡ true) (lt-ltb x barred h) e)

-- ---- tests as the code makes them

-- a sum stays below a limit where what is added is below what is left
pub fits-left : (limit x more : ℕ) → x ≤ limit → ltb more (limit - x) ≡ ltb (x + more) limit
fits-left limit x more h = go (ltb more (limit - x)) refl
  where
    go : (t : Bool) → ltb more (limit - x) ≡ t → ltb more (limit - x) ≡ ltb (x + more) limit
    go true e = let m = ltb-true more (limit - x) e in e ∙ sym (lt-ltb (x + more) limit (omega arith))
    go false e = let m = ltb-false more (limit - x) e in e ∙ sym (le-ltb (x + more) limit (omega arith))

pub before_one : (x : ℕ) → x - 1 ≡ pred x
before_one zero = refl
before_one (suc x) = omega arith

-- the refusals that come before the amount, one after another
module _ (n : ℕ) (sizes : List ℕ) (h : Held) (there : Bool) where
  abbrev dm : ℕ → ℕ
  dm = dom_in n sizes

  pub refused_shape : shape_good n sizes ≡ false → 5 ≡ refusal_by n sizes h there true
  refused_shape a = rw a

  module _ (a : shape_good n sizes ≡ true) where
    pub refused-count : (length h.costs ≡ cost_count dm n → ⊥) → 6 ≡ refusal_by n sizes h there true
    refused-count b = rw (a, ne_eqb (length h.costs) (cost_count dm n) b)

    module _ (b : length h.costs ≡ cost_count dm n) where
      pub refused-there : there ≡ false → 10 ≡ refusal_by n sizes h there true
      refused-there c = rw (a, eq-eqb (length h.costs) (cost_count dm n) b, c)

      module _ (c : there ≡ true) where
        pub refused_floor : barred ≤ h.floor → 19 ≡ refusal_by n sizes h there true
        refused_floor d = rw (a, eq-eqb (length h.costs) (cost_count dm n) b, c, le-ltb h.floor barred d)

        pub by_own : h.floor < barred → (t : Bool) → t ≡ every (λ k. ltb (get_or h.costs k 0) barred) (sum_to dm n) → ◌≡◌ {A = ℕ} (cond t 0 19) (refusal_by n sizes h there true)
        by_own d t e = rw (a, eq-eqb (length h.costs) (cost_count dm n) b, c, lt-ltb h.floor barred d, ← e) (go t)
          where
            go : (t : Bool) → ◌≡◌ {A = ℕ} (cond t 0 19) (cond (t && true) 0 19)
            go true = refl
            go false = refl

-- the amount comes last
pub fits_last : (n : ℕ) (sizes : List ℕ) (h : Held) (there fits : Bool) → refusal_by n sizes h there true ≡ 0 → refusal_by n sizes h there fits ≡ cond fits 0 19
fits_last n sizes h there fits e =
    let p = passed n sizes h there true e in
    let q : lent_good (dom_in n sizes) n h ≡ true = rw (lt-ltb h.floor barred p.floor, every_by (λ k. ltb (get_or h.costs k 0) barred) (sum_to (dom_in n sizes) n) p.own) in
    rw (p.shape, eq-eqb (length h.costs) (cost_count (dom_in n sizes) n) p.count, p.found, q)

-- ---- places as the code counts them

module _ (dom : ℕ → ℕ) where
  pub sum_upto : (s m k : ℕ) → s ≡ sum_from dom 0 m → m ≡ k → s ≡ sum_to dom k
  sum_upto s m k e q = e ∙ ap (λ (x : ℕ). sum_from dom 0 x) q ∙ sym (sum_to_sum_from dom k)

  -- the own costs of a unit
  pub own-run_is : (i s d : ℕ) → s ≡ sum_to dom i → d ≡ dom i → s ≤ 67108864 → d ≤ 255 → RunOf (own_at dom i) (dom i) (record { start = s; step = 1; count = d })
  own-run_is i s d e q low few = record { count = q; at = λ v. omega arith; low = low; near = omega arith; few = few }

  -- the row of value u of unit i with unit j: with a later one its costs stand side by side, with an earlier one a row of that unit's apart
  module _ (n i u j own pairs d : ℕ) (e : own ≡ sum_to dom n) (q : d ≡ dom j) (few : d ≤ 255) where
    pub later_run_is : (x : ℕ) → i < j → pairs ≡ pair_start dom n i j → x ≡ u - 1 → own + (pairs + x * d) ≤ 67108864
        → RunOf (with_at dom n i u j) (dom j) (record { start = own + (pairs + x * d); step = 1; count = d })
    later_run_is x h p y low =
        let z : x * d ≡ (u - 1) * dom j = rw (y, q) in
        record { count = q; at = λ v. with_later dom n i u j v h ∙ omega arith; low = low; near = omega arith; few = few }

    pub earlier-run_is : (x c : ℕ) → j < i → pairs ≡ pair_start dom n j i → x ≡ u - 1 → c ≡ dom i → c ≤ 255 → own + (pairs + x) ≤ 67108864
        → RunOf (with_at dom n i u j) (dom j) (record { start = own + (pairs + x); step = c; count = d })
    earlier-run_is x c h p y f near low =
        record { count = q; at = λ v. with_earlier dom n i u j v h ∙ earlier v; low = low; near = near; few = few }
      where
        earlier : (v : ℕ) → sum_to dom n + (pair_start dom n j i + in_pair (dom i) v u) ≡ own + (pairs + x) + c * (v - 1)
        earlier v = let z : (v - 1) * dom i ≡ c * (v - 1) = mul_comm (v - 1) (dom i) ∙ rw f in omega arith

-- ---- one move after another

-- where the moves stand: the answer so far, and the costs
abbrev pub outcome_in : Moved → List ℕ → Outcome
outcome_in m costs = record { refusal = m.refusal; held = held_by m.floor costs }

-- an answer, and the costs that it leaves, are its outcome
pub outcome_is : (m : Moved) (l : List ℕ) (x : Outcome) → m ≡ answer_of x → l ≡ x.held.costs → outcome_in m l ≡ x
outcome_is m l x e q = rw (e, q)

pub answer_is : (m : Moved) (l : List ℕ) (x : Outcome) → outcome_in m l ≡ x → (m ≡ answer_of x) × (l ≡ x.held.costs)
answer_is m l x e = (ap answer_of e, ap (λ (y : Outcome). y.held.costs) e)

pub in_order-next : (f : ℕ → Outcome → Outcome) (k : ℕ) (x y z : Outcome) → y ≡ in_order f k x → z ≡ f k y → z ≡ in_order f (k + 1) x
in_order-next f k x y z e q = rw (add-one k, q, e)
