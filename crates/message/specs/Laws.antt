-- Laws of a message's fields: what a filled stamp or assignment holds place by place, and the parts of checks 9 and 10.
--     filled_at, filled_past, filled_by     `filled_to`, place by place
--     bound_by, bound_parts, not_none_is, no_bound_by, blank-filled     a bound with its best assignment
--     cost_by, none_by, cost-most, cost_or_none     a cost within what a kind carries
--     address_by, addressed; formed_by, formed     checks 10 and 9 from their parts, and their parts
-- Assumes nothing.
use Rattle.std.specs.Prelude.{ℕ, ◌-◌, ◌≤◌, ◌<◌, ◌⊎◌, ◌≡◌, refl, Bool, true, false, cond, ◌&&◌, ◌||◌, List, ltb, leb, eqb, get_or, replicate}
use Rattle.std.proofs.Common.{inl, inr, ⊎_elim, sym, ◌∙◌, arith, leb-true, le-leb, ltb-true, ltb-false, lt-ltb, le-ltb, eqb-true, eq-eqb, ne_eqb}
use Rattle.std.proofs.lemmas.Bool.{false≢true}
use Rattle.base.specs.Every.Laws.{every_at, every_by}
use Rattle.base.specs.Limits.{places, total_limit, NONE}
use Rattle.base.specs.Shape.{is_value}
use Rattle.base.specs.Shape.Laws.{and_left, and_right, value_range, range_value}
use Rattle.message.specs.declared.Carried.{Carried}
use Rattle.message.specs.declared.Kind.{Kind}
use Rattle.message.specs.declared.Message.{Message}
use Rattle.message.specs.Message.{place_at, filled_to, bound_good, none_or_bound, no_bound, carried_of, cost_fits, bound_fits, direction_good, is_unit, address_good, well_formed}

-- how many units of a CPA are filled
abbrev pub cpa_count : ℕ → ℕ → ℕ
cpa_count s r = cond (ltb s r) (r - 1) r

-- ------------------------------------------------------------------------------------------------------------------
-- `filled_to`, place by place.

pub filled_at : (k : ℕ) (sizes l : List ℕ) → filled_to k sizes l ≡ true → (j : ℕ) → j < k → j < places → (1 ≤ get_or l j 0) × (get_or l j 0 ≤ get_or sizes j 0)
unfolding filled_to
filled_at k sizes l e j a b =
    let h : is_value (get_or sizes j 0) (get_or l j 0) ≡ true = rw (lt-ltb j k a) at (every_at (place_at k sizes l) places e j b) in
    value_range (get_or sizes j 0) (get_or l j 0) h

pub filled_past : (k : ℕ) (sizes l : List ℕ) → filled_to k sizes l ≡ true → (j : ℕ) → k ≤ j → j < places → get_or l j 0 ≡ 0
unfolding filled_to
filled_past k sizes l e j a b =
    let h : eqb (get_or l j 0) 0 ≡ true = rw (le-ltb j k a) at (every_at (place_at k sizes l) places e j b) in
    eqb-true _ _ h

pub filled_by : (k : ℕ) (sizes l : List ℕ) → ((j : ℕ) → j < k → j < places → (1 ≤ get_or l j 0) × (get_or l j 0 ≤ get_or sizes j 0)) → ((j : ℕ) → k ≤ j → j < places → get_or l j 0 ≡ 0)
    → filled_to k sizes l ≡ true
unfolding filled_to
filled_by k sizes l f g = every_by (place_at k sizes l) places place
  where
    go : (j : ℕ) (b : Bool) → ltb j k ≡ b → j < places → cond b (is_value (get_or sizes j 0) (get_or l j 0)) (eqb (get_or l j 0) 0) ≡ true
    go j true q h = let u : j < k = ltb-true j k q in range_value (get_or sizes j 0) (get_or l j 0) (f j u h).0 (f j u h).1
    go j false q h = eq-eqb _ _ (g j (ltb-false j k q) h)

    place : (j : ℕ) → j < places → place_at k sizes l j ≡ true
    place j h = go j (ltb j k) refl h

-- ------------------------------------------------------------------------------------------------------------------
-- A bound with its best assignment.

pub bound_by : (n : ℕ) (sizes : List ℕ) (bound : ℕ) (best : List ℕ) → bound ≤ total_limit → filled_to n sizes best ≡ true → bound_good n sizes bound best ≡ true
unfolding bound_good
bound_by n sizes bound best h e = rw (le-leb bound total_limit h) e

pub bound_parts : (n : ℕ) (sizes : List ℕ) (bound : ℕ) (best : List ℕ) → bound_good n sizes bound best ≡ true → (bound ≤ total_limit) × (filled_to n sizes best ≡ true)
unfolding bound_good
bound_parts n sizes bound best e = (leb-true bound total_limit (and_left _ _ e), and_right (leb bound total_limit) _ e)

pub not_none_is : (n : ℕ) (sizes : List ℕ) (bound : ℕ) (best : List ℕ) → bound < NONE → none_or_bound n sizes bound best ≡ bound_good n sizes bound best
unfolding none_or_bound
not_none_is n sizes bound best h = rw (ne_eqb bound NONE (λ q. omega arith))

pub no_bound_by : (sizes : List ℕ) (bound : ℕ) (best : List ℕ) → bound ≡ 0 → filled_to 0 sizes best ≡ true → no_bound sizes bound best ≡ true
unfolding no_bound
no_bound_by sizes bound best h e = rw (eq-eqb bound 0 h) e

-- an empty assignment fills nothing
pub blank-filled : (sizes : List ℕ) → filled_to 0 sizes (replicate places 0) ≡ true
unfolding filled_to
blank-filled sizes = refl

-- ------------------------------------------------------------------------------------------------------------------
-- A cost within what a kind carries.

or_true : (a : Bool) → (a || true) ≡ true
or_true true = refl
or_true false = refl

module _ (c : Carried) where
  pub cost_by : (x : ℕ) → x ≤ c.cost → cost_fits c x ≡ true
  cost_by x h = rw (le-leb x c.cost h)

  pub none_by : c.none ≡ true → cost_fits c NONE ≡ true
  none_by e = rw e (or_true (leb NONE c.cost))

  pub cost_or_none : (x : ℕ) → cost_fits c x ≡ true → (x ≤ c.cost) ⊎ ((c.none ≡ true) × (x ≡ NONE))
  cost_or_none x = go (leb x c.cost) refl
    where
      go : (a : Bool) → leb x c.cost ≡ a → (a || (c.none && eqb x NONE)) ≡ true → (x ≤ c.cost) ⊎ ((c.none ≡ true) × (x ≡ NONE))
      go true l e = inl (leb-true x c.cost l)
      go false l e = inr (and_left _ _ e, eqb-true x NONE (and_right c.none _ e))

  -- where it may not be NONE: on every kind but an estimate
  pub cost-most : c.none ≡ false → (x : ℕ) → cost_fits c x ≡ true → x ≤ c.cost
  cost-most never x e = ⊎_elim (λ l. l) (λ q. absurd (false≢true (sym never ∙ q.0))) (cost_or_none x e)

-- ------------------------------------------------------------------------------------------------------------------
-- The parts of checks 10 and 9.

pub address_by : (n : ℕ) (m : Message) → 1 ≤ m.sender → m.sender ≤ n → 1 ≤ m.receiver → m.receiver ≤ n → address_good n m ≡ true
unfolding address_good
address_by n m a b c d = rw (range_value n m.sender a b, range_value n m.receiver c d)

pub record Addressed (n : ℕ) (m : Message) : Type 0 where
  pub from : 1 ≤ m.sender
  pub from_most : m.sender ≤ n
  pub to : 1 ≤ m.receiver
  pub to_most : m.receiver ≤ n

pub addressed : (n : ℕ) (m : Message) → address_good n m ≡ true → Addressed n m
unfolding address_good
addressed n m e =
    let f = value_range n m.sender (and_left _ _ e) in
    let g = value_range n m.receiver (and_right (is_unit n m.sender) _ e) in
    record { from = f.0; from_most = f.1; to = g.0; to_most = g.1 }

-- check 9, part by part
pub record Formed (n : ℕ) (sizes : List ℕ) (k : Kind) (m : Message) : Type 0 where
  pub direction : direction_good n k m.sender m.receiver ≡ true
  pub stamps : filled_to (carried_of k m).stamps sizes m.stamp ≡ true
  pub values : filled_to (carried_of k m).values sizes m.values ≡ true
  pub cost : cost_fits (carried_of k m) m.cost ≡ true
  pub bound : bound_fits n sizes k m.bound m.best ≡ true

pub formed_by : (n : ℕ) (sizes : List ℕ) (k : Kind) (m : Message) → Formed n sizes k m → well_formed n sizes k m ≡ true
unfolding well_formed
formed_by n sizes k m f = rw (f.direction, f.stamps, f.values, f.cost) f.bound

pub formed : (n : ℕ) (sizes : List ℕ) (k : Kind) (m : Message) → well_formed n sizes k m ≡ true → Formed n sizes k m
unfolding well_formed
formed n sizes k m e =
    let a : Bool = direction_good n k m.sender m.receiver in
    let b : Bool = filled_to (carried_of k m).stamps sizes m.stamp in
    let c : Bool = filled_to (carried_of k m).values sizes m.values in
    let d : Bool = cost_fits (carried_of k m) m.cost in
    let e4 : (a && b && c && d) ≡ true = and_left _ _ e in
    let e3 : (a && b && c) ≡ true = and_left _ _ e4 in
    let e2 : (a && b) ≡ true = and_left _ _ e3 in
    record {
      direction = and_left _ _ e2;
      stamps = and_right a b e2;
      values = and_right (a && b) c e3;
      cost = and_right (a && b && c) d e4;
      bound = and_right (a && b && c && d) _ e;
    }
