-- What the search's code goes by: where in the stream the costs of a unit and of a pair begin, what holds at each choice, and how the definitions of
-- specs/Search go on by one value, one unit or one size.
-- Assumes nothing.
use Prim.Native.Nat.{ℕ, zero, suc, ◌+◌, ◌*◌, ◌-◌, ◌≤◌, ◌<◌}
use Rattle.std.specs.Prelude.{◌≡◌, refl, Bool, true, false, cond, not, List, ◌∷◌, eqb, ltb, leb, length, get_or, set, replicate, Some, None}
use Rattle.std.proofs.Common.{sym, ◌∙◌, mul-le-mul, le_refl, zero-add, add-zero, mul-add, add-one, length-set, get_or-set_same, get_or-set_other}
use Rattle.std.proofs.Math.Path.{ap}
use Rattle.std.proofs.lemmas.Bool.{false≢true}
use native.Mathlib.Omega.{arith}
use Rattle.std.proofs.lemmas.List.{length-replicate, get_or-replicate}
use borrow.Author.Tests.{lt-ltb, le-ltb, leb-true, ne_eqb, eqb-true, eqb-false, not-false}
use Rattle.base.specs.Limits.{NONE, pair_limit, forbidden_pair, unary_limit, total_limit, search_limit, stream_size}
use Rattle.base.specs.Bytes.{u16_at}
use Rattle.base.specs.Bytes.Laws.{u16_past}
use Rattle.base.specs.Sums.{sum_from, sum_to}
use Rattle.table.specs.Stream.{in_form_two, opening, units_of, unaries_in, unaries_at, pairs_at, Accepted}
use Rattle.table.specs.StreamLaws.{opening-most, opening-two, form_two_lem, unaries_one, unaries_two, accepted_units, accepted_length, accepted-most}
use Rattle.costs.specs.Cost.{Cost, ◌⊕◌, pair_cost, as_number}
use Rattle.costs.specs.Cost.Laws.{◌⊑◌, le_trans, add_more, most_is}
use Rattle.costs.specs.declared.ValueOrder.TheVariants.{Ascending}
use Rattle.costs.specs.Instance.{Instance, instance_of, view_of, pair_start, in_pair, table_unary, unary_of, dom_of}
use Rattle.costs.specs.Bounds.{cost_with, total, prefix_count}
use Rattle.costs.specs.Gather.Steps.{size_some}
use Rattle.base.specs.Shape.Laws.{range_value}
use Rattle.costs.specs.Lent.Steps.{sum_to_more, cost_none, cost_more, cost_forbidden}
use Rattle.costs.specs.Laws.{cost_of, full_limit}
use Rattle.base.specs.Sums.Laws.{sum_from-last}
use Rattle.costs.specs.Laws.Prefix.{pre, length_pre, pre_set, pre_set_next, pair_before, cost-next, total_prefix}
use Rattle.costs.specs.Laws.Stream.{unaries_from, instance_units, instance_unary, instance_dom, unary_number_at, cost_number_at, accepted-there, unaries_in_stream, sound_of, pair_costs_lem}
use Rattle.search.specs.declared.Best.{Best}
use Rattle.search.specs.Search.{assignment_count}
use Rattle.search.specs.Best.{nothing, keep, in_turn, best_from, best_of}
use Rattle.search.specs.Picked.{best_picks}

-- ---- where the costs of a unit and of a pair begin

-- an accepted stream of n units, whose sizes begin at byte `first`
pub record Sized (s : List ℕ) (first n : ℕ) : Type 0 where
  pub accepted : Accepted s
  pub sizes : first ≡ opening s + 1
  pub front : first ≤ 2
  pub units : n ≡ units_of s
  pub most : n ≤ 16

pub sized_of : (s : List ℕ) (first n : ℕ) → Accepted s → first ≡ opening s + 1 → n ≡ units_of s → Sized s first n
sized_of s first n ok e units = record { accepted = ok; sizes = e; front = omega (arith, opening-most s); units = units; most = omega (arith, accepted_units s ok) }

-- the byte of the stream at which the unary costs of place k begin; in form one, which has none, the end, past which only zeros are read
abbrev pub unary_start : List ℕ → ℕ → ℕ
unary_start s k = cond (in_form_two s) (unaries_at s + 2 * sum_to (dom_of s) k) (length s)

-- the byte at which the costs of the pair of places i and j begin
abbrev pub start_at : List ℕ → ℕ → ℕ → ℕ
start_at s i j = pairs_at s + 2 * pair_start (dom_of s) (units_of s) i j

-- place 16 × b + a has the start of the pair (a, b), for those pairs with 16 × a + b below m, and place 16 × k + k that of the unary costs of place k
pub record Filled (s : List ℕ) (m : ℕ) (starts : List ℕ) : Type 0 where
  pub places : length starts ≡ 256
  pub unaries : (k : ℕ) → k < units_of s → get_or starts (16 * k + k) 0 ≡ unary_start s k
  pub at : (a b : ℕ) → a < b → b < units_of s → 16 * a + b < m → get_or starts (16 * b + a) 0 ≡ start_at s a b

-- ---- what holds at each choice

-- the first k places of l are values of their units
abbrev pub Within : Instance → ℕ → List ℕ → Type 0
Within I k l = (i : ℕ) → i < k → (1 ≤ get_or l i 0) × (get_or l i 0 ≤ I.dom i)

-- at a choice: the first `level` places are chosen and cost `cost`, `left` units come after these
pub record Extending (s : List ℕ) (first : ℕ) (starts : List ℕ) (left level cost : ℕ) (chosen : List ℕ) : Type 0 where
  pub sized : Sized s first (level + left)
  pub filled : Filled s 256 starts
  pub values : Within (instance_of s) level chosen
  pub costs : Some cost ≡ cost_of (instance_of s) (pre level chosen)
  pub small : cost ≤ total_limit

-- at one value v of the next unit, which has d
pub record Adding (s : List ℕ) (starts : List ℕ) (level d : ℕ) (chosen : List ℕ) (v : ℕ) : Type 0 where
  pub accepted : Accepted s
  pub filled : Filled s 256 starts
  pub inside : level < units_of s
  pub most : level < 16
  pub values : Within (instance_of s) level chosen
  pub size : d ≡ dom_of s level
  pub byte : d < 256
  pub v1 : 1 ≤ v
  pub vd : v ≤ d

-- in form two, at place i: the starts of the unary costs before are put, and its own begin at `at`
pub record Unaries (s : List ℕ) (i at : ℕ) (starts : List ℕ) : Type 0 where
  pub places : length starts ≡ 256
  pub put : (k : ℕ) → k < i → get_or starts (16 * k + k) 0 ≡ unary_start s k
  pub start : at ≡ unaries_at s + 2 * sum_to (dom_of s) i

-- at the row of place i: the rows before are filled, and its first pair's costs begin at `at`
pub record Filling (s : List ℕ) (first n i at : ℕ) (starts : List ℕ) : Type 0 where
  pub sized : Sized s first n
  pub start : at ≡ start_at s i (i + 1)
  pub filled : Filled s (16 * i + (i + 1)) starts

-- ---- one value, one unit more

pub in_turn-next : {A : Type 0} (f : ℕ → A → A) (v d : ℕ) (a : A) → v ≤ d → in_turn f v (d + 1 - v) a ≡ in_turn f (v + 1) (d + 1 - (v + 1)) (f v a)
unfolding in_turn
in_turn-next f v d a h = let e : d + 1 - v ≡ suc (d + 1 - (v + 1)) = omega arith in rw (e, add-one v)

pub in_turn_done : {A : Type 0} (f : ℕ → A → A) (v d : ℕ) (a : A) → d < v → in_turn f v (d + 1 - v) a ≡ a
unfolding in_turn
in_turn_done f v d a h = let e : d + 1 - v ≡ 0 = omega arith in rw e

-- value v of unit k, with the units after it
abbrev pub with_value : Instance → ℕ → ℕ → List ℕ → ℕ → Best → Best
with_value I left k l v a = best_from I (left - 1) (k + 1) (set l k v) a

pub best_of_values : (I : Instance) (left k d : ℕ) (l : List ℕ) (b : Best) → (left ≡ 0 → ⊥) → d ≡ I.dom k
    → best_from I left k l b ≡ in_turn (with_value I left k l) 1 (d + 1 - 1) b
unfolding best_from
best_of_values I zero k d l b h e = absurd (h refl)
best_of_values I (suc left) k d l b h e =
    let r : d + 1 - 1 ≡ I.dom k = omega arith in
    let q : suc left - 1 ≡ left = omega arith in
    rw r
    (ap (λ (m : ℕ). in_turn (λ (v : ℕ) (a : Best). best_from I m (suc k) (set l k v) a) 1 (I.dom k) b) (sym q)
    ∙ ap (λ (m : ℕ). in_turn (λ (v : ℕ) (a : Best). best_from I (suc left - 1) m (set l k v) a) 1 (I.dom k) b) (sym (add-one k)))

pub best_full : (I : Instance) (left k : ℕ) (l : List ℕ) (b : Best) (cost : ℕ) → left ≡ 0 → Some cost ≡ total I l → keep b cost l ≡ best_from I left k l b
unfolding best_from
best_full I left k l b cost e t = rw (e, ← t)

-- over all units
pub best_of_all : (s : List ℕ) (n : ℕ) (r : Best) → n ≡ units_of s → r ≡ best_from (instance_of s) n 0 (replicate 16 0) nothing → r ≡ best_of (instance_of s)
best_of_all s n r e q = q ∙ ap (λ (m : ℕ). best_from (instance_of s) m 0 (replicate 16 0) nothing) (e ∙ sym (instance_units s))

-- ---- a prefix whose cost reaches the best total keeps nothing

in_turn_same : {A : Type 0} (f : ℕ → A → A) (v d : ℕ) (a : A) → ((u : ℕ) → f u a ≡ a) → in_turn f v d a ≡ a
unfolding in_turn
in_turn_same f v zero a e = refl
in_turn_same f v (suc d) a e = rw (e v) (in_turn_same f (suc v) d a e)

-- a forbidden cost counts as NONE, and no total is above it
not_lower : (B : ℕ) (c : Cost) → B ≤ NONE → Some B ⊑ c → ltb (as_number c) B ≡ false
not_lower B (Some n) most h = le-ltb n B h
not_lower B None most h = le-ltb NONE B most

-- a value more never costs less
cost_rises : (I : Instance) (k v : ℕ) (l : List ℕ) → cost_of I (pre k l) ⊑ cost_of I (pre (suc k) (set l k v))
cost_rises I k v l = rw (pre_set k k l v (omega arith)) (add_more (cost_of I (pre k l)) _)

-- so all that begins with these values costs as much, and is never lower
pub best_reached : (I : Instance) (left k : ℕ) (l : List ℕ) (b : Best) → k + left ≡ I.n → Some b.total ⊑ cost_of I (pre k l) → b.total ≤ NONE → best_from I left k l b ≡ b
unfolding best_from
best_reached I zero k l b n h most =
    let q : k ≡ I.n = omega arith in
    let t : total I l ≡ cost_of I (pre k l) = total_prefix I l ∙ rw (← q) in
    rw (t, not_lower b.total (cost_of I (pre k l)) most h)
best_reached I (suc left) k l b n h most =
    in_turn_same (λ (v : ℕ) (a : Best). best_from I left (suc k) (set l k v) a) 1 (I.dom k) b
    (λ v. best_reached I left (suc k) (set l k v) b (omega arith) (le_trans (Some b.total) (cost_of I (pre k l)) (cost_of I (pre (suc k) (set l k v))) h (cost_rises I k v l)) most)

-- what is dropped has reached it
pub dropped_reaches : (bounded r : Bool) {best cost : ℕ} → r ≡ cond bounded (leb best cost) false → not r ≡ false → best ≤ cost
dropped_reaches true r {best} {cost} e h = leb-true best cost (sym e ∙ not-false r h)
dropped_reaches false r e h = absurd (false≢true (sym e ∙ not-false r h))

-- ---- the cost of a value with those before it

-- a size, where the code reads it
pub size_at : (s : List ℕ) (first k d : ℕ) → first ≡ opening s + 1 → k < units_of s → d ≡ get_or s (first + k) 0 → d ≡ dom_of s k
size_at s first k d e h read = read ∙ ap (λ (m : ℕ). get_or s (m + k) 0) e ∙ size_some s k h

dom_of_lem : (s : List ℕ) (k : ℕ) → dom_of s k ≡ (instance_of s).dom k
dom_of_lem s k = sym (ap (λ (f : ℕ → ℕ). f k) (instance_dom s))

-- a pair's cost, at its place in the stream
module _ (s : List ℕ) where
  cost_at_lem : (i k u v : ℕ) → i < k → k < units_of s → 1 ≤ u → u ≤ dom_of s i → 1 ≤ v → v ≤ dom_of s k
      → (instance_of s).cost i u k v ≡ pair_cost (u16_at s (start_at s i k + 2 * ((u - 1) * dom_of s k + (v - 1))))
  unfolding instance_of
  cost_at_lem i k u v a b u1 ud v1 vd =
      let m : ℕ = pair_start (dom_of s) (units_of s) i k + in_pair (dom_of s k) u v in
      let e : pairs_at s + 2 * m ≡ start_at s i k + 2 * in_pair (dom_of s k) u v = omega arith in
      simp (lt-ltb i k a, lt-ltb k (units_of s) b, range_value (dom_of s i) u u1 ud, range_value (dom_of s k) v v1 vd) (ap pair_cost (cost_number_at s m ∙ ap (λ (p : ℕ). u16_at s p) e))

  -- a unary cost
  unary_at : (k v : ℕ) → 1 ≤ v → v ≤ dom_of s k → u16_at s (unary_start s k + 2 * (v - 1)) ≡ unary_of s k v
  unary_at k v v1 vd = go (in_form_two s)
    where
      go : (t : Bool) → u16_at s (cond t (unaries_at s + 2 * sum_to (dom_of s) k) (length s) + 2 * (v - 1)) ≡ cond t (table_unary (dom_of s) (unaries_from s) k v) 0
      go true =
          let m : ℕ = sum_to (dom_of s) k + (v - 1) in
          let e : unaries_at s + 2 * sum_to (dom_of s) k + 2 * (v - 1) ≡ unaries_at s + 2 * m = omega arith in
          simp (range_value (dom_of s k) v v1 vd) (ap (λ (p : ℕ). u16_at s p) e ∙ sym (unary_number_at s m))
      go false = u16_past s (length s + 2 * (v - 1)) (omega arith)

-- alone, the number of which stands where the code reaches it
module _ {s starts : List ℕ} {k d v : ℕ} {l : List ℕ} (x : Adding s starts k d l v) (number : ℕ) (read : number ≡ u16_at s (get_or starts (16 * k + k) 0 + 2 * (v - 1))) where
  unary_read : number ≡ (instance_of s).unary k v
  unary_read =
      read ∙ rw (x.filled.unaries k x.inside) (unary_at s k v x.v1 (omega (arith, x.vd, x.size))) ∙ sym (ap (λ (f : ℕ → ℕ → ℕ). f k v) (instance_unary s))

  pub cost_alone : Some number ≡ cost_with (view_of (instance_of s) k) l 0 v
  cost_alone = ap Some unary_read ∙ sym (cost_none (view_of (instance_of s) k) l v)

  pub alone_small : number ≤ unary_limit
  alone_small = omega (arith, unary_read, (sound_of s x.accepted).unary_small k v)

-- with the value before it at place i, the number of which stands where the code reaches it
module _ {s starts : List ℕ} {k d v : ℕ} {l : List ℕ} (x : Adding s starts k d l v) (i : ℕ) (h : i < k) (number : ℕ)
    (read : number ≡ u16_at s (get_or starts (16 * k + i) 0 + 2 * ((get_or l i 0 - 1) * d + (v - 1)))) where
  pair_read : (view_of (instance_of s) k).pair i (get_or l i 0) v ≡ pair_cost number
  pair_read =
      let q : (instance_of s).dom i ≡ dom_of s i = ap (λ (f : ℕ → ℕ). f i) (instance_dom s) in
      let start : get_or starts (16 * k + i) 0 ≡ start_at s i k = x.filled.at i k h x.inside (omega (arith, x.most)) in
      pair_before Ascending (instance_of s) k i (get_or l i 0) v h
      ∙ rw (read, start, x.size) (cost_at_lem s i k (get_or l i 0) v h x.inside (x.values i h).0 (omega (arith, (x.values i h).1)) x.v1 (omega (arith, x.vd, x.size)))

  -- a forbidden pair
  pub cost_ends : number ≡ forbidden_pair → None ≡ cost_with (view_of (instance_of s) k) l k v
  cost_ends e = sym (cost_forbidden (view_of (instance_of s) k) l i k v h (pair_read ∙ ap pair_cost e))

  -- a pair that costs a number
  module _ (other : number ≡ forbidden_pair → ⊥) where
    pair_number_lem : (view_of (instance_of s) k).pair i (get_or l i 0) v ≡ Some number
    pair_number_lem = pair_read ∙ rw (ne_eqb number forbidden_pair other)

    pub cost-turn : (sum : ℕ) → Some sum ≡ cost_with (view_of (instance_of s) k) l i v → Some (sum + number) ≡ cost_with (view_of (instance_of s) k) l (i + 1) v
    cost-turn sum e = sym (cost_more (view_of (instance_of s) k) l i v ∙ rw (pair_number_lem, ← e))

    pub cost_small : number ≤ pair_limit
    cost_small = most_is pair_limit number ((instance_of s).cost i (get_or l i 0) k v) (sym (pair_before Ascending (instance_of s) k i (get_or l i 0) v h) ∙ pair_number_lem) ((sound_of s x.accepted).small i (get_or l i 0) k v)

-- ---- the next choice

-- a place more
pub within-next : (I : Instance) (k v : ℕ) (l : List ℕ) → k < length l → Within I k l → 1 ≤ v → v ≤ I.dom k → Within I (k + 1) (set l k v)
within-next I k v l b w v1 vd i h = go (eqb i k) refl
  where
    go : (t : Bool) → eqb i k ≡ t → (1 ≤ get_or (set l k v) i 0) × (get_or (set l k v) i 0 ≤ I.dom i)
    go true e = let q : i ≡ k = eqb-true i k e in rw (q, get_or-set_same l k v 0 b) (v1, vd)
    go false e =
        let q : i ≡ k → ⊥ = eqb-false i k e in
        let f : get_or (set l k v) i 0 ≡ get_or l i 0 = get_or-set_other l k i v 0 q in
        rw f (w i (omega arith))

-- nothing is chosen
pub extending_first : (s starts : List ℕ) (first n : ℕ) (chosen : List ℕ) → Sized s first n → Filled s 256 starts → Extending s first starts n 0 0 chosen
extending_first s starts first n chosen z filled =
    record {
      sized = rw (zero-add n) z;
      filled = filled;
      values = λ i h. absurd (omega arith);
      costs = refl;
      small = omega arith;
    }

module _ {s starts : List ℕ} {first left level cost : ℕ} {chosen : List ℕ} (x : Extending s first starts left level cost chosen) where
  -- full: its cost is its total
  pub cost_is_total : left ≡ 0 → Some cost ≡ total (instance_of s) chosen
  cost_is_total e =
      let n : level ≡ (instance_of s).n = omega (arith, x.sized.units, instance_units s) in
      x.costs ∙ rw n (sym (total_prefix (instance_of s) chosen))

  -- the next unit's size
  pub next_size : (d : ℕ) → (left ≡ 0 → ⊥) → d ≡ get_or s (first + level) 0 → d ≡ dom_of s level
  next_size d some read = size_at s first level d x.sized.sizes (omega (arith, x.sized.units)) read

  module _ (d : ℕ) (some : left ≡ 0 → ⊥) (size : d ≡ dom_of s level) where
    pub size_is_dom : d ≡ (instance_of s).dom level
    size_is_dom = size ∙ dom_of_lem s level

    module _ (v : ℕ) (places : length chosen ≡ 16) where
      -- what the value hands on is no more than what it was handed
      pub next-most : (b : Best) → (with_value (instance_of s) left level chosen v b).total ≤ b.total
      next-most b =
          let n : (instance_of s).n ≡ units_of s = instance_units s in
          (best_picks (instance_of s) (left - 1) (level + 1) (set chosen level v) b (omega (arith, x.sized.units)) (rw (length-set chosen level v) (omega (arith, x.sized.units, x.sized.most)))).below

      -- the cost with the next value
      next-cost : cost_of (instance_of s) (pre (level + 1) (set chosen level v)) ≡ Some cost ⊕ cost_with (view_of (instance_of s) level) chosen level v
      next-cost =
          let next : pre (level + 1) (set chosen level v) ≡ v ∷ pre level chosen = rw add-one (pre_set_next level chosen v (omega (arith, x.sized.most))) in
          rw (next, x.costs) (sym (cost-next Ascending (instance_of s) level chosen v))

      -- which reaches the best total, as where it is forbidden
      pub reached_next : (b : Best) (c : Cost) → b.total ≤ NONE → cost_with (view_of (instance_of s) level) chosen level v ≡ c → Some b.total ⊑ Some cost ⊕ c
          → with_value (instance_of s) left level chosen v b ≡ b
      reached_next b c most e h =
          best_reached (instance_of s) (left - 1) (level + 1) (set chosen level v) b (omega (arith, x.sized.units, instance_units s)) (rw (next-cost, e) h) most

      -- or a number
      pub extending_next : (more : ℕ) → 1 ≤ v → v ≤ d → cost_with (view_of (instance_of s) level) chosen level v ≡ Some more
          → Extending s first starts (left - 1) (level + 1) (cost + more) (set chosen level v)
      extending_next more v1 vd e =
          let whole : cost_of (instance_of s) (pre (level + 1) (set chosen level v)) ≡ Some (cost + more) = next-cost ∙ rw e in
          let n : (instance_of s).n ≡ units_of s = instance_units s in
          let p = length_pre (level + 1) (set chosen level v) in
          let same : level + 1 + (left - 1) ≡ level + left = omega arith in
          record {
            sized = rw same x.sized;
            filled = x.filled;
            values = within-next (instance_of s) level v chosen (omega (arith, x.sized.most)) x.values v1 (omega (arith, size_is_dom));
            costs = sym whole;
            small = most_is total_limit (cost + more) (cost_of (instance_of s) (pre (level + 1) (set chosen level v))) whole
                (full_limit (instance_of s) (sound_of s x.sized.accepted) (pre (level + 1) (set chosen level v)) (omega (arith, x.sized.units)));
          }

-- ---- how many assignments

count_up : (f : ℕ → ℕ) (i m : ℕ) → ((k : ℕ) → k < i + m → 1 ≤ f k) → prefix_count f i ≤ prefix_count f (i + m)
count_up f i zero h = rw (add-zero i) (omega arith)
count_up f i (suc m) h =
    let e : i + suc m ≡ suc (i + m) = omega arith in
    rw e (omega (arith, count_up f i m (λ k b. h k (omega arith)), mul-le-mul (le_refl (prefix_count f (i + m))) (h (i + m) (omega arith))))

-- sizes of at least 1 never lower the product
pub count_grows : (f : ℕ → ℕ) (i n : ℕ) → i ≤ n → ((k : ℕ) → k < n → 1 ≤ f k) → prefix_count f i ≤ prefix_count f n
count_grows f i n h g = let e : i + (n - i) ≡ n = omega arith in rw e at (count_up f i (n - i) (λ k b. g k (omega arith)))

module _ (s : List ℕ) (ok : Accepted s) (i count d : ℕ) (so_far : count ≡ prefix_count (instance_of s).dom i) where
  pub count_turn : d ≡ dom_of s i → count * d ≡ prefix_count (instance_of s).dom (i + 1)
  count_turn e = rw (so_far, e, dom_of_lem s i) (rw add-one)

  pub count_above : i < units_of s → d ≡ dom_of s i → search_limit < count * d → true ≡ ltb search_limit (assignment_count (instance_of s))
  count_above h e l =
      let n : (instance_of s).n ≡ units_of s = instance_units s in
      let g = count_grows (instance_of s).dom (i + 1) (instance_of s).n (omega arith) (sound_of s ok).dom1 in
      sym (lt-ltb search_limit (assignment_count (instance_of s)) (omega (arith, count_turn e)))

  pub count-within : i ≡ units_of s → count ≤ search_limit → false ≡ ltb search_limit (assignment_count (instance_of s))
  count-within e l =
      let n : i ≡ (instance_of s).n = e ∙ sym (instance_units s) in
      let q : assignment_count (instance_of s) ≡ count = rw (← n) (sym so_far) in
      sym (le-ltb search_limit (assignment_count (instance_of s)) (omega arith))

-- ---- the starts of the unary costs, one by one

-- then the first row's pairs begin
unaries_put : (s starts : List ℕ) (first n at : ℕ) → Sized s first n → length starts ≡ 256 → ((k : ℕ) → k < units_of s → get_or starts (16 * k + k) 0 ≡ unary_start s k) → at ≡ pairs_at s
    → Filling s first n 0 at starts
unaries_put s starts first n at z places unaries e =
    record {
      sized = z;
      start = e ∙ omega arith;
      filled = record { places = places; unaries = unaries; at = λ a b l h m. absurd (omega arith) };
    }

module _ {s : List ℕ} {first n : ℕ} (z : Sized s first n) where
  -- form one has none
  pub no_unaries : (starts : List ℕ) → starts ≡ replicate 256 (length s) → first ≡ 1 → Filling s first n 0 (first + n) starts
  no_unaries starts e one = go (in_form_two s) refl
    where
      go : (t : Bool) → in_form_two s ≡ t → Filling s first n 0 (first + n) starts
      go true f = absurd (omega (arith, z.sizes, opening-two s f))
      go false f =
          unaries_put s starts first n (first + n) z (rw e (length-replicate 256 (length s)))
          (λ k h. rw (e, f) (get_or-replicate 256 (16 * k + k) (length s) 0 (omega (arith, z.units, z.most)))) (omega (arith, z.sizes, z.units, unaries_one s f))

  pub unaries_first : (starts : List ℕ) → starts ≡ replicate 256 (length s) → Unaries s 0 (first + n) starts
  unaries_first starts e = record { places = rw e (length-replicate 256 (length s)); put = λ k h. absurd (omega arith); start = omega (arith, z.sizes, z.units) }

  module _ (other : first ≡ 1 → ⊥) where
    in_two : in_form_two s ≡ true
    in_two = form_two_lem s (λ e. other (omega (arith, z.sizes, e)))

    -- a start is put in its place
    pub unaries_next : (starts : List ℕ) (i at d : ℕ) → i < n → d ≡ get_or s (first + i) 0 → Unaries s i at starts → Unaries s (i + 1) (at + 2 * d) (set starts (16 * i + i) at)
    unaries_next starts i at d h read u =
        record {
          places = length-set starts (16 * i + i) at ∙ u.places;
          put = λ k l. go k l (eqb k i) refl;
          start = omega (arith, u.start, size_at s first i d z.sizes (omega (arith, z.units)) read, sum_to_more (dom_of s) i);
        }
      where
        go : (k : ℕ) → k < i + 1 → (t : Bool) → eqb k i ≡ t → get_or (set starts (16 * i + i) at) (16 * k + k) 0 ≡ unary_start s k
        go k l true e =
            let q : k ≡ i = eqb-true k i e in
            rw q (get_or-set_same starts (16 * i + i) at 0 (omega (arith, u.places, z.most)) ∙ u.start ∙ rw in_two)
        go k l false e =
            let q : k ≡ i → ⊥ = eqb-false k i e in
            get_or-set_other starts (16 * i + i) (16 * k + k) at 0 (λ r. q (omega arith)) ∙ u.put k (omega arith)

    pub unaries_last : (starts : List ℕ) (i at : ℕ) → i ≡ n → Unaries s i at starts → Filling s first n 0 at starts
    unaries_last starts i at e u =
        let all : sum_to (dom_of s) i ≡ unaries_in s = rw (e, z.units) (unaries_in_stream s (accepted-there s z.accepted) ∙ sym (unaries_two s in_two)) in
        unaries_put s starts first n at z u.places (λ k h. u.put k (omega (arith, z.units))) (omega (arith, u.start))

-- ---- the starts of the pairs, one by one

-- the next pair of place i
start-next : (s : List ℕ) (i j d e : ℕ) → i < j → d ≡ dom_of s i → e ≡ dom_of s j → start_at s i j + 2 * (d * e) ≡ start_at s i (j + 1)
start-next s i j d e a f q =
    let g : e ≡ dom_of s (suc i + (j - suc i)) = q ∙ ap (dom_of s) (omega arith) in
    let m : j + 1 - suc i ≡ suc (j - suc i) = omega arith in
    let x = sum_from-last (dom_of s) (suc i) (j - suc i) in
    let y = mul-add (dom_of s i) (sum_from (dom_of s) (suc i) (j - suc i)) (dom_of s (suc i + (j - suc i))) in
    rw (f, g, m, x) (omega arith)

-- the first of the next place
start-row : (s : List ℕ) (i : ℕ) → start_at s i (units_of s) ≡ start_at s (i + 1) (i + 1 + 1)
start-row s i =
    let m : i + 1 + 1 - suc (i + 1) ≡ 0 = omega arith in
    rw (m, add-one i) (omega arith)

-- a start fits: its costs lie in the stream
pub start_fits : (s : List ℕ) (i j : ℕ) → Accepted s → i < j → j < units_of s → start_at s i j ≤ stream_size
start_fits s i j ok a b = omega (arith, accepted_length s ok, accepted-most s ok, pair_costs_lem s (accepted-there s ok) i j a b)

-- a start is put in its place
filled_set : (s starts : List ℕ) (i j : ℕ) → units_of s ≤ 16 → i < j → j < units_of s → Filled s (16 * i + j) starts
    → Filled s (16 * i + (j + 1)) (set starts (16 * j + i) (start_at s i j))
filled_set s starts i j most lt inside f =
    record {
      places = length-set starts (16 * j + i) (start_at s i j) ∙ f.places;
      unaries = λ k h. get_or-set_other starts (16 * j + i) (16 * k + k) (start_at s i j) 0 (λ r. omega arith) ∙ f.unaries k h;
      at = λ a b l h m. go a b l h m (eqb (16 * a + b) (16 * i + j)) refl;
    }
  where
    go : (a b : ℕ) → a < b → b < units_of s → 16 * a + b < 16 * i + (j + 1) → (t : Bool) → eqb (16 * a + b) (16 * i + j) ≡ t
        → get_or (set starts (16 * j + i) (start_at s i j)) (16 * b + a) 0 ≡ start_at s a b
    go a b l h m true e =
        let q = eqb-true (16 * a + b) (16 * i + j) e in
        let x : a ≡ i = omega arith in
        let y : b ≡ j = omega arith in
        rw (x, y) (get_or-set_same starts (16 * j + i) (start_at s i j) 0 (omega (arith, f.places)))
    go a b l h m false e =
        let q = eqb-false (16 * a + b) (16 * i + j) e in
        let r : 16 * b + a ≡ 16 * j + i → ⊥ = λ z. q (omega arith) in
        get_or-set_other starts (16 * j + i) (16 * b + a) (start_at s i j) 0 r ∙ f.at a b l h (omega arith)

-- a turn of the row's loop: the start is put, and the next pair's is known
pub filled_next : (s starts : List ℕ) (first n i j from d e : ℕ) → Sized s first n → i < j → j < n → from ≡ start_at s i j → d ≡ dom_of s i → e ≡ get_or s (first + j) 0
    → Filled s (16 * i + j) starts → (from + 2 * (d * e) ≡ start_at s i (j + 1)) × Filled s (16 * i + (j + 1)) (set starts (16 * j + i) from)
filled_next s starts first n i j from d e z lt inside at p read f =
    let b : j < units_of s = omega (arith, z.units) in
    rw at (start-next s i j d e lt p (size_at s first j e z.sizes b read), filled_set s starts i j (omega (arith, z.units, z.most)) lt b f)

-- a row's end, and the last row's
pub filling_next : (s starts : List ℕ) (first n i from : ℕ) → Sized s first n → i < n → from ≡ start_at s i n → Filled s (16 * i + n) starts → Filling s first n (i + 1) from starts
filling_next s starts first n i from z inside at f =
    record {
      sized = z;
      start = at ∙ rw z.units (start-row s i);
      filled = record { places = f.places; unaries = f.unaries; at = λ a b l h m. f.at a b l h (omega (arith, z.most)) };
    }

pub filling_last : (s starts : List ℕ) (first n i from : ℕ) → n ≤ i → Filling s first n i from starts → Filled s 256 starts
filling_last s starts first n i from end f =
    record { places = f.filled.places; unaries = f.filled.unaries; at = λ a b l h m. f.filled.at a b l h (omega (arith, f.sized.units, f.sized.most)) }
