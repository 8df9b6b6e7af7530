-- The instance that a table describes, what one unit sees of it, and where the bytes of a cost stand.
-- Units count from 0 here: place k is document 01's unit k + 1. Values count from 1, as in document 01. Assumes nothing.
use Rattle.std.specs.Prelude.{ℕ, suc, ◌+◌, ◌*◌, ◌-◌, pred, cond, not, ◌&&◌, List, ltb, leb, eqb, length, get_or, take, drop, Some, None}
use Rattle.base.specs.{Bytes.u16_at, Shape.is_value, Sums.sum_from, Sums.sum_to}
use Rattle.table.specs.Stream.{in_form_two, units_of, after_units, unaries_at, pairs_at}
use Rattle.costs.specs.Cost.{Cost, sum_from as sumCosts, least, pair_cost}
use Rattle.costs.specs.{declared.Seat.Seat, declared.ValueOrder.ValueOrder, declared.ValueOrder.TheVariants.Ascending}

-- ---- the instance

-- n units with their domain sizes; the unary cost of value v of unit k, 02, job 7: own cost, "a cost per value .. never barred"; and the cost of
-- value u of unit i with value v of a later unit j: a number, or the two may not meet
pub record Instance : Type 0 where
  pub n : ℕ
  pub dom : ℕ → ℕ
  pub unary : ℕ → ℕ → ℕ
  pub cost : ℕ → ℕ → ℕ → ℕ → Cost

-- What one unit sees: its own place, the unary cost of each of its values, and `pair j u v`, the cost of its own value v with value u of unit j;
-- `ahead v`, h of its own value v, which goes by `lookahead` below; and the order in which it tries its values, 02, job 9, which is no part of its state.
pub record View : Type 0 where
  pub order : ValueOrder
  pub place : ℕ
  pub n : ℕ
  pub dom : ℕ → ℕ
  pub unary : ℕ → ℕ
  pub pair : ℕ → ℕ → ℕ → Cost
  pub ahead : ℕ → Cost

-- 01: "h(v) is the sum, over later units, of the least cost of v with any value of that unit";
-- 02: "h takes the least over values not barred; if there are none, the value can't be written"; a unary cost "isn't part of h".
-- Of n units with these domain sizes, for the unit at place k, which has these pair costs.
abbrev pub lookahead : ℕ → ℕ → (ℕ → ℕ) → (ℕ → ℕ → ℕ → Cost) → ℕ → Cost
lookahead k n dom pair v = sumCosts (λ j. least (λ u. pair j u v) (dom j)) (suc k) (n - suc k)

-- the cost of unit k's value v with value u of unit j
abbrev pub pair_of : Instance → ℕ → ℕ → ℕ → ℕ → Cost
pair_of I k j u v = cond (ltb j k) (I.cost j u k v) (I.cost k v j u)

abbrev pub view_by : ValueOrder → Instance → ℕ → View
view_by o I k = record { order = o; place = k; n = I.n; dom = I.dom; unary = I.unary k; pair = pair_of I k; ahead = lookahead k I.n I.dom (pair_of I k) }

-- the same where only costs are asked for, which no order changes
abbrev pub view_of : Instance → ℕ → View
view_of I k = view_by Ascending I k

-- ---- where costs stand

-- the domain sizes of the first n of a list of sizes, 0 for no unit
abbrev pub dom_in : ℕ → List ℕ → ℕ → ℕ
dom_in n sizes k = get_or (take n sizes) k 0

-- how many costs a table has before those of the pair (i, j): those of the units before i, and of i with the units before j
-- 01: "for pairs (1,2), (1,3) .. (n-1,n)"
abbrev pub pair_start : (ℕ → ℕ) → ℕ → ℕ → ℕ → ℕ
pair_start dom n i j = sum_to (λ a. dom a * sum_from dom (suc a) (n - suc a)) i + dom i * sum_from dom (suc i) (j - suc i)

-- the place of a cost among those of its pair, 01: "by the value of the lower unit, then of the higher"
abbrev pub in_pair : ℕ → ℕ → ℕ → ℕ
in_pair d u v = (u - 1) * d + (v - 1)

-- the 16-bit cost number k of a list of costs
abbrev pub cost_number : List ℕ → ℕ → ℕ
cost_number costs k = u16_at costs (2 * k)

-- A unary cost of a table, from all its unary costs, 02: "unit by unit"; 0 where there is no such value.
abbrev pub table_unary : (ℕ → ℕ) → List ℕ → ℕ → ℕ → ℕ
table_unary dom costs k v = cond (is_value (dom k) v) (cost_number costs (sum_to dom k + (v - 1))) 0

-- A pair cost of a table, from all its pair costs; 0 where there is no such pair of values.
abbrev pub table_cost : ℕ → (ℕ → ℕ) → List ℕ → ℕ → ℕ → ℕ → ℕ → Cost
table_cost n dom costs i u j v =
    cond (ltb i j && ltb j n && is_value (dom i) u && is_value (dom j) v) (pair_cost (cost_number costs (pair_start dom n i j + in_pair (dom j) u v))) (Some 0)

-- The instance of a stream. 02: "Old files read as own costs all zero."
abbrev pub dom_of : List ℕ → ℕ → ℕ
dom_of s = dom_in (units_of s) (after_units s)

abbrev pub unary_of : List ℕ → ℕ → ℕ → ℕ
unary_of s k v = cond (in_form_two s) (table_unary (dom_of s) (drop (unaries_at s) s) k v) 0

unfoldable pub instance_of : List ℕ → Instance
instance_of s = record { n = units_of s; dom = dom_of s; unary = unary_of s; cost = table_cost (units_of s) (dom_of s) (drop (pairs_at s) s) }

-- ---- the costs that touch one unit, 02, job 7: "A unit's own costs are lent before its pair costs."; 01, of these: "by the other unit
-- ascending, each pair in the stream's order"

-- how many of them stand before those with unit j
abbrev pub other_start : (ℕ → ℕ) → ℕ → ℕ → ℕ
other_start dom k j = dom k + dom k * sum_to (λ b. cond (eqb b k) 0 (dom b)) j

-- The unary cost of value v of a unit of d values, 0 where there is no such value.
abbrev pub lent_unary : ℕ → List ℕ → ℕ → ℕ
lent_unary d costs v = cond (is_value d v) (cost_number costs (v - 1)) 0

-- A cost of unit k's value v with value u of unit j, from the costs that touch unit k; 0 where there is no such pair of values.
abbrev pub lent_cost : ℕ → (ℕ → ℕ) → ℕ → List ℕ → ℕ → ℕ → ℕ → Cost
lent_cost n dom k costs j u v =
    cond (not (eqb j k) && ltb j n && is_value (dom j) u && is_value (dom k) v)
    (pair_cost (cost_number costs (other_start dom k j + cond (ltb j k) (in_pair (dom k) u v) (in_pair (dom j) v u)))) (Some 0)

-- What unit `own` (1 to n) sees in the costs lent with it.
unfoldable pub lent_view : ValueOrder → ℕ → ℕ → List ℕ → List ℕ → View
lent_view o own n sizes costs = record {
  order = o;
  place = pred own;
  n = n;
  dom = dom_in n sizes;
  unary = lent_unary (dom_in n sizes (pred own)) costs;
  pair = lent_cost n (dom_in n sizes) (pred own) costs;
  ahead = lookahead (pred own) n (dom_in n sizes) (lent_cost n (dom_in n sizes) (pred own) costs);
}

-- The same of a unit's seat, which holds the first four.
abbrev pub view_from : Seat → List ℕ → View
view_from seat costs = lent_view seat.order seat.own seat.n seat.sizes costs

-- ---- h known beforehand, as numbers: value v's at place v - 1

-- the most that 255 costs of 16 bits come to; a larger number is no h, and stands for forbidden
abbrev pub ahead_limit : ℕ
ahead_limit = 16711425

abbrev pub ahead_cost : ℕ → Cost
ahead_cost x = cond (leb x ahead_limit) (Some x) None

-- The same view, h of the first values being these numbers. Where they are right it is the view itself: `knowing_sees` of Knowing.
unfoldable pub knowing : List ℕ → View → View
knowing ahead w = record {
  order = w.order;
  place = w.place;
  n = w.n;
  dom = w.dom;
  unary = w.unary;
  pair = w.pair;
  ahead = λ v. cond (is_value (length ahead) v) (ahead_cost (get_or ahead (v - 1) 0)) (w.ahead v);
}

-- What the unit in a seat sees in the costs lent with it, where these numbers are known.
abbrev pub view_knowing : Seat → List ℕ → List ℕ → View
view_knowing seat costs ahead = knowing ahead (view_from seat costs)
