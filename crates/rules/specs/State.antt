-- A unit's state, its parts set one at a time, the order of stamps, and which lent states are in range.
--     fresh, the setters `with..`          a new unit; one idea changed, the rest kept
--     own_value, own_cost                    the own value and its costs
--     compare_on, same_on                     01: "Stamps compare from unit 1 on"
--     cpa_out_in_range .. in_range             01: "A lent state is in range when .."
-- Places count from 0: place k of an array is unit k + 1's; numbers of units (`own`) count from 1. Assumes nothing.
use Rattle.std.specs.Prelude.{ℕ, zero, suc, pred, ◌-◌, Bool, true, false, cond, ◌&&◌, List, [], leb, eqb, get_or, replicate}
use Rattle.base.specs.{Limits.NONE, Limits.estimate_limit, Limits.prefix_limit, Every.every}
use Rattle.costs.specs.{Cost.as_number, Instance.View, Bounds.cost_with, Order.place_tried}
use Rattle.message.specs.Message.{is_unit, filled_to, none_or_bound}
use Rattle.rules.specs.{declared.Unit.Unit}
use Rattle.std.specs.declared.cmp.Ordering.{Ordering}
use Rattle.std.specs.declared.cmp.Ordering.TheVariants.{Equal}
use Rattle.std.specs.Ordering.{is_ge, nat_cmp, ordering_then}

abbrev pub zeros : List ℕ
zeros = replicate 16 0

-- a unit's fields in their order, so that a change of one takes a line
abbrev pub unit : List ℕ → ℕ → List ℕ → List ℕ → List ℕ → List ℕ → ℕ → ℕ → Bool → Unit
unit t B l e s v c k z = record { threshold = t; bound = B; best = l; estimates = e; stamp = s; values = v; cost = c; counter = k; stopped = z }

-- 01: "It starts with bound none, all else zero."
abbrev pub fresh : Unit
fresh = unit zeros NONE zeros zeros zeros zeros 0 0 false

-- the unit beside a refusal of making
abbrev pub no_unit : Unit
no_unit = unit zeros 0 zeros zeros zeros zeros 0 0 false

-- what stands past the end of a list of units
abbrev pub empty_unit : Unit
empty_unit = unit [] 0 [] [] [] [] 0 0 false

-- ---- one part set

abbrev pub with_threshold : List ℕ → Unit → Unit
with_threshold t u = unit t u.bound u.best u.estimates u.stamp u.values u.cost u.counter u.stopped

-- a bound and the assignment that has it, always together
abbrev pub with_best : ℕ → List ℕ → Unit → Unit
with_best B l u = unit u.threshold B l u.estimates u.stamp u.values u.cost u.counter u.stopped

abbrev pub with_estimates : List ℕ → Unit → Unit
with_estimates e u = unit u.threshold u.bound u.best e u.stamp u.values u.cost u.counter u.stopped

abbrev pub with_cpa : List ℕ → List ℕ → ℕ → Unit → Unit
with_cpa s v c u = unit u.threshold u.bound u.best u.estimates s v c u.counter u.stopped

abbrev pub with_counter : ℕ → Unit → Unit
with_counter k u = unit u.threshold u.bound u.best u.estimates u.stamp u.values u.cost k u.stopped

abbrev pub with_stopped : Bool → Unit → Unit
with_stopped z u = unit u.threshold u.bound u.best u.estimates u.stamp u.values u.cost u.counter z

-- ---- the own value

abbrev pub own_value : View → Unit → ℕ
own_value w u = get_or u.values w.place 0

-- 01: "the own value's costs": alone (02, job 7) and with the values of the units before. 02, job 3: "A lent paper whose own value is barred with
-- a filled one is out of range": what is forbidden counts as NONE, which no paper costs
abbrev pub own_cost : View → Unit → ℕ
own_cost w u = as_number (cost_with w u.values w.place (own_value w u))

-- ---- 01: "Stamps compare from unit 1 on"

-- a compared with b on the first k units: the first difference decides
unfoldable pub compare_on : ℕ → List ℕ → List ℕ → Ordering
compare_on zero a b = Equal
compare_on (suc k) a b = ordering_then (compare_on k a b) (nat_cmp (get_or a k 0) (get_or b k 0))

-- the first k places are equal
unfoldable pub same_on : ℕ → List ℕ → List ℕ → Bool
same_on zero a b = true
same_on (suc k) a b = same_on k a b && eqb (get_or a k 0) (get_or b k 0)

-- ---- in range

-- each of the 16 places is at most m
unfoldable pub all_at_most : ℕ → List ℕ → Bool
all_at_most m l = every (λ (k : ℕ). leb (get_or l k 0) m) 16

-- 01: "with no paper out (own value 0) the paper is all zero"
unfoldable pub cpa_zero : List ℕ → Unit → Bool
cpa_zero sizes u = filled_to 0 sizes u.stamp && filled_to 0 sizes u.values && eqb u.cost 0

-- 01: "with a paper out, counter and own stamp are equal and at most the own value's place in the order tried, the threshold
-- compared on units 1 to i isn't smaller than the paper's stamp, and the paper's cost less the own value's costs is 0 or more
-- and within the limit for one unit fewer"; and the paper keeps the message limits of i filled units;
-- of unit i, whose own value's costs are `paid`, and its place `place`
unfoldable pub cpa_out_in_range : List ℕ → ℕ → ℕ → ℕ → Unit → Bool
cpa_out_in_range sizes i paid place u =
    filled_to i sizes u.stamp && filled_to i sizes u.values && leb u.cost (prefix_limit i)
    && eqb u.counter (get_or u.stamp (pred i) 0) && leb u.counter place
    && is_ge (compare_on i u.threshold u.stamp)
    && leb paid u.cost && leb (u.cost - paid) (prefix_limit (pred i))

-- 01: "A lent state is in range when threshold bytes are at most 17, estimates at most 7,200,000, and bound and paper keep the
-- message limits; .."
unfoldable pub paid_in_range : ℕ → List ℕ → ℕ → ℕ → ℕ → Unit → Bool
paid_in_range n sizes i paid place u =
    all_at_most 17 u.threshold && all_at_most estimate_limit u.estimates && none_or_bound n sizes u.bound u.best
    && cond (eqb (get_or u.values (pred i) 0) 0) (cpa_zero sizes u) (cpa_out_in_range sizes i paid place u)

-- the same of any number: one that is not 1 to 16 is no unit's, and no state is in range for it
unfoldable pub in_range_paid : ℕ → List ℕ → ℕ → ℕ → ℕ → Unit → Bool
in_range_paid n sizes own paid place u = is_unit 16 own && paid_in_range n sizes own paid place u

-- the same with a unit's view, which says what its own value costs, and when it is tried
unfoldable pub in_range : List ℕ → View → Unit → Bool
in_range sizes w u = paid_in_range w.n sizes (suc w.place) (own_cost w u) (place_tried w (own_value w u)) u
