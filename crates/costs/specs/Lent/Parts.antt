-- The parts that the sums, least values and counts over lent costs are worked out in. No public contract cites them.
-- Assumes nothing.
use Rattle.std.specs.Prelude.{ℕ, pred, ◌+◌, ◌-◌, ◌*◌, cond, not, ◌&&◌, List, ◌==◌, nat_lt, Some}
use Rattle.base.specs.Sums as Number
use Rattle.base.specs.Shape.{is_value}
use Rattle.costs.specs.Cost.{Cost, ◌⊕◌, sum_from, least, pair_cost}
use Rattle.costs.specs.Instance.{View, dom_in, in_pair, cost_number}
use Rattle.costs.specs.declared.Seat.{Seat}
use Rattle.costs.specs.Bounds.{cost_with, h}
use Rattle.costs.specs.Order.{earlier, how_many}

-- the domain sizes at a seat
abbrev pub dom_from : Seat → ℕ → ℕ
dom_from seat = dom_in seat.n seat.sizes

-- how many values the other units before place j have together
abbrev pub others_before : Seat → ℕ → ℕ
others_before seat j = Number.sum_to (λ b. cond (b == pred seat.own) 0 (dom_from seat b)) j

-- the cost of own value v with value u of unit j, where the own unit, at place k, has d values and unit j has e,
-- and the others before unit j have `before` values together; d unary costs stand in front
abbrev pub pair_from : List ℕ → ℕ → ℕ → ℕ → ℕ → ℕ → ℕ → ℕ → Cost
pair_from costs k j d e before u v =
    cond (not (j == k) && is_value e u && is_value d v) (pair_cost (cost_number costs (d + d * before + cond (nat_lt j k) (in_pair d u v) (in_pair e v u)))) (Some 0)

-- the least of the e costs from number `start` on
abbrev pub least_run : List ℕ → ℕ → ℕ → Cost
least_run costs start e = least (λ u. pair_cost (cost_number costs (start + (u - 1)))) e

-- where the run of own value v with the unit at place j starts
abbrev pub run_start : Seat → ℕ → ℕ → ℕ
run_start seat v j = dom_from seat (pred seat.own) + dom_from seat (pred seat.own) * others_before seat j + (v - 1) * dom_from seat j

-- the runs of own value v with the units at place j and after, the least of each added up
unfoldable pub runs_from : Seat → List ℕ → ℕ → ℕ → Cost
runs_from seat costs v j =
    sum_from (λ i. least_run costs (run_start seat v i) (dom_from seat i)) j (seat.n - j)

-- the least, over own values up to d, of the cost with a prefix of k units and h
unfoldable pub least_cost : View → List ℕ → ℕ → ℕ → Cost
least_cost w values k d = least (λ v. cost_with w values k v ⊕ h w v) d

-- how many of 1, .., d come before own value v by rising h
unfoldable pub earlier_up_to : View → ℕ → ℕ → ℕ
earlier_up_to w v d = how_many (λ u. earlier w u v) d
