-- Runs of the machine, computed: what it does on small tables, the worst order among them. Each of 01's shortcuts that one of these runs is about
-- makes it come out otherwise.
-- Assumes nothing.
use Rattle.std.specs.Prelude.{ℕ, ◌+◌, ◌*◌, ◌-◌, ◌≡◌, refl, Bool, true, false, cond, ◌&&◌, ◌||◌, List, [], ◌∷◌, map, eqb, length, get_or, replicate, Some, None}
use Rattle.base.specs.Limits.{pool_cells, NONE}
use Rattle.base.specs.Members.{here, there}
use Rattle.costs.specs.declared.ValueOrder.{ValueOrder}
use Rattle.costs.specs.declared.ValueOrder.TheVariants.{Ascending, CheapestFirst}
use Rattle.costs.specs.Instance.{Instance, view_by}
use Rattle.costs.specs.Bounds.{h}
use Rattle.costs.specs.Order.{earlier, place_tried, value_at}
use Rattle.costs.specs.Laws.Tried.{values_at, problem_by}
use Rattle.protocol.specs.Machine.{Msg, down, request, Network, make, deliver, run}
use Rattle.protocol.specs.Demand3.{written, most}
use Rattle.protocol.specs.Echo.Events.{Event, cell, echo, start, hear_all, Echoes}

-- what is seen of a network: whether unit 1 has stopped, its bound and best assignment (the last unit's value first), records, accepted deliveries
abbrev shown : ValueOrder → Instance → Network → Bool × ℕ × List ℕ × ℕ × ℕ
shown order I S = ((S.units 0).stopped, (S.units 0).bound, values_at order I (S.units 0).best, length (written S.units I.n), S.accepted)

-- after a run
abbrev seen : ValueOrder → Instance → List ℕ → Bool × ℕ × List ℕ × ℕ × ℕ
seen order I cells = shown order I (run (problem_by order I) pool_cells (make (problem_by order I)) cells)

-- values ascending
abbrev after : Instance → List ℕ → Bool × ℕ × List ℕ × ℕ × ℕ
after I cells = seen Ascending I cells

-- 01: "Table T: n = 2, sizes 2 and 2, costs 5, 3, 2, 4"
abbrev pub T : Instance
T = record { n = 2; dom = λ k. 2; unary = λ k v. 0; cost = λ i u j v. Some (get_or (5 ∷ 3 ∷ 2 ∷ 4 ∷ []) ((u - 1) * 2 + (v - 1)) 0) }

-- three units of two values each: the costs of the pairs (1,2), (1,3), (2,3)
abbrev three : Instance
three = record { n = 3; dom = λ k. 2; unary = λ k v. 0; cost = λ i u j v. Some (get_or (1 ∷ 5 ∷ 3 ∷ 4 ∷ 0 ∷ 2 ∷ 0 ∷ 4 ∷ 0 ∷ 3 ∷ 3 ∷ 2 ∷ []) ((i + j - 1) * 4 + (u - 1) * 2 + (v - 1)) 0) }

-- 01's listing: cell 0 each time
pub oldest_first_lem : after T (0 ∷ 0 ∷ 0 ∷ 0 ∷ 0 ∷ 0 ∷ 0 ∷ 0 ∷ []) ≡ (true, 2, 1 ∷ 2 ∷ [], 5, 8)
unfolding place_tried value_at
oldest_first_lem = refl

-- 01: "Newest-first on T: 5 records, 10 deliveries, the most allowed"
pub newest_first : after T (1 ∷ 1 ∷ 0 ∷ 1 ∷ 0 ∷ 1 ∷ 1 ∷ 0 ∷ 1 ∷ 0 ∷ []) ≡ (true, 2, 1 ∷ 2 ∷ [], 5, most (problem_by Ascending T))
unfolding place_tried value_at
newest_first = refl

-- the solution 3 comes after the solution 2, and is not taken
pub late_solution : after T (0 ∷ 1 ∷ 2 ∷ 4 ∷ 1 ∷ 1 ∷ 2 ∷ []) ≡ (true, 2, 1 ∷ 2 ∷ [], 5, 7)
unfolding place_tried value_at
late_solution = refl

-- no solution comes to unit 1: it has its bounds from the CPAs that go back
pub no_solution : after T (0 ∷ 1 ∷ 2 ∷ 3 ∷ []) ≡ (true, 2, 1 ∷ 2 ∷ [], 5, 4)
unfolding place_tried value_at
no_solution = refl

-- unit 2 has backtracked when an estimate for its last CPA comes: it is stale, and not refused
pub late_estimate : after three (0 ∷ 2 ∷ 2 ∷ 2 ∷ 4 ∷ 4 ∷ []) ≡ (true, 1, 1 ∷ 1 ∷ 1 ∷ [], 3, 6)
unfolding place_tried value_at
late_estimate = refl

-- ---- a tie

-- units of 2 and 3 values; all but unit 1's first with unit 2's first have the least total, 1: the best is the first of them, after 3 deliveries of the 10
abbrev tie : Instance
tie = record { n = 2; dom = λ k. k + 2; unary = λ k v. 0; cost = λ i u j v. Some (cond (eqb u 1 && eqb v 1) 2 1) }

pub first_of_a_tie : after tie (replicate 10 0) ≡ (true, 1, 2 ∷ 1 ∷ [], 3, 3)
unfolding place_tried value_at
first_of_a_tie = refl

-- ---- tables with forbidden pairs

-- T, with unit 1's value 2 forbidden beside unit 2's value 1: value 1 with 2 is the least
abbrev barred : Instance
barred = record { n = 2; dom = λ k. 2; unary = λ k v. 0; cost = λ i u j v. cond (eqb u 2 && eqb v 1) None (T.cost i u j v) }

pub around_a_forbidden_pair : after barred (0 ∷ 0 ∷ 0 ∷ []) ≡ (true, 3, 2 ∷ 1 ∷ [], 3, 3)
unfolding place_tried value_at
around_a_forbidden_pair = refl

-- every pair is forbidden: no value of unit 1 has an h, so it stops when made, with none to report and no record
abbrev none : Instance
none = record { n = 2; dom = λ k. 2; unary = λ k v. 0; cost = λ i u j v. None }

pub stops_when_made : after none [] ≡ (true, NONE, [], 0, 0)
unfolding place_tried value_at
stops_when_made = refl

-- each value of unit 1 goes with some value of units 2 and 3, but none of these go together: unit 2's estimate is NONE, at which unit 1 gives up its
-- value, first 1, then 2
abbrev apart : Instance
apart = record { n = 3; dom = λ k. 2; unary = λ k v. 0; cost = λ i u j v. cond (eqb i 1) None (Some 1) }

pub none_left : after apart (1 ∷ 2 ∷ 3 ∷ 4 ∷ []) ≡ (true, NONE, [], 2, 4)
unfolding place_tried value_at
none_left = refl

-- ---- a table with unary costs

-- T, where unit 1's value 2 costs 2 alone: value 1 with 2, at 3, is less than value 2 with 1, at 4
abbrev priced : Instance
priced = record { n = 2; dom = λ k. 2; unary = λ k v. cond (eqb k 0 && eqb v 2) 2 0; cost = T.cost }

pub unary_cost_counts : after priced (0 ∷ 0 ∷ 0 ∷ []) ≡ (true, 3, 2 ∷ 1 ∷ [], 3, 3)
unfolding place_tried value_at
unary_cost_counts = refl

-- ---- cheapest first. 02, job 9: "by rising h, the lower number first on a tie, values without an h last"

-- T: unit 1 tries its value 2, of h 2, before its value 1, of h 3, so it writes the least assignment first
pub cheapest_on_T : seen CheapestFirst T (0 ∷ 0 ∷ 0 ∷ []) ≡ (true, 2, 1 ∷ 2 ∷ [], 2, 3)
unfolding h earlier place_tried value_at
cheapest_on_T = refl

-- a unit of five values whose h are 3, forbidden, 2, 3 and forbidden: it tries 3, 1, 4, 2, 5
abbrev five : Instance
five = record { n = 2; dom = λ k. cond (eqb k 0) 5 1; unary = λ k v. 0; cost = λ i u j v. cond (eqb u 2 || eqb u 5) None (Some (cond (eqb u 3) 2 3)) }

pub order_of_five : map (value_at (view_by CheapestFirst five 0)) (0 ∷ 1 ∷ 2 ∷ 3 ∷ 4 ∷ 5 ∷ 6 ∷ []) ≡ 0 ∷ 3 ∷ 1 ∷ 4 ∷ 2 ∷ 5 ∷ 0 ∷ []
unfolding h earlier place_tried value_at
order_of_five = refl

-- ---- 02, job 2: echoes

-- what making sends, of two units
abbrev cpa : Msg
cpa = down 1 1 (1 ∷ []) NONE []

abbrev asked : Msg
asked = request 1 0 1 (1 ∷ [])

-- the CPA is heard before it is taken from its cell, and again after; the request is answered, and still waits
abbrev echoes : List Event
echoes = echo cpa ∷ cell 0 ∷ echo cpa ∷ echo asked ∷ cell 1 ∷ cell 3 ∷ cell 4 ∷ []

pub echoes_were_sent : Echoes (problem_by Ascending T) pool_cells (start (problem_by Ascending T)) echoes
unfolding place_tried value_at
echoes_were_sent = (here refl, (tt, (here refl, (there (here refl), (tt, (tt, (tt, tt)))))))

-- the same total and records
pub heard_again : shown Ascending T (hear_all (problem_by Ascending T) pool_cells (start (problem_by Ascending T)) echoes).network ≡ (true, 2, 1 ∷ 2 ∷ [], 5, 7)
unfolding place_tried value_at
heard_again = refl

-- two units of one value each: more deliveries than a run without echoes may have
abbrev two : Instance
two = record { n = 2; dom = λ k. 1; unary = λ k v. 0; cost = λ i u j v. Some 7 }

pub echoes-past-limit
    : shown Ascending two (hear_all (problem_by Ascending two) pool_cells (start (problem_by Ascending two)) (cell 0 ∷ echo cpa ∷ echo cpa ∷ echo cpa ∷ echo cpa ∷ cell 1 ∷ [])).network
    ≡ (true, 7, 1 ∷ 1 ∷ [], 2, 1 + most (problem_by Ascending two))
unfolding place_tried value_at
echoes-past-limit = refl

-- ---- a pool with too few cells

-- four units of 2, 2, 2 and 1 values: the costs of the pairs (1,2), (1,3), (1,4), (2,3), (2,4), and (3,4) behind a row of zeros
abbrev four : Instance
four =
    record {
      n = 4;
      dom = λ k. get_or (2 ∷ 2 ∷ 2 ∷ 1 ∷ []) k 0;
      unary = λ k v. 0;
      cost = λ i u j v.
          Some (get_or (2 ∷ 2 ∷ 1 ∷ 0 ∷ 0 ∷ 0 ∷ 1 ∷ 0 ∷ 0 ∷ 0 ∷ 1 ∷ 0 ∷ 0 ∷ 0 ∷ 0 ∷ 0 ∷ 0 ∷ 0 ∷ 1 ∷ 0 ∷ 0 ∷ 0 ∷ 0 ∷ 0 ∷ 0 ∷ 0 ∷ 1 ∷ 0 ∷ []) ((2 * i + j - 1) * 4 + (u - 1) * 2 + (v - 1)) 0);
    }

-- 24 deliveries to its network in so many cells: whether unit 1 has stopped, how many were accepted, and how many are with one of the five that then wait
abbrev crowded : ℕ → Bool × ℕ × List ℕ
crowded room =
    let P = problem_by Ascending four in
    let S = run P room (make P) (0 ∷ 0 ∷ 0 ∷ 4 ∷ 1 ∷ 5 ∷ 0 ∷ 1 ∷ 3 ∷ 2 ∷ 3 ∷ 3 ∷ 3 ∷ 1 ∷ 3 ∷ 3 ∷ 0 ∷ 0 ∷ 0 ∷ 0 ∷ 0 ∷ 1 ∷ 1 ∷ 1 ∷ []) in
    ((S.units 0).stopped, S.accepted, map (λ c. (deliver P room S c).accepted) (0 ∷ 1 ∷ 2 ∷ 3 ∷ 4 ∷ []))

-- In six cells it sticks: two estimates for unit 1, two for unit 2 and its CPA coming back wait, and each delivery is refused by 14. With one cell more none is.
pub stuck : crowded 6 ≡ (false, 24, 24 ∷ 24 ∷ 24 ∷ 24 ∷ 24 ∷ [])
unfolding place_tried value_at
stuck = refl

pub not_stuck : crowded 7 ≡ (false, 24, 25 ∷ 25 ∷ 25 ∷ 25 ∷ 25 ∷ [])
unfolding place_tried value_at
not_stuck = refl
