-- Document 01, "What a reviewer will try", 4: "Cases marked * are proved together as one table".
-- A row has a case's number, what the definitions give, and what 01 says, values tried ascending unless a row says otherwise; `cases_hold` is the table's one theorem. Programs run the other cases
-- against expected output: 9 is `T, newest first` of `sheds`; 10 is `bench`, whose input has 10 units of 4 values, 1,048,576 assignments, and in
-- `bench_samples` most.table, as many in another shape, and more.table, 1,049,760, the next number that sizes give: 16.
-- Assumes nothing.
use Rattle.std.specs.Prelude.{ℕ, ◌-◌, ◌≡◌, refl, cond, List, [], ◌∷◌, ◌++◌, map, length, get_or, take, drop, replicate}
use Rattle.base.specs.Limits.{stream_size}
use Rattle.base.specs.Shape.{all_in_sixteen, shape_good}
use Rattle.checksum.specs.Sum.{sum_of}
use Rattle.table.specs.Stream.{opening, sum_list, unaries_in, pairs_in, pair_good, unary_good, costs_good, stream_refusal}
use Rattle.table.specs.Block.{all_zero, block_refusal}
use Rattle.table.specs.BlockLaws.{check_of}
use Rattle.table.specs.Written.{block_of, file_from, file_of}
use Rattle.table.specs.File.{blocks_refusal, joined, stream_of, read_refusal}
use Rattle.costs.specs.declared.ValueOrder.TheVariants.{Ascending, CheapestFirst}
use Rattle.costs.specs.Cost.{as_number}
use Rattle.costs.specs.Instance.{Instance, view_of, instance_of}
use Rattle.costs.specs.Bounds.{cost_with, h, estimate, total}
use Rattle.costs.specs.Order.{earlier, place_tried, value_at, next}
use Rattle.search.specs.Search.{search_refusal, search_of}
use Rattle.search.specs.Best.{in_turn, best_from}
use Rattle.message.specs.Message.{Packet}
use Rattle.message.specs.declared.Kind.TheVariants.{Request, Estimate}
use Rattle.rules.specs.declared.Unit.{Unit as State}
use Rattle.rules.specs.State.{compare_on, same_on}
use Rattle.rules.specs.Step.{backtrack, try_after, assign, resume, on_cpa, on_request, on_estimate, on_solution, on_stop, respond}
use Rattle.rules.specs.Send.{each, packets}
use Rattle.runs.specs.Run.{History, unit_at, begin, run_in, run}
use Rattle.cases.specs.Sheds.{stream_with, stream_t, pair_at, alone_at, priced_t, single}

-- what a row compares
pub data Seen : Type 0 where
  numbers : List ℕ → Seen
  messages : List Packet → Seen
  states : List State → Seen

pub record Row : Type 0 where
  pub number : ℕ
  pub found : Seen
  pub said : Seen

abbrev row : ℕ → Seen → Seen → Row
row k f s = record { number = k; found = f; said = s }

abbrev count : ℕ → List ℕ → List ℕ → Row
count k f s = row k (numbers f) (numbers s)

-- the number that reading the table of stream s gives
abbrev reading : List ℕ → ℕ
reading s = read_refusal (file_of s) stream_size

-- T's instance, and that of one unit of three values
abbrev instance_t : Instance
instance_t = instance_of stream_t

abbrev instance_one : Instance
instance_one = instance_of (stream_with (3 ∷ []) [])

-- unit 1 after a run: whether it has stopped, its bound, its best assignment's first two values
abbrev unit_one_of : History → List ℕ
unit_one_of H = let u = unit_at H.units 0 in cond u.stopped 1 0 ∷ u.bound ∷ get_or u.best 0 0 ∷ get_or u.best 1 0 ∷ []

-- how many records were written, and messages handed over and waiting
abbrev counts_of : History → List ℕ
counts_of H = length H.written ∷ length H.handed ∷ length H.waiting ∷ []

-- unit 1's own value, its stamp, and the cost of its CPA
abbrev cpa_of : History → List ℕ
cpa_of H = let u = unit_at H.units 0 in get_or u.values 0 0 ∷ get_or u.stamp 0 0 ∷ u.cost ∷ []

-- the last message that was handed over, and what was sent for it
abbrev last_step : History → List Packet
last_step H = drop (length H.handed - 1) H.handed ++ drop (length H.sent - 1) H.sent

-- the copy of unit 1's value v in T, stamp v, and unit 2's estimate e for it
abbrev copy_of : ℕ → Packet
copy_of v = record { kind = Request; message = record { sender = 1; receiver = 2; stamp = v ∷ replicate 15 0; values = v ∷ replicate 15 0; cost = 0; bound = 0; best = replicate 16 0 } }

abbrev estimate_for : ℕ → ℕ → Packet
estimate_for v e = record { kind = Estimate; message = record { sender = 2; receiver = 1; stamp = v ∷ replicate 15 0; values = replicate 16 0; cost = e; bound = 0; best = replicate 16 0 } }

-- T after "paper, news, copy, estimate delivered"
abbrev four : List ℕ
four = 0 ∷ 2 ∷ 0 ∷ 1 ∷ []

unfoldable pub table : List Row
table =
    -- "T's stream is 11 bytes, its check 219"
    count 1 (length stream_t ∷ check_of (block_of 0 stream_t) ∷ reading stream_t ∷ []) (11 ∷ 219 ∷ 0 ∷ []) ∷
    -- "h of unit 1: 3 and 2"
    count 2 (as_number (h (view_of instance_t 0) 1) ∷ as_number (h (view_of instance_t 0) 2) ∷ []) (3 ∷ 2 ∷ []) ∷
    -- "Least total 2, by values 2, 1"
    count 3 ((search_of stream_t).refusal ∷ (search_of stream_t).total ∷ take 2 (search_of stream_t).values) (0 ∷ 2 ∷ 2 ∷ 1 ∷ []) ∷
    -- "n = 1, size 3: total 0, value 1, one record, no delivery", in either order
    count 4 (unit_one_of (run Ascending instance_one []) ++ counts_of (run Ascending instance_one [])) (1 ∷ 0 ∷ 1 ∷ 0 ∷ 1 ∷ 0 ∷ 0 ∷ []) ∷
    count 4 (unit_one_of (run CheapestFirst instance_one []) ++ counts_of (run CheapestFirst instance_one [])) (1 ∷ 0 ∷ 1 ∷ 0 ∷ 1 ∷ 0 ∷ 0 ∷ []) ∷
    -- "Copy of unit 1's value 1: estimate 3; of value 2: 2": the copy is delivered, and the estimate is what unit 2 sends
    row 5 (messages (last_step (run Ascending instance_t (1 ∷ [])))) (messages (copy_of 1 ∷ estimate_for 1 3 ∷ [])) ∷
    row 5 (messages (last_step (run Ascending instance_t (four ++ (2 ∷ []))))) (messages (copy_of 2 ∷ estimate_for 2 2 ∷ [])) ∷
    -- "T: paper, news, copy, estimate delivered: unit 1 gives up value 1 and writes value 2 with stamp 2"
    count 6 (cpa_of (run Ascending instance_t four) ++ counts_of (run Ascending instance_t four)) (2 ∷ 2 ∷ 0 ∷ 4 ∷ 4 ∷ 3 ∷ []) ∷
    -- "the paper going back is then stale": it is handed over and nothing is sent; all units stay as they were
    count 6 (counts_of (run Ascending instance_t (four ++ (0 ∷ [])))) (4 ∷ 5 ∷ 2 ∷ []) ∷
    row 6 (states (run Ascending instance_t (four ++ (0 ∷ []))).units) (states (run Ascending instance_t four).units) ∷
    -- 02, job 9: "by rising h": cheapest first, unit 1 of T writes value 2 when it is made, and with it the least total, 2, is found in 3 deliveries
    count 6 (cpa_of (run CheapestFirst instance_t [])) (2 ∷ 1 ∷ 0 ∷ []) ∷
    count 3 (unit_one_of (run CheapestFirst instance_t (0 ∷ 0 ∷ 0 ∷ [])) ++ counts_of (run CheapestFirst instance_t (0 ∷ 0 ∷ 0 ∷ []))) (1 ∷ 2 ∷ 2 ∷ 1 ∷ 2 ∷ 3 ∷ 3 ∷ []) ∷
    -- "Cost 60,000 read, 60,001 refused by 7"
    count 7 (reading (pair_at 60000) ∷ reading (pair_at 60001) ∷ []) (0 ∷ 7 ∷ []) ∷
    -- 02, job 3: "A pair cost of 65,535 means barred, and check 7 lets that number through for pairs."
    count 7 (reading (pair_at 65534) ∷ reading (pair_at 65535) ∷ []) (7 ∷ 0 ∷ []) ∷
    -- 02, job 7: "a cost per value, 0 to 60,000, never barred"
    count 7 (reading (alone_at 60000) ∷ reading (alone_at 60001) ∷ reading (alone_at 65535) ∷ []) (0 ∷ 7 ∷ 7 ∷ []) ∷
    -- it counts in totals: of T with a unary cost of 2 at unit 1's value 2 the least is 3, by values 1, 2, for bench and shed; and "isn't part of h"
    count 3 ((search_of priced_t).refusal ∷ (search_of priced_t).total ∷ take 2 (search_of priced_t).values) (0 ∷ 3 ∷ 1 ∷ 2 ∷ []) ∷
    count 3 (unit_one_of (run Ascending (instance_of priced_t) (0 ∷ 0 ∷ 0 ∷ [])) ++ counts_of (run Ascending (instance_of priced_t) (0 ∷ 0 ∷ 0 ∷ []))) (1 ∷ 3 ∷ 1 ∷ 2 ∷ 3 ∷ 3 ∷ 3 ∷ []) ∷
    count 2 (as_number (h (view_of (instance_of priced_t) 0) 1) ∷ as_number (h (view_of (instance_of priced_t) 0) 2) ∷ []) (3 ∷ 2 ∷ []) ∷
    -- "n = 16 read, 17 and 0 refused by 5"
    count 8 (reading (single 16 120) ∷ reading (single 17 136) ∷ reading (single 0 0) ∷ []) (0 ∷ 5 ∷ 5 ∷ []) ∷
    []

pub cases_hold : map (λ (r : Row). r.found) table ≡ map (λ (r : Row). r.said) table
unfolding table all_in_sixteen shape_good sum_of opening unaries_in sum_list pairs_in pair_good unary_good costs_good stream_refusal all_zero block_refusal block_of blocks_refusal joined stream_of read_refusal file_from file_of instance_of cost_with h estimate total earlier place_tried value_at next in_turn best_from search_refusal search_of compare_on same_on backtrack try_after assign resume on_cpa on_request on_estimate on_solution on_stop respond each packets begin run_in run
cases_hold = refl
