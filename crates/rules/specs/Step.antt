-- What a unit does, document 01, 'What a unit does', after the AFB paper's figures 1 to 3.
-- Changes with respect to the paper (01, "Amended from 000"): the bound and best ride on cpas and stops; a solution never raises
-- a bound; unit n sends one round of solutions, after its last improvement in a step; unit 1 stops on backtracking.
--     Decision                             a refusal, or the new state, what is sent, and the records written
--     take_bound, take_off, carried          small pieces
--     assign, backtrack                    01: "Assign", "Back up"
--     on_cpa .. on_stop, respond             01: "Paper", "Copy", "Estimate", "News", "Stop"
-- Places count from 0: the unit at place k is 01's unit i = k + 1. Assumes nothing.
use Rattle.std.specs.Prelude.{ℕ, zero, suc, ◌+◌, ◌-◌, Bool, true, false, cond, ◌&&◌, ◌||◌, List, [], ◌∷◌, ltb, leb, eqb, get_or, set, take, Some}
use Rattle.base.specs.Sums.{sum_from}
use Rattle.costs.specs.{Cost.◌⊕◌, Cost.below, Cost.as_number, Instance.View, Bounds.cost_with, Bounds.h, Bounds.estimate, Order.next, Order.left}
use Rattle.message.specs.{declared.Message.Message, declared.Kind.Kind, Message.no_message}
use Rattle.message.specs.declared.Kind.TheVariants.{Cpa, Request, Estimate, Solution, Stop}
use Rattle.rules.specs.{declared.Unit.Unit, declared.Sending.Sending}
use Rattle.std.specs.declared.cmp.Ordering.{Ordering}
use Rattle.std.specs.declared.cmp.Ordering.TheVariants.{Less, Equal, Greater}
use Rattle.std.specs.Ordering.{is_ge}
use Rattle.rules.specs.declared.Plan.TheVariants.{Nothing, Forward, Back, Reply}
use Rattle.rules.specs.State.{zeros, with_threshold, with_best, with_estimates, with_cpa, with_counter, with_stopped, own_value, own_cost, compare_on, same_on}

-- 01: "At each record unit i writes a beginning: the values of units 1 to i"; beside it the stamp on these units
pub record Written : Type 0 where
  pub unit : ℕ
  pub stamp : List ℕ
  pub values : List ℕ

-- what a unit decides: a refusal; or the state, what is sent, and the records written, oldest first
pub data Decision : Type 0 where
  refused : ℕ → Decision
  accepted : Unit → Sending → List Written → Decision

-- a record written before what follows
abbrev pub recorded : Written → Decision → Decision
recorded r (refused x) = refused x
recorded r (accepted u s ws) = accepted u s (r ∷ ws)

-- ---- small pieces

-- this state, nothing sent and no record written; 01: "A stale message changes nothing and sends nothing."
abbrev pub quiet : Unit → Decision
quiet u = accepted u (record { plan = Nothing; improved = false; message = no_message }) []

-- 01: "Take its bound and best if lower."
abbrev pub take_bound : Message → Unit → Unit
take_bound m u = cond (ltb m.bound u.bound) (with_best m.bound m.best u) u

-- 01: "the cost without the own value"
abbrev pub bare_cost : View → Unit → ℕ
bare_cost w u = u.cost - own_cost w u

-- 01: "Take the own value off", "paper's own stamp place 0"
abbrev pub take_off : View → Unit → Unit
take_off w u = with_cpa (set u.stamp w.place 0) (set u.values w.place 0) (bare_cost w u) u

-- the fields that the messages of a cpa carry
abbrev pub carried : View → Unit → Message
carried w u = record { sender = suc w.place; receiver = 0; stamp = u.stamp; values = u.values; cost = u.cost; bound = u.bound; best = u.best }

-- ---- 01: "Back up", the own value off already

-- 01: "threshold's own place up by 1 .. clear estimates. Unit 1 stops .. Then no paper is out: the paper kept is zeroed, the counter stays."
abbrev pub backed_up : View → Unit → Unit
backed_up w u =
    with_stopped (eqb w.place 0 || u.stopped)
    (with_cpa zeros zeros 0 (with_estimates zeros (with_threshold (set u.threshold w.place (suc (get_or u.threshold w.place 0))) u)))

-- 01: "sends stop to all others; others send the paper to the unit before"
unfoldable pub backtrack : View → Bool → Unit → Decision
backtrack w improved u = accepted (backed_up w u) (record { plan = Back; improved = improved; message = carried w u }) []

-- ---- 01: "Assign"

-- 01: "is written (one record): counter up by 1, into own stamp place; threshold becomes the stamp", the cost c with it
abbrev pub write : View → ℕ → ℕ → Unit → Unit
write w v c u =
    let s = set u.stamp w.place (suc u.counter) in
    with_threshold s (with_counter (suc u.counter) (with_cpa s (set u.values w.place v) c u))

-- the record of the cpa out
abbrev pub record_of : View → Unit → Written
record_of w u = record { unit = suc w.place; stamp = take (suc w.place) u.stamp; values = take (suc w.place) u.values }

-- 01: "Unit n takes its cost as bound and the lotting as best, and assigns again. Others send the paper to the next unit and a copy to every later unit."
abbrev pub after_write : View → Bool → Unit → (Bool → Unit → Decision) → Decision
after_write w true u again = recorded (record_of w u) (again true (take_off w (with_best u.cost u.values u)))
after_write w false u again = accepted u (record { plan = Forward; improved = false; message = carried w u }) (record_of w u ∷ [])

-- 01: "Try the values after the current one" in the order of the view (02, job 9). "The first with cost + h(v) below the bound is written": m values after v are left,
-- the own value is off. "No value: back up." 02, job 3: what is forbidden is below no bound, so a value barred with a filled one, or with no h,
-- "can't be written, even with no bound".
unfoldable pub try_after : View → ℕ → ℕ → Bool → Unit → Decision
try_after w zero v improved u = backtrack w improved u
try_after w (suc m) v improved u =
    let x = next w v in
    let c = Some u.cost ⊕ cost_with w u.values w.place x in
    cond (below (c ⊕ h w x) u.bound) (after_write w (eqb (suc w.place) w.n) (write w x (as_number c) u) (λ (b : Bool) (t : Unit). try_after w m x b t)) (try_after w m x improved u)

-- 01: "Clear estimates; if the paper has no own value the counter becomes 0."
abbrev pub begun : View → Unit → Unit
begun w u = take_off w (with_counter (cond (eqb (own_value w u) 0) 0 u.counter) (with_estimates zeros u))

unfoldable pub assign : View → Unit → Decision
assign w u = try_after w (left w (own_value w u)) (own_value w u) false (begun w u)

-- ---- 01: "Paper"

-- 01: "If the cost without the own value is at least the bound, back up; else assign."
unfoldable pub resume : View → Unit → Decision
resume w u = cond (leb u.bound (bare_cost w u)) (backtrack w false (take_off w u)) (assign w u)

-- a message's cpa is the one out, and its bound is taken
abbrev pub received : Message → Unit → Unit
received m u = take_bound m (with_cpa m.stamp m.values m.cost u)

-- 01: "Smaller: stale. A bigger one going down sets the threshold."
abbrev pub on_down : View → Ordering → Unit → Message → Decision
on_down w Less u m = quiet u
on_down w Equal u m = resume w (received m u)
on_down w Greater u m = resume w (received m (with_threshold m.stamp u))

-- 01: "One going back must equal this unit's paper out in stamp, values and cost, else refusal 11."
abbrev pub is_out : View → Unit → Bool
is_out w u = ltb 0 (own_value w u)

abbrev pub is_cpa_out : View → Unit → Message → Bool
is_cpa_out w u m = is_out w u && same_on (suc w.place) m.stamp u.stamp && same_on (suc w.place) m.values u.values && eqb m.cost u.cost

abbrev pub on_back : View → Ordering → Unit → Message → Decision
on_back w o u m = cond (is_ge o) (cond (is_cpa_out w u m) (resume w (take_bound m u)) (refused 11)) (quiet u)

-- 01: "Compare stamps on units 1 to i." A lower sender's cpa goes down.
unfoldable pub on_cpa : View → Unit → Message → Decision
on_cpa w u m =
    let o = compare_on (suc w.place) m.stamp u.threshold in
    cond (ltb m.sender (suc w.place)) (on_down w o u m) (on_back w o u m)

-- ---- 01: "Copy"

-- 01: "Reply with the least .., carrying the copy's stamp". 02, job 3: "An estimate with no value left carries 4,294,967,295"
abbrev pub reply : View → Message → Sending
reply w m = record {
  plan = Reply;
  improved = false;
  message = record { sender = suc w.place; receiver = m.sender; stamp = m.stamp; values = zeros; cost = as_number (estimate w m.values m.sender); bound = 0; best = zeros };
}

-- 01: "Smaller: stale; bigger sets the threshold."
abbrev pub on_fresh : View → Ordering → Unit → Message → Decision
on_fresh w Less u m = quiet u
on_fresh w Equal u m = accepted u (reply w m) []
on_fresh w Greater u m = accepted (with_threshold m.stamp u) (reply w m) []

-- 01: "Compare on units 1 to i-1."
unfoldable pub on_request : View → Unit → Message → Decision
on_request w u m = on_fresh w (compare_on w.place m.stamp u.threshold) u m

-- ---- 01: "Estimate"

-- 01: "if paper cost plus the estimates of units i+1 to n reaches the bound, assign". 02, job 3: an estimate of 4,294,967,295 reaches every bound,
-- none too: "the box it reaches .. then assigns", which clears the estimates
abbrev pub on_own_estimate : View → Bool → Unit → Decision
on_own_estimate w true u = cond (leb u.bound (u.cost + sum_from (λ (j : ℕ). get_or u.estimates j 0) (suc w.place) (w.n - suc w.place))) (assign w u) (quiet u)
on_own_estimate w false u = refused 11

-- 01: "Smaller: stale. Bigger, no paper out, or a stamp that isn't the paper out's on those units: refusal 11. Store it; .."
abbrev pub on_timely : View → Ordering → Unit → Message → Decision
on_timely w Less u m = quiet u
on_timely w Equal u m = on_own_estimate w (is_out w u && same_on (suc w.place) m.stamp u.stamp) (with_estimates (set u.estimates (m.sender - 1) m.cost) u)
on_timely w Greater u m = refused 11

-- 01: "Compare on 1 to i."
unfoldable pub on_estimate : View → Unit → Message → Decision
on_estimate w u m = on_timely w (compare_on (suc w.place) m.stamp u.threshold) u m

-- ---- 01: "News", "Stop"

-- 01: "Take it only if lower."
unfoldable pub on_solution : View → Unit → Message → Decision
on_solution w u m = quiet (take_bound m u)

-- 01: "Take its bound and best if lower; the unit has stopped."
unfoldable pub on_stop : View → Unit → Message → Decision
on_stop w u m = quiet (with_stopped true (take_bound m u))

-- ---- a message that was read

abbrev pub by_kind : View → Kind → Unit → Message → Decision
by_kind w Cpa u m = on_cpa w u m
by_kind w Request u m = on_request w u m
by_kind w Estimate u m = on_estimate w u m
by_kind w Solution u m = on_solution w u m
by_kind w Stop u m = on_stop w u m

-- 01, refusal 12: "unit has stopped"
unfoldable pub respond : View → Kind → Unit → Message → Decision
respond w k u m = cond u.stopped (refused 12) (by_kind w k u m)
