-- The way of a message: whether it changes so little that a run need not carry the whole state through a step. Nobody has to believe it: a unit
-- decides what the way says, `way_decides` of Laws/Ways. Assumes nothing.
use Rattle.std.specs.Prelude.{ℕ, ◌+◌, ◌-◌, Bool, cond, ◌&&◌, List, [], ltb, leb, get_or, set, Result, Ok, Err}
use Rattle.base.specs.Sums.{sum_from}
use Rattle.costs.specs.declared.Seat.{Seat}
use Rattle.costs.specs.{Cost.as_number, Instance.View, Instance.view_knowing, Bounds.estimate}
use Rattle.message.specs.{declared.Kind.Kind, declared.Message.Message, Message.is_unit}
use Rattle.message.specs.declared.Kind.TheVariants.{Cpa, Request, Estimate, Solution, Stop}
use Rattle.rules.specs.{declared.Unit.Unit, declared.Way.Way}
use Rattle.std.specs.declared.cmp.Ordering.{Ordering}
use Rattle.std.specs.declared.cmp.Ordering.TheVariants.{Less, Equal, Greater}
use Rattle.rules.specs.declared.Way.TheVariants.{Quiet, Reply, Follow, Store, Lower, Whole}
use Rattle.rules.specs.State.{zeros, with_threshold, with_best, compare_on, same_on}
use Rattle.rules.specs.Step.{Decision, accepted, quiet, reply}
use Rattle.rules.specs.Tests.{stored}

-- a request: stale, or answered; 01: "bigger sets the threshold"
abbrev pub request_way : Ordering → Way
request_way Less = Quiet
request_way Equal = Reply
request_way Greater = Follow

-- of the CPA out, and stored it leaves the cost and the estimates below the bound
abbrev pub stays_below : ℕ → ℕ → Unit → Message → Bool
stays_below own n u m =
    ltb 0 (get_or u.values (own - 1) 0) && same_on own m.stamp u.stamp
    && ltb (u.cost + sum_from (λ (j : ℕ). get_or (set u.estimates (m.sender - 1) m.cost) j 0) own (n - own)) u.bound

-- an estimate: stale, or only stored
abbrev pub estimate_way : Ordering → Bool → Way
estimate_way Less below = Quiet
estimate_way Equal below = cond below Store Whole
estimate_way Greater below = Whole

abbrev pub way_by : ℕ → ℕ → Kind → Unit → Message → Way
way_by own n Cpa u m = Whole
way_by own n Request u m = request_way (compare_on (own - 1) m.stamp u.threshold)
way_by own n Estimate u m = estimate_way (compare_on own m.stamp u.threshold) (stays_below own n u m)
way_by own n Solution u m = cond (ltb m.bound u.bound) Lower Quiet
way_by own n Stop u m = Whole

-- read, by one of at most 16 units, and from one of 16; or the number of a refusal, any
unfoldable pub way_of : Seat → Result (Kind × Message) ℕ → Unit → Way
way_of seat (Ok (k, m)) u = cond (is_unit seat.n seat.own && leb seat.n 16 && is_unit 16 m.sender) (way_by seat.own seat.n k u m) Whole
way_of seat (Err r) u = Whole

-- what a unit decides, told by the way; o where it does not tell
abbrev pub by_way : Way → View → Unit → Message → Decision → Decision
by_way Quiet w u m o = quiet u
by_way Reply w u m o = accepted u (reply w m) []
by_way Follow w u m o = accepted (with_threshold m.stamp u) (reply w m) []
by_way Store w u m o = quiet (stored m u)
by_way Lower w u m o = quiet (with_best m.bound m.best u)
by_way Whole w u m o = o

-- the estimate that answers a request, from a seat
abbrev pub reply_to : Seat → List ℕ → List ℕ → Message → Message
reply_to seat costs ahead m = record { sender = seat.own; receiver = m.sender; stamp = m.stamp; values = zeros; cost = as_number (estimate (view_knowing seat costs ahead) m.values m.sender); bound = 0; best = zeros }

-- the state with what a way changes; no estimate is stored but of one of 16 units
abbrev pub changed_by : Way → Message → Unit → Unit
changed_by Quiet m u = u
changed_by Reply m u = u
changed_by Follow m u = with_threshold m.stamp u
changed_by Store m u = cond (is_unit 16 m.sender) (stored m u) u
changed_by Lower m u = with_best m.bound m.best u
changed_by Whole m u = u
