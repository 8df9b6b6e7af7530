-- `cost_before` meets its contract. The loop's invariant: what is counted along stands at the pair with the unit at place j.
-- Assumes nothing.
use Rattle.std.proofs.Common.{◌≡◌, ℕ, true, get_or, sym, ap, ◌∙◌, arith}
use Rattle.base.specs.Sums.{sum_from}
use Rattle.base.specs.Shape.{is_value}
use Rattle.base.specs.Shape.Laws.{value_range}
use Rattle.table.specs.Stream.{units_of}
use Rattle.costs.specs.Instance.{view_of, instance_of, dom_of}
use Rattle.costs.specs.Bounds.{cost_with}
use Rattle.costs.specs.StreamCost.{Turn, stream_unary_lem, running-first, later_after, between_after, place-most, row_after, pair_here, running-next, running_stops}
use Rattle.costs.proofs.prefix.cost_before.Goals as goal
use Rattle.costs.proofs.prefix.cost_before.Goals.{After-all_sizes-later, After-from-e, After-cost_in_pair}

-- all sizes added up
all : (c : After-all_sizes-later) → let s = c.args.opened.now.stream.now in c.all_sizes-later.result ≡ sum_from (dom_of s) 0 (units_of s)
all c = c.all_sizes-later.ensures.0 ∙ ap (λ (m : ℕ). sum_from (dom_of c.args.opened.now.stream.now) 0 m) (c.from.ensures ∙ c.units.ensures)

-- the value is one
own : (c : After-all_sizes-later) → let a = c.args in is_value (dom_of a.opened.now.stream.now a.place) a.v ≡ true
own c = ap (λ (x : ℕ). is_value x c.args.v) (sym c.requires.1) ∙ c.requires.3

pub pairs_at-start-requires : goal.pairs_at-start-requires
pairs_at-start-requires c = (all (goal.at.pairs_at-start-requires c).After-all_sizes-later, omega (arith, c.all_sizes-later.ensures.1))

pub unary_at-sum-requires : goal.unary_at-sum-requires
unary_at-sum-requires c =
    let a = c.args in
    let q = value_range (dom_of a.opened.now.stream.now a.place) a.v (own (goal.at.unary_at-sum-requires c).After-all_sizes-later) in
    (omega (arith, c.all_sizes-between.ensures.1, c.requires.0), q.0, omega (arith, q.1, c.requires.1, c.requires.2))

pub loop-j-init : goal.loop-j-init
loop-j-init c =
    let past = goal.at.loop-j-init c in
    let a = c.args in (
      c.pairs_at-start.ensures.0,
      c.pairs_at-start.ensures.1,
      running-first a.opened.now.stream.now a.values a.place a.v c.all_sizes-later.result c.all_sizes-between.result c.unary_at-sum.result (omega arith) (omega (arith, c.requires.0))
          (all past.After-all_sizes-later) c.all_sizes-between.ensures.0 (omega (arith, c.all_sizes-later.ensures.1)) c.all_sizes-between.ensures.1
          (stream_unary_lem a.opened.now.stream.now a.place a.v c.all_sizes-between.result (own past.After-all_sizes-later) c.all_sizes-between.ensures.0 ∙ sym c.unary_at-sum.ensures.0) c.unary_at-sum.ensures.1,
    )

pub size_at-requires : goal.size_at-requires
size_at-requires c = omega (arith, c.loop-j.invariant.2.inside, c.requires.0)

-- what the laws of a turn go by
turn : (c : After-from-e)
    → let l = c.loop-j in
    let a = c.args in
    Turn a.opened.now.stream.now a.values a.place a.v l.later l.between l.row l.sum l.j c.from-e.result
turn c =
    record {
      own = own (goal.at.After-from-e c).After-all_sizes-later;
      now = c.loop-j.invariant.2;
      more = c.loop-j-test.true;
      size = c.from-e.ensures ∙ c.size_at.ensures;
      byte = omega arith;
    }

pub overflow_sub-later : goal.overflow_sub-later
overflow_sub-later c = omega (arith, later_after (turn (goal.at.overflow_sub-later c).After-from-e))

pub overflow_sub-between : goal.overflow_sub-between
overflow_sub-between c = omega (arith, between_after (turn (goal.at.overflow_sub-between c).After-from-e))

pub overflow_mul-from : goal.overflow_mul-from
overflow_mul-from c = omega (arith, place-most (turn (goal.at.overflow_mul-from c).After-from-e), c.requires.0)

pub overflow_add-from : goal.overflow_add-from
overflow_add-from c = omega (arith, place-most (turn (goal.at.overflow_add-from c).After-from-e), c.requires.0)

pub overflow_mul-from-in-loop-j : goal.overflow_mul-from-in-loop-j
overflow_mul-from-in-loop-j c = omega (arith, place-most (turn (goal.at.overflow_mul-from-in-loop-j c).After-from-e), c.requires.0)

pub overflow_add-from-in-loop-j : goal.overflow_add-from-in-loop-j
overflow_add-from-in-loop-j c = omega (arith, place-most (turn (goal.at.overflow_add-from-in-loop-j c).After-from-e), c.loop-j.invariant.1, c.requires.0)

pub cost_in_pair-requires : goal.cost_in_pair-requires
cost_in_pair-requires c =
    let past = goal.at.cost_in_pair-requires c in
    let a = c.args in
    let most = place-most (turn past.After-from-e) in
    let q = value_range (dom_of a.opened.now.stream.now a.place) a.v (turn past.After-from-e).own in
    (omega (arith, c.loop-j.invariant.1, c.requires.0), omega (arith, c.requires.2), c.value_at-u.ensures.1, q.0, omega (arith, q.1, c.requires.1, c.requires.2))

-- the cost of the pair; it is no more than 16 bits hold
pair_is : (c : After-cost_in_pair)
    → let a = c.args in
    let j = c.loop-j.j in
    (view_of (instance_of a.opened.now.stream.now) a.place).pair j (get_or a.values j 0) a.v ≡ c.cost_in_pair.result
pair_is c = pair_here (turn (goal.at.After-cost_in_pair c).After-from-e) c.cost_in_pair.result (c.cost_in_pair.ensures.0 ∙ rw (c.value_at-u.ensures.0, c.loop-j.invariant.0, c.requires.1))

pub returns-in_err-sum : goal.returns-in_err-sum
returns-in_err-sum c =
    let past = goal.at.returns-in_err-sum c in
    rw c.from_residual.ensures (sym (running_stops (turn past.After-from-e) (pair_is past.After-cost_in_pair ∙ c.in_err-sum.was)))

pub overflow_add-sum : goal.overflow_add-sum
overflow_add-sum c =
    let past = goal.at.overflow_add-sum c in
    let now = (turn past.After-from-e).now in omega (arith, c.in_ok-sum.ensures.1, now.sum_most, now.inside, c.requires.0)

pub overflow_mul-row : goal.overflow_mul-row
overflow_mul-row c =
    let past = goal.at.overflow_mul-row c in
    let now = (turn past.After-from-e).now in omega (arith, row_after (turn past.After-from-e), now.inside, c.requires.0)

pub overflow_add-row : goal.overflow_add-row
overflow_add-row c =
    let past = goal.at.overflow_add-row c in
    let now = (turn past.After-from-e).now in omega (arith, row_after (turn past.After-from-e), now.inside, c.requires.0)

pub loop-j-preserved : goal.loop-j-preserved
loop-j-preserved c =
    let past = goal.at.loop-j-preserved c in
    let l = c.loop-j in
    (l.invariant.0, l.invariant.1, running-next (turn past.After-from-e) c.in_ok-sum.field-0 (omega (arith, c.in_ok-sum.ensures.1)) (pair_is past.After-cost_in_pair ∙ c.in_ok-sum.was))

pub returns : goal.returns
returns c =
    let l = c.loop-j in
    let a = c.args in
    let e : l.j ≡ a.place = omega (arith, l.invariant.2.inside, c.loop-j-test.false) in
    l.invariant.2.cost_so_far ∙ ap (λ (m : ℕ). cost_with (view_of (instance_of a.opened.now.stream.now) a.place) a.values m a.v) e
