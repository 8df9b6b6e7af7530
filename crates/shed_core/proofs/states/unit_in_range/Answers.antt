-- `shed_core::states::unit_in_range` meets its contract: what the own value pays is read from the stream, and so is its place. Assumes nothing.
use Rattle.std.proofs.Common.{◌≡◌, ℕ, suc, pred, ◌+◌, ◌<◌, leb, List, get_or, ◌∙◌, arith}
use Rattle.table.specs.Stream.{Accepted}
use Rattle.table.specs.StreamLaws.{accepted_units}
use Rattle.rules.specs.Laws.Range.{range_numbered}
use Rattle.costs.specs.Instance.{View, view_by, instance_of}
use Rattle.costs.specs.Order.{place_tried}
use Rattle.rules.specs.declared.Unit.{Unit}
use Rattle.rules.specs.State.{paid_in_range, cpa_out_in_range}
use Rattle.shed_core.proofs.states.unit_in_range.Goals as goal
use Rattle.shed_core.proofs.states.unit_in_range.Goals.{Start}

-- one of at most 16 places
place-16 : (c : Start) → c.args.k < 16
place-16 c = omega (arith, c.requires.1, (accepted_units c.args.stream.now c.requires.0).1)

pub overflow_add-own : goal.overflow_add-own
overflow_add-own c = record { fits = omega (arith, place-16 (goal.at.overflow_add-own c).Start) }

pub bounds-u-from : goal.bounds-u-from
bounds-u-from c = omega (arith, c.from.ensures, place-16 (goal.at.bounds-u-from c).Start)

pub invariant_of-member : goal.invariant_of-member
unfolding Accepted
invariant_of-member c = record { accepted = c.requires.0; first = omega arith; last = omega (arith, c.requires.1) }

-- a place matters only for whether the counter is within it
same_place : (n : ℕ) (sizes : List ℕ) (i paid p q : ℕ) (u : Unit) → leb u.counter p ≡ leb u.counter q → paid_in_range n sizes i paid p u ≡ paid_in_range n sizes i paid q u
unfolding paid_in_range cpa_out_in_range
same_place n sizes i paid p q u e = rw e

pub returns : goal.returns
returns c =
    let a = c.args in
    let p : pred (a.k + 1) ≡ a.k = omega arith in
    let w : View = view_by a.order (instance_of a.stream.now) (pred (a.k + 1)) in
    c.in_range_paid.ensures
    ∙ range_numbered a.n a.sizes a.k _ _ a.u (place-16 (goal.at.returns c).Start)
    ∙ same_place a.n a.sizes (suc a.k) _ _ (place_tried w (get_or a.u.values a.k 0)) a.u (rw c.from.ensures at c.place_asked-place.ensures)
    ∙ rw (c.as_number.ensures, c.stream_cost_with-paid.ensures, c.from.ensures, p)
