-- `network::lending::look` meets its contract: the first k units know h. The costs of a unit are the part lent with it.
-- Assumes nothing.
use Rattle.std.specs.Prelude.{◌≡◌, suc, ◌+◌, ◌-◌, ◌<◌, ◌≤◌, length, get_or, take, drop, replicate}
use mathlib.Core.Path.{refl}
use native.Mathlib.Numerals.{add-one}
use native.Mathlib.Omega.{arith}
use lib.ListN.{length-set}
use borrow.Author.Rules.{rules}
use Rattle.table.specs.Stream.{units_of}
use Rattle.table.specs.StreamLaws.{accepted_units}
use Rattle.costs.specs.Gather.{sizes_in}
use Rattle.costs.specs.Gathered.{gathered}
use Rattle.costs.specs.Instance.{lent_view}
use Rattle.costs.specs.Knowing.{Knows}
use Rattle.runs.specs.Lending.{part-order, part_end, part_costs, looked_none, looked_more}
use Rattle.network.proofs.lending.look.Goals as goal
use Rattle.network.proofs.lending.look.Goals.{After-sizes_of-sizes, In-loop-k}

-- there are no more than 16 units
units : (c : After-sizes_of-sizes) → (c.units_of-n.result ≡ units_of c.args.stream.now) × (c.units_of-n.result ≤ 16)
units c = let e = c.units_of-n.ensures in (e, omega (arith, e, (accepted_units c.args.stream.now c.requires.0).1))

pub loop-k-init : goal.loop-k-init
loop-k-init c = (refl, looked_none c.args.order c.args.stream.now (replicate 16 (record { ahead = replicate 16 0 })))

-- a turn of the loop: the next unit is one of them
below : (c : In-loop-k) → c.loop-k.k < units_of c.args.stream.now
below c = omega (arith, (units (goal.at.In-loop-k c).After-sizes_of-sizes).0)

few : (c : In-loop-k) → c.loop-k.k < 16
few c = omega (arith, (units (goal.at.In-loop-k c).After-sizes_of-sizes).1)

-- where its costs stand
ordered : (c : In-loop-k) → let a = c.args in get_or a.starts c.loop-k.k 0 ≤ get_or a.starts (c.loop-k.k + 1) 0
ordered c = part-order c.args.stream.now c.args.starts c.args.lent.now c.requires.1 c.loop-k.k (below c)

ends : (c : In-loop-k) → let a = c.args in get_or a.starts (c.loop-k.k + 1) 0 ≤ length a.lent.now
ends c = part_end c.args.stream.now c.args.starts c.args.lent.now c.requires.1 c.loop-k.k (below c)

pub loop-k-preserved : goal.loop-k-preserved
loop-k-preserved c =
    let past = goal.at.loop-k-preserved c in
    let s = c.args.stream.now in
    let l = c.loop-k in
    let b = below past.In-loop-k in
    let costs : take (get_or c.args.starts (l.k + 1) 0 - get_or c.args.starts l.k 0) (drop (get_or c.args.starts l.k 0) c.args.lent.now) ≡ gathered s (suc l.k) =
    part_costs s c.args.starts c.args.lent.now c.requires.1 l.k b in
    let knows : Knows (lent_view c.args.order (suc l.k) (units_of s) (sizes_in s) (gathered s (suc l.k))) c.lookahead-ahead.result =
    rw (c.units_of-n.ensures, c.sizes_of-sizes.ensures, c.from-place.ensures, costs, add-one) at c.lookahead-ahead.ensures in
    (simp length-set l.invariant.0, rw (c.from-place.ensures, add-one) (looked_more c.args.order s l.looks l.k (record { ahead = c.lookahead-ahead.result }) (omega (arith, l.invariant.0, few past.In-loop-k)) l.invariant.1 (record { long = search rules; knows = knows })))

pub returns : goal.returns
returns c =
    let l = c.loop-k in
    let e : l.k ≡ units_of c.args.stream.now = omega (arith, (units (goal.at.returns c).After-sizes_of-sizes).0) in
    rw e at l.invariant.1

pub bounds-starts-place : goal.bounds-starts-place
bounds-starts-place c = omega (arith, c.from-place.ensures, (units (goal.at.bounds-starts-place c).After-sizes_of-sizes).1)

pub bounds-starts-place-in-loop-k : goal.bounds-starts-place-in-loop-k
bounds-starts-place-in-loop-k c = omega (arith, c.from-place.ensures, (units (goal.at.bounds-starts-place-in-loop-k c).After-sizes_of-sizes).1)

pub overflow_add-seat : goal.overflow_add-seat
overflow_add-seat c = record { fits = omega (arith, few (goal.at.overflow_add-seat c).In-loop-k) }

pub slice_bounds-lookahead-count : goal.slice_bounds-lookahead-count
slice_bounds-lookahead-count c = rw c.from-place.ensures (ordered (goal.at.slice_bounds-lookahead-count c).In-loop-k)

pub slice_bounds-lookahead-start : goal.slice_bounds-lookahead-start
slice_bounds-lookahead-start c = let l = rw (← c.from-place.ensures) at (ordered (goal.at.slice_bounds-lookahead-start c).In-loop-k) in search rules

pub slice_bounds-lookahead-end : goal.slice_bounds-lookahead-end
slice_bounds-lookahead-end c = let l = ends (goal.at.slice_bounds-lookahead-end c).In-loop-k in search rules

pub bounds-looks-place : goal.bounds-looks-place
bounds-looks-place c = omega (arith, c.from-place.ensures, few (goal.at.bounds-looks-place c).In-loop-k)
