-- `network::lending::lay` meets its contract: after k units their costs stand in front of the buffer, one unit's behind the other's.
-- Assumes nothing.
use Rattle.std.specs.Prelude.{◌≡◌, ◌+◌, ◌<◌, ◌≤◌, length, take}
use mathlib.Core.Path.{refl}
use native.Mathlib.Omega.{arith}
use lib.ListN.{length-set}
use borrow.Author.Rules.{rules}
use Rattle.base.specs.Refusal.{answered}
use Rattle.table.specs.Stream.{units_of, Accepted}
use Rattle.table.specs.StreamLaws.{accepted_units}
use Rattle.costs.specs.Gathered.{gathered}
use Rattle.runs.proofs.CodeLaws.{counted, lent-count, lent_length, lent_front}
use Rattle.runs.specs.Lending.{lent_to, lent-most, lending_none, turn_at, turn-lent}
use Rattle.network.proofs.lending.lay.Goals as goal
use Rattle.network.proofs.lending.lay.Goals.{After-unwrap_or-count}

-- the next unit, and what is gathered for it: `part` is what is laid
module _ (c : After-unwrap_or-count) where
  next : c.loop-k.k < units_of c.args.stream.now
  next = omega (arith, c.units_of-n.ensures)

  ok : Accepted c.args.stream.now
  ok = c.requires.0

  room : 7712 ≤ length c.loop-k.costs
  room = search rules

  many : c.unwrap_or-count.result ≤ 7712
  many = rw (c.unwrap_or-count.ensures, counted) (lent-count c.args.stream.now ok (c.loop-k.k + 1) (omega arith) (omega (arith, next)) _ (answered c.gather.result) room c.gather.ensures.0)

  long : c.unwrap_or-count.result ≡ length (gathered c.args.stream.now (c.loop-k.k + 1))
  long = rw (c.unwrap_or-count.ensures, counted) (lent_length c.args.stream.now ok (c.loop-k.k + 1) (omega arith) (omega (arith, next)) _ (answered c.gather.result) room c.gather.ensures.0)

  part : take c.unwrap_or-count.result c.gather.new.out ≡ gathered c.args.stream.now (c.loop-k.k + 1)
  part = rw (c.unwrap_or-count.ensures, counted) (lent_front c.args.stream.now ok (c.loop-k.k + 1) (omega arith) (omega (arith, next)) c.loop-k.costs c.gather.new.out (answered c.gather.result) room c.gather.ensures.0 c.gather.ensures.1)

pub loop-k-init : goal.loop-k-init
unfolding lent_to
loop-k-init c = (refl, refl, lending_none c.args.stream.now _ c.args.out.now refl)

pub overflow_add-own : goal.overflow_add-own
overflow_add-own c = let m = (accepted_units c.args.stream.now c.requires.0).1 in record { fits = omega (arith, m, c.units_of-n.ensures) }

pub overflow_add-at : goal.overflow_add-at
overflow_add-at c =
    let past = goal.at.overflow_add-at c in
    let m = lent-most c.args.stream.now c.requires.0 c.loop-k.k (omega (arith, next past.After-unwrap_or-count)) in
    record { fits = omega (arith, m, c.loop-k.invariant.1, many past.After-unwrap_or-count, (accepted_units c.args.stream.now c.requires.0).1, next past.After-unwrap_or-count) }

pub bounds-starts-from : goal.bounds-starts-from
bounds-starts-from c = omega (arith, c.from.ensures, (accepted_units c.args.stream.now c.requires.0).1, next (goal.at.bounds-starts-from c).After-unwrap_or-count)

pub loop-k-preserved : goal.loop-k-preserved
loop-k-preserved c =
    let past = goal.at.loop-k-preserved c in
    let a = c.args in
    let l = c.loop-k in
    let g = c.unwrap_or-count.result in
    let t = take g c.gather.new.out in
    let kept : length l.out ≡ length a.out.now = search rules in
    let room : 123392 ≤ length l.out = omega (arith, c.requires.1, kept) in (
      simp length-set l.invariant.0,
      turn_at a.stream.now (ok past.After-unwrap_or-count) l.k l.at g l.starts a.out.now l.out t (next past.After-unwrap_or-count) l.invariant.0 room l.invariant.1 (part past.After-unwrap_or-count) (many past.After-unwrap_or-count) (long past.After-unwrap_or-count),
      rw (c.put.ensures, c.from.ensures) (turn-lent a.stream.now (ok past.After-unwrap_or-count) l.k l.at g l.starts a.out.now l.out t (next past.After-unwrap_or-count) l.invariant.0 room l.invariant.1 (part past.After-unwrap_or-count) (many past.After-unwrap_or-count) (long past.After-unwrap_or-count) l.invariant.2),
    )

pub returns : goal.returns
returns c =
    let l = c.loop-k in
    let e : l.k ≡ units_of c.args.stream.now = omega (arith, c.units_of-n.ensures) in
    (c.args.out.now, rw e at l.invariant.2)
