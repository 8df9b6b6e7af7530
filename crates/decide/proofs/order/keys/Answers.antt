-- `keys` meets its contract. The loop's invariant: the first v keys are known.
-- Assumes nothing.
use native.Mathlib.Omega.{arith}
use Prim.Native.Nat.{◌-◌}
use mathlib.Core.Path.{◌≡◌, refl}
use lib.ListN.{get_or, length-set}
use Rattle.costs.specs.Instance.{view_knowing}
use Rattle.rules.specs.State.{zeros}
use Rattle.decide.proofs.Later.{known_none, known_more, all_known, none_asked}
use Rattle.decide.proofs.order.keys.Goals as goal

pub returns-in_default : goal.returns-in_default
returns-in_default c = let a = c.args in none_asked a.seat a.costs.now a.ahead.now zeros c.in_default.is

pub loop-v-init : goal.loop-v-init
loop-v-init c = let a = c.args in (refl, known_none (view_knowing a.seat a.costs.now a.ahead.now) zeros)

pub loop-v-preserved : goal.loop-v-preserved
loop-v-preserved c =
    let a = c.args in
    let l = c.loop-v in
    let i : c.from-in-loop-v.result ≡ l.v = c.from-in-loop-v.ensures in
    let d : get_or a.seat.sizes c.from.result 0 ≡ get_or a.seat.sizes (a.seat.own - 1) 0 = rw c.from.ensures in
    rw i (simp length-set l.invariant.0, known_more (view_knowing a.seat a.costs.now a.ahead.now) l.keys l.v c.as_number.result c.h.result (omega arith) l.invariant.1 c.as_number.ensures c.h.ensures.0 c.h.ensures.1)

pub returns : goal.returns
returns c =
    let l = c.loop-v in
    let d : get_or c.args.seat.sizes c.from.result 0 ≡ get_or c.args.seat.sizes (c.args.seat.own - 1) 0 = rw c.from.ensures in
    let e : l.v ≡ get_or c.args.seat.sizes (c.args.seat.own - 1) 0 = omega arith in
    all_known c.args.seat c.args.costs.now c.args.ahead.now l.keys c.requires (rw e at l.invariant.1)
