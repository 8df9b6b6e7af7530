-- `put_own` meets its contract. The loop's invariant: the first k own costs are written.
-- Assumes nothing.
use Prim.Native.Nat.{◌+◌}
use mathlib.Core.Path.{◌≡◌, ◌∙◌}
use native.Mathlib.Omega.{arith}
use Rattle.projections.specs.Made.{own_number}
use Rattle.projections.specs.Made.Steps.{numbers_none, numbers-next, own_read}
use Rattle.projections.proofs.held.put_own.Goals as goal

pub loop-k-init : goal.loop-k-init
loop-k-init c = numbers_none (own_number c.args.stream.now) c.args.out.now 0

pub loop-k-preserved : goal.loop-k-preserved
loop-k-preserved c =
    let a = c.args in
    let l = c.loop-k in
    let p = c.requires in
    let x = c.own_number.ensures ∙ own_read a.stream.now a.before a.from l.k p.0 p.1 in
    let z : 0 + l.k ≡ l.k = omega arith in
    rw z at (numbers-next (own_number a.stream.now) a.out.now l.out 0 l.k c.own_number.result (omega arith) l.auto.out l.invariant x)

pub returns : goal.returns
returns c =
    let l = c.loop-k in
    let e : l.k ≡ c.args.count = omega arith in
    rw (← e) l.invariant
