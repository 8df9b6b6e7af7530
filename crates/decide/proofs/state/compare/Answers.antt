-- `compare` meets its contract. The loop's invariant: the first i places are equal.
-- Assumes nothing.
use Rattle.std.proofs.Common.{sym, arith}
use Rattle.decide.proofs.Orders.{less_found, more_found, equal_more, equal_none}
use Rattle.decide.proofs.state.compare.Goals as goal

pub loop-i-init : goal.loop-i-init
loop-i-init c = let s = c.args in equal_none s.a s.b

pub returns-then-a-i : goal.returns-then-a-i
returns-then-a-i c =
    let s = c.args in
    let l = c.loop-i in
    sym (less_found s.a s.b l.i s.k (omega arith) l.invariant c.if-a-i.true)

pub returns-then-b-i : goal.returns-then-b-i
returns-then-b-i c =
    let s = c.args in
    let l = c.loop-i in
    sym (more_found s.a s.b l.i s.k (omega arith) l.invariant c.if-b-i.true)

pub loop-i-preserved : goal.loop-i-preserved
loop-i-preserved c =
    let s = c.args in
    let l = c.loop-i in
    equal_more s.a s.b l.i l.invariant c.if-a-i.false c.if-b-i.false
