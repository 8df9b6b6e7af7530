-- `carry_out` meets its contract: a refusal is handed on; else the messages are laid by `lay`, and the rest is handed on.
-- Assumes nothing.
use Prim.Native.Nat.{pred}
use Rattle.unit.proofs.Calls.{carried_out, carried_refusal}
use Rattle.unit.proofs.carry_out.Goals as goal

pub returns-then-refusal-ne0 : goal.returns-then-refusal-ne0
returns-then-refusal-ne0 c =
    let a = c.args in
    λ was o e. carried_refusal a.seat.n (pred a.seat.own) was o a.d a.out.now _ e c.if-refusal-ne0.true (c.refused.ensures a.seat.n (pred a.seat.own))

pub returns : goal.returns
returns c =
    let a = c.args in
    let s = c.lay.ensures in
    λ was o e. carried_out a.seat.n a.seat.own was o a.d _ a.out.now _ e c.if-refusal-ne0.false s.0 s.1
