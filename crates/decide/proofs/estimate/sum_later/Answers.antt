-- `sum_later` meets its contract. The loop's invariant: the whole sum is what is summed and the rest from place j on.
-- Assumes nothing.
use Prim.Native.Nat.{ℕ}
use native.Mathlib.Omega.{arith}
use lib.ListN.{get_or}
use Rattle.decide.proofs.Rules.{sum_more, sum_done}
use Rattle.decide.proofs.estimate.sum_later.Goals as goal

pub loop-j-preserved : goal.loop-j-preserved
loop-j-preserved c =
    let a = c.args in
    let l = c.loop-j in
    let m = sum_more (λ (k : ℕ). get_or a.estimates k 0) l.j a.seat.n (omega arith) in
    (omega arith, omega arith, l.invariant.2, omega arith, omega arith)

pub returns : goal.returns
returns c =
    let a = c.args in
    let l = c.loop-j in
    (omega arith, λ w o q. rw (o, q) (omega (arith, sum_done (λ (k : ℕ). get_or a.estimates k 0) l.j a.seat.n (omega arith))))
