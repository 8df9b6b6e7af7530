-- `slots::cells::place_all` meets its contract. The loop's invariant: placing all is placing those from the i-th on into the pool as it is.
-- Assumes nothing.
use Rattle.std.proofs.Common.{◌≡◌, ℕ, ◌+◌, ◌-◌, ◌*◌, List, sym, ap, ◌∙◌, arith}
use native.Mathlib.Nat.{sub-zero}
use Rattle.slots.specs.Placing.{place_sent, place-next, place_end}
use Rattle.slots.proofs.cells.place_all.Goals as goal

pub loop-i-init : goal.loop-i-init
loop-i-init c = rw sub-zero

pub loop-i-preserved : goal.loop-i-preserved
loop-i-preserved c =
    let a = c.args in
    let l = c.loop-i in
    let m : 64 * l.i + 64 - 64 * l.i ≡ 64 = omega arith in
    place-next a.n l.pool a.out.now l.i a.sent l.invariant (omega arith) ∙ ap (λ (x : List ℕ). place_sent a.n x a.out.now (l.i + 1) (a.sent - (l.i + 1))) (sym (c.place.ensures ∙ rw m))

pub returns : goal.returns
returns c =
    let a = c.args in
    let l = c.loop-i in
    place_end a.n l.pool a.out.now l.i a.sent l.invariant (omega arith)
