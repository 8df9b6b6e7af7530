-- `put_later` meets its contract. The loop's invariant: the costs with the lines before j stand at their place, and `end` is where they end.
-- Assumes nothing.
use Prim.Native.Nat.{ℕ, suc, ◌+◌, ◌-◌, ◌≤◌, ◌<◌}
use mathlib.Core.List.{List, []}
use mathlib.Core.Path.{◌≡◌, ap, ◌∙◌}
use native.Mathlib.Omega.{arith}
use lib.ListN.{length, length-append}
use lib.Seq.{paste-zero}
use Rattle.base.specs.Join.{join_to}
use Rattle.base.specs.Join.Laws.{join_more, join_turn, join_room}
use Rattle.costs.specs.Streamed.{pair_costs}
use Rattle.readings.specs.Readings.{lines_of}
use Rattle.readings.specs.Pieces.{lines_pair, pair_is}
use Rattle.readings.proofs.put_later.Invariants.{piece}
use Rattle.readings.proofs.put_later.Goals as goal

pub loop-j-init : goal.loop-j-init
loop-j-init c =
    let a = c.args in
    let none : a.i + 1 - suc a.i ≡ 0 = omega arith in
    (c.from-count.ensures, omega arith, omega arith, rw none (omega arith), rw none (paste-zero a.stream.now a.at []))

-- the next piece
next : (n : ℕ) (sizes readings : List ℕ) (i j : ℕ) → i < j → j < n → lines_pair sizes readings i j ≡ piece n sizes readings i (j - suc i)
next n sizes readings i j order inside =
    let e : j ≡ suc i + (j - suc i) = omega arith in
    pair_is n sizes readings i j (omega arith) inside ∙ ap (λ k. pair_costs (lines_of n sizes readings) i k) e

pub put_lines-end-requires : goal.put_lines-end-requires
unfolding lines_of
put_lines-end-requires c =
    let a = c.args in
    let l = c.loop-j in
    let e = next a.n a.sizes a.readings.now a.i l.j l.invariant.1 (omega arith) in
    let room = join_room (piece a.n a.sizes a.readings.now a.i) (l.j - suc a.i) (a.n - suc a.i) (omega arith) in
    (omega arith, omega arith, omega (arith, ap length e))

pub loop-j-preserved : goal.loop-j-preserved
loop-j-preserved c =
    let a = c.args in
    let l = c.loop-j in
    let k = l.j - suc a.i in
    let f = piece a.n a.sizes a.readings.now a.i in
    let e = next a.n a.sizes a.readings.now a.i l.j l.invariant.1 (omega arith) in
    let more : l.j + 1 - suc a.i ≡ k + 1 = omega arith in
    let room : a.at ≤ length a.stream.now = omega arith in (
      l.invariant.0,
      omega arith,
      omega arith,
      rw more (c.put_lines-end.ensures.0 ∙ omega (arith, ap length e, l.invariant.3, ap length (join_more f k), length-append (join_to f k) (f k))),
      rw more (c.put_lines-end.ensures.1 ∙ join_turn f k a.at l.end a.stream.now l.stream (lines_pair a.sizes a.readings.now a.i l.j) room l.invariant.4 l.invariant.3 e),
    )

pub returns : goal.returns
unfolding lines_of
returns c =
    let a = c.args in
    let l = c.loop-j in
    let e : l.j - suc a.i ≡ a.n - suc a.i = omega arith in
    rw (← e) (l.invariant.3, l.invariant.4)
