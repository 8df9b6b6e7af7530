-- `put_costs` meets its contract. The loop's invariant: the costs of the first i lines stand at their place, and `at` is where they end.
-- Assumes nothing.
use Prim.Native.Nat.{◌+◌, ◌≤◌}
use mathlib.Core.List.{[]}
use mathlib.Core.Path.{◌≡◌, refl, ap, ◌∙◌}
use native.Mathlib.Omega.{arith}
use lib.ListN.{length, length-append}
use lib.Seq.{paste-zero}
use Rattle.base.specs.Join.{join_to}
use Rattle.base.specs.Put.{put_at}
use Rattle.base.specs.Join.Laws.{join_more, join_turn, join_room}
use Rattle.costs.specs.Streamed.{later_costs}
use Rattle.readings.specs.Readings.{lines_of}
use Rattle.readings.proofs.put_costs.Goals as goal

pub loop-i-init : goal.loop-i-init
loop-i-init c =
    let a = c.args in
    (c.from-count.ensures, omega arith, paste-zero a.stream.now (1 + a.n) [])

pub put_later-at-requires : goal.put_later-at-requires
put_later-at-requires c =
    let l = c.loop-i in
    let room = join_room (later_costs (lines_of c.args.n c.args.sizes c.args.readings.now)) l.i c.args.n (omega arith) in
    (c.requires.0, omega arith, omega arith)

pub loop-i-preserved : goal.loop-i-preserved
loop-i-preserved c =
    let a = c.args in
    let l = c.loop-i in
    let f = later_costs (lines_of a.n a.sizes a.readings.now) in
    let room : 1 + a.n ≤ length a.stream.now = omega arith in (
      l.invariant.0,
      c.put_later-at.ensures.0 ∙ omega (arith, l.invariant.1, ap length (join_more f l.i), length-append (join_to f l.i) (f l.i)),
      c.put_later-at.ensures.1 ∙ join_turn f l.i (1 + a.n) l.at a.stream.now l.stream (f l.i) room l.invariant.2 l.invariant.1 refl,
    )

pub returns : goal.returns
returns c =
    let a = c.args in
    let l = c.loop-i in
    let e : l.i ≡ a.n = omega arith in
    let f = later_costs (lines_of a.n a.sizes a.readings.now) in
    (l.invariant.1 ∙ ap (λ k. 1 + a.n + length (join_to f k)) e, l.invariant.2 ∙ ap (λ k. put_at a.stream.now (1 + a.n) (join_to f k)) e)
