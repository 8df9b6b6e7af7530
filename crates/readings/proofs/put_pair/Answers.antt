-- `put_pair` meets its contract. The loop's invariant: the costs of the first u lots stand at their place. Assumes nothing.
use Prim.Native.Nat.{◌+◌, ◌*◌, ◌≤◌}
use mathlib.Core.List.{[]}
use mathlib.Core.Path.{◌≡◌, refl, ap, ◌∙◌}
use native.Mathlib.Nat.{mul-le-mul}
use native.Mathlib.Omega.{arith}
use lib.ListN.{length}
use lib.Seq.{paste-zero}
use Rattle.base.specs.Put.{put_at}
use Rattle.base.specs.Join.Laws.{join_turn, join_room}
use Rattle.readings.specs.Pieces.{row_of, pair_of, pair_length}
use Rattle.readings.proofs.put_pair.Goals as goal

pub loop-u-init : goal.loop-u-init
loop-u-init c = paste-zero c.args.stream.now c.args.at []

pub overflow_mul-e-in-loop-u : goal.overflow_mul-e-in-loop-u
overflow_mul-e-in-loop-u c =
    let p : 2 * c.args.e ≤ 510 = omega arith in
    let q : c.loop-u.u ≤ 255 = omega arith in
    omega (arith, mul-le-mul p q)

pub overflow_add-at : goal.overflow_add-at
overflow_add-at c =
    let a = c.args in
    let l = c.loop-u in
    omega (arith, pair_length a.cost l.u a.e, join_room (row_of a.cost a.e) l.u a.d (omega arith))

pub put_row-requires : goal.put_row-requires
put_row-requires c =
    let a = c.args in
    let l = c.loop-u in
    omega (arith, pair_length a.cost l.u a.e, join_room (row_of a.cost a.e) l.u a.d (omega arith))

pub loop-u-preserved : goal.loop-u-preserved
loop-u-preserved c =
    let a = c.args in
    let l = c.loop-u in
    let room : a.at ≤ length a.stream.now = omega arith in
    let place : a.at + 2 * a.e * l.u ≡ a.at + length (pair_of a.cost l.u a.e) = omega (arith, pair_length a.cost l.u a.e) in
    c.put_row.ensures ∙ join_turn (row_of a.cost a.e) l.u a.at _ a.stream.now l.stream (row_of a.cost a.e l.u) room l.invariant place refl

pub overflow_mul-result-2 : goal.overflow_mul-result-2
overflow_mul-result-2 c =
    let p : 2 * c.args.e ≤ 510 = omega arith in
    let q : c.args.d ≤ 255 = omega arith in
    omega (arith, mul-le-mul p q)

pub overflow_add-result : goal.overflow_add-result
overflow_add-result c =
    let a = c.args in
    omega (arith, pair_length a.cost a.d a.e)

pub returns : goal.returns
returns c =
    let a = c.args in
    let l = c.loop-u in
    let e : l.u ≡ a.d = omega arith in
    (omega (arith, pair_length a.cost a.d a.e), l.invariant ∙ ap (λ k. put_at a.stream.now a.at (pair_of a.cost k a.e)) e)
