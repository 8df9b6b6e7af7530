-- `put_row` meets its contract. The loop's invariant: the costs with the first v lots stand at their place. Assumes nothing.
use Prim.Native.Nat.{suc, ◌+◌, ◌*◌, ◌≤◌}
use mathlib.Core.List.{[]}
use mathlib.Core.Path.{◌≡◌, ap, ◌∙◌}
use native.Mathlib.Omega.{arith}
use lib.ListN.{length}
use lib.Seq.{paste-zero}
use Rattle.base.specs.Bytes.{le16}
use Rattle.base.specs.Put.{put_at}
use Rattle.base.specs.Join.Laws.{join_turn}
use Rattle.readings.specs.Readings.{in_lots}
use Rattle.readings.specs.Pieces.{row_of, row_length, lots_from_one}
use Rattle.readings.proofs.put_row.Goals as goal

pub loop-v-init : goal.loop-v-init
loop-v-init c = paste-zero c.args.stream.now c.args.at []

pub overflow_mul-v : goal.overflow_mul-v
overflow_mul-v c = omega arith

pub overflow_add-at : goal.overflow_add-at
overflow_add-at c =
    let a = c.args in
    omega (arith, row_length a.cost a.e a.u)

pub put_cost-requires : goal.put_cost-requires
put_cost-requires c =
    let a = c.args in
    omega (arith, row_length a.cost a.e a.u)

pub loop-v-preserved : goal.loop-v-preserved
loop-v-preserved c =
    let a = c.args in
    let l = c.loop-v in
    let lots = c.in_lots in
    let room : a.at ≤ length a.stream.now = omega arith in
    let place : a.at + 2 * l.v ≡ a.at + length (row_of a.cost l.v a.u) = omega (arith, row_length a.cost l.v a.u) in
    c.put_cost.ensures
    ∙ join_turn (λ v. le16 (in_lots a.cost (suc a.u) (suc v))) l.v a.at _ a.stream.now l.stream (le16 lots.result) room l.invariant place
    (ap le16 (lots.ensures ∙ lots_from_one a.cost a.u l.v))

pub returns : goal.returns
returns c =
    let a = c.args in
    let l = c.loop-v in
    let e : l.v ≡ a.e = omega arith in
    l.invariant ∙ ap (λ k. put_at a.stream.now a.at (row_of a.cost k a.u)) e
