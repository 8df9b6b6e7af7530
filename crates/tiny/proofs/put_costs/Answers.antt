-- `put_costs` meets its contract. The loop's invariant: the first k costs stand at their place, and `weight` is the power of the digits that are left.
-- Assumes nothing.
use Prim.Native.Nat.{suc, ◌+◌, ◌*◌, ◌-◌, ◌/◌, ◌^◌}
use mathlib.Core.List.{[]}
use mathlib.Core.Path.{◌≡◌, ap, ◌∙◌}
use native.Mathlib.Nat.{sub-zero}
use native.Mathlib.Numerals.{add-one}
use native.Mathlib.Omega.{arith}
use lib.ListN.{length}
use lib.Seq.{paste-zero}
use Rattle.base.specs.Bytes.{le16}
use Rattle.base.specs.Join.{join_to}
use Rattle.base.specs.Join.Laws.{join_turn}
use Rattle.base.specs.Put.{put_at}
use Rattle.tiny.specs.Binary.{digit}
use Rattle.tiny.specs.Binary.Laws.{power_half, half_positive}
use Rattle.tiny.specs.Steps.{costs_length}
use Rattle.tiny.proofs.put_costs.Goals as goal

pub loop-k-init : goal.loop-k-init
loop-k-init c =
    (rw (sub-zero c.args.costs) c.requires.0, paste-zero c.args.stream.now c.args.at [])

pub put_cost-requires : goal.put_cost-requires
put_cost-requires c = (omega arith, omega arith)

pub loop-k-preserved : goal.loop-k-preserved
loop-k-preserved c =
    let a = c.args in
    let l = c.loop-k in
    let half : l.weight / 2 ≡ 2 ^ (a.costs - suc l.k) = rw l.invariant.0 (power_half a.costs l.k (omega arith)) in
    let place : a.at + 2 * l.k ≡ a.at + length (join_to (λ i. le16 (digit a.costs a.number i)) l.k) = omega (arith, costs_length a.costs a.number l.k) in (
      rw add-one half,
      c.put_cost.ensures
          ∙ join_turn (λ i. le16 (digit a.costs a.number i)) l.k a.at _ a.stream.now l.stream _ (omega arith) l.invariant.1 place (rw half),
    )

pub returns : goal.returns
returns c =
    let a = c.args in
    let l = c.loop-k in
    let e : l.k ≡ a.costs = omega arith in
    l.invariant.1 ∙ ap (λ k. put_at a.stream.now a.at (join_to (λ i. le16 (digit a.costs a.number i)) k)) e

pub nonzero_div-number : goal.nonzero_div-number
nonzero_div-number c = rw c.loop-k.invariant.0 (half_positive c.args.costs c.loop-k.k (omega arith))
