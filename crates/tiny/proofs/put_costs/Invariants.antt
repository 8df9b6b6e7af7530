-- `put_costs` meets its contract. The loop's invariant: the first k costs stand at their place, and `weight` is the power of the digits that are left.
-- Assumes nothing.
use Prim.Native.Nat.{◌-◌, ◌^◌}
use mathlib.Core.Path.{◌≡◌}
use Rattle.base.specs.Bytes.{le16}
use Rattle.base.specs.Join.{join_to}
use Rattle.base.specs.Put.{put_at}
use Rattle.tiny.specs.Binary.{digit}
use Rattle.tiny.proofs.put_costs.Given as goal

abbrev pub invariant-loop-k : goal.invariant-loop-k
invariant-loop-k l =
    (l.weight ≡ 2 ^ (l.costs - l.k)) × (l.stream ≡ put_at l.initial.stream l.at (join_to (λ i. le16 (digit l.costs l.number i)) l.k))
