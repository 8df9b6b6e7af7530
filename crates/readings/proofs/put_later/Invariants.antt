-- `put_later` meets its contract. The loop's invariant: the costs with the lines before j stand at their place, and `end` is where they end.
-- Assumes nothing.
use Prim.Native.Nat.{ℕ, suc, ◌+◌, ◌-◌, ◌≤◌, ◌<◌}
use mathlib.Core.List.{List}
use mathlib.Core.Path.{◌≡◌}
use lib.ListN.{length}
use Rattle.base.specs.Join.{join_to}
use Rattle.base.specs.Put.{put_at}
use Rattle.costs.specs.Streamed.{pair_costs}
use Rattle.readings.specs.Readings.{lines_of}
use Rattle.readings.proofs.put_later.Given as goal

-- the costs of line i with the k-th line after it
abbrev pub piece : ℕ → List ℕ → List ℕ → ℕ → ℕ → List ℕ
piece n sizes readings i k = pair_costs (lines_of n sizes readings) i (suc i + k)

abbrev pub invariant-loop-j : goal.invariant-loop-j
invariant-loop-j l =
    let before = join_to (piece l.n l.sizes l.readings l.i) (l.j - suc l.i) in
    (l.count ≡ l.n) × (l.i < l.j) × (l.j ≤ l.n) × (l.end ≡ l.at + length before) × (l.stream ≡ put_at l.initial.stream l.at before)
