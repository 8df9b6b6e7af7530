-- `sum_later` meets its contract. The loop's invariant: the whole sum is what is summed and the rest from place j on.
-- Assumes nothing.
use Prim.Native.Nat.{ℕ, ◌+◌, ◌*◌, ◌-◌, ◌≤◌}
use mathlib.Core.Path.{◌≡◌}
use lib.ListN.{get_or}
use Rattle.base.specs.Sums.{sum_from}
use Rattle.decide.proofs.estimate.sum_later.Given as goal

abbrev pub invariant-loop-j : goal.invariant-loop-j
invariant-loop-j l =
    let rest = λ (i : ℕ). sum_from (λ (k : ℕ). get_or l.estimates k 0) i (l.fn.seat.n - i) in
    (l.fn.seat.own ≤ l.j) × (l.j-end ≡ l.fn.seat.n) × (l.estimates ≡ l.fn.estimates) × (l.sum ≤ 4294967295 * l.j) × (rest l.fn.seat.own ≡ l.sum + rest l.j)
