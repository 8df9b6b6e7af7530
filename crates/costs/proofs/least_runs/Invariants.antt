-- `least_runs` meets its contract. The loop's invariant: the whole is the sum and the runs from place j on; `before` counts the values of the others before place j.
-- Assumes nothing.
use Rattle.std.proofs.Common.{◌≡◌, ◌+◌, ◌*◌, ◌≤◌, Some}
use Rattle.costs.specs.Cost.{◌⊕◌}
use Rattle.costs.specs.Lent.Parts.{others_before, runs_from}
use Rattle.costs.proofs.least_runs.Given as goal

abbrev pub invariant-loop-j : goal.invariant-loop-j
invariant-loop-j l = (runs_from l.seat l.costs l.v (l.place + 1) ≡ Some l.sum ⊕ runs_from l.seat l.costs l.v l.j) × (l.sum ≤ 65535 * l.j) × (l.before ≡ others_before l.seat l.j) × (l.before ≤ 255 * l.j) × (l.j ≤ 255)
