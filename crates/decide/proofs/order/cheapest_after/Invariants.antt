-- `cheapest_after` meets its contract. The loop's invariant: what was found is the earliest of the first u values that are later than v.
-- Assumes nothing.
use Prim.Native.Nat.{◌≤◌}
use mathlib.Core.Path.{◌≡◌}
use Rattle.costs.specs.declared.ValueOrder.TheVariants.{CheapestFirst}
use Rattle.costs.specs.Instance.{View}
use Rattle.rules.specs.Ready.{Keys}
use Rattle.decide.proofs.Later.{Earliest, BestOf}
use Rattle.decide.proofs.order.cheapest_after.Given as goal

abbrev pub invariant-loop-u : goal.invariant-loop-u
invariant-loop-u l = (l.found ≤ l.u) × BestOf l.keys l.found l.best × ((w : View) → w.order ≡ CheapestFirst → w.dom w.place ≡ l.d → Keys w l.keys → Earliest w l.v l.u l.found)
