-- `network::lending::lay` meets its contract: after k units their costs stand in front of the buffer, one unit's behind the other's.
-- Assumes nothing.
use Rattle.std.specs.Prelude.{◌≡◌, length}
use Rattle.runs.specs.Lending.{lent_to, Lending}
use Rattle.network.proofs.lending.lay.Given as goal

abbrev pub invariant-loop-k : goal.invariant-loop-k
invariant-loop-k l =
    (length l.starts ≡ 17) × (l.at ≡ length (lent_to l.stream l.k)) × Lending l.stream l.k l.starts l.initial.out l.out
