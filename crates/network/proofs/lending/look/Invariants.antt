-- `network::lending::look` meets its contract: the first k units know h. The costs of a unit are the part lent with it.
-- Assumes nothing.
use Rattle.std.specs.Prelude.{◌≡◌, length}
use Rattle.runs.specs.Lending.{Looked}
use Rattle.network.proofs.lending.look.Given as goal

abbrev pub invariant-loop-k : goal.invariant-loop-k
invariant-loop-k l = (length l.looks ≡ 16) × Looked l.order l.stream l.k l.looks
