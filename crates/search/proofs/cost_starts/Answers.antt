-- `cost_starts` meets its contract. The loop's invariant: the rows before i are filled, and `at` is where the next one's costs begin.
-- Assumes nothing.
use Prim.Native.Nat.{◌≤◌}
use native.Mathlib.Omega.{arith}
use borrow.Author.Rules.{rules}
use lib.ListN.{length}
use Rattle.base.specs.Limits.{stream_size}
use Rattle.table.specs.StreamLaws.{accepted-most}
use Rattle.search.specs.Steps.{filling_last}
use Rattle.search.proofs.cost_starts.Goals as goal

pub overflow_cast-end : goal.overflow_cast-end
overflow_cast-end c =
    let h : length c.args.stream.now ≤ stream_size = accepted-most c.args.stream.now c.requires.accepted in
    search rules

pub returns : goal.returns
returns c =
    let l = c.loop-i in
    filling_last c.args.stream.now l.starts c.args.first c.args.n l.i l.at (omega arith) l.invariant
