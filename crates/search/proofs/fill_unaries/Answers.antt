-- `fill_unaries` meets its contract. Form one has none. In form two, the loop's invariant: the starts of the places before i are put, and those of place i
-- begin at `at`.
-- Assumes nothing.
use borrow.Author.Rules.{rules}
use mathlib.Core.Path.{◌≡◌}
use native.Mathlib.Omega.{arith}
use lib.ListN.{length, length-replicate}
use Rattle.search.specs.Steps.{no_unaries, unaries_first, unaries_next, unaries_last}
use Rattle.search.proofs.fill_unaries.Goals as goal

pub returns-then-first-eq1 : goal.returns-then-first-eq1
returns-then-first-eq1 c =
    no_unaries c.requires.0 c.args.starts.now c.requires.1 c.if-first-eq1.true

pub loop-i-init : goal.loop-i-init
loop-i-init c =
    (unaries_first c.requires.0 c.args.starts.now c.requires.1, omega (arith, c.requires.0.front, c.requires.0.most))

pub loop-i-preserved : goal.loop-i-preserved
loop-i-preserved c =
    let l = c.loop-i in
    (unaries_next c.requires.0 c.if-first-eq1.false l.starts l.i l.at c.byte.result (omega arith) c.byte.ensures.0 l.invariant.0, omega arith)

pub shape_of-starts : goal.shape_of-starts
shape_of-starts c =
    let e : length c.args.starts.now ≡ 256 = rw c.requires.1 (length-replicate 256 (length c.args.stream.now)) in
    search rules

pub returns : goal.returns
returns c =
    let l = c.loop-i in
    unaries_last c.requires.0 c.if-first-eq1.false l.starts l.i l.at (omega arith) l.invariant.0
