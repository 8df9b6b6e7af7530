-- `put_twice` meets its contract, by cases.
-- Assumes nothing.
use borrow.Author.Tests.{ne_eqb}
use native.Mathlib.Omega.{arith}
use lib.ListN.{length-set}
use Rattle.base.specs.Put.Laws.{put_two}
use Rattle.rows.specs.Lines.Laws.{put_one}
use Rattle.rows.proofs.text.put_twice.Goals as goal

pub bounds-out-at-then-b-eq34 : goal.bounds-out-at-then-b-eq34
bounds-out-at-then-b-eq34 c = let a = c.args in omega (arith, length-set a.out.now a.at a.b)

pub returns-then-b-eq34 : goal.returns-then-b-eq34
returns-then-b-eq34 c = let a = c.args in (rw c.if-b-eq34.true, omega arith, rw c.if-b-eq34.true (put_two a.out.now a.at 34 34 (omega arith)))

pub returns : goal.returns
returns c = let a = c.args in let f = ne_eqb _ _ c.if-b-eq34.false in (rw f, omega arith, rw f (put_one a.out.now a.at a.b (omega arith)))
