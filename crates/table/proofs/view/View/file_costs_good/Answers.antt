-- `file_costs_good` meets its contract. The loop's invariant: the whole answer is that of the costs left from byte `at` on.
-- Assumes nothing.
use mathlib.Core.Path.{sym, ◌∙◌}
use native.Mathlib.Omega.{arith}
use Rattle.table.specs.Seen.{seen}
use Rattle.table.specs.StreamLaws.{test_of, run_bad, run-next, costs_end}
use Rattle.table.proofs.view.View.file_costs_good.Goals as goal

pub returns-then-not-run_good : goal.returns-then-not-run_good
returns-then-not-run_good c =
    let l = c.loop-left in
    let r = c.run_at-run in
    run_bad (test_of c.args.kind) (seen c.args.self.now) l.at l.left l.invariant.1 r.result r.ensures.1 (sym c.run_good.ensures ∙ c.if-not-run_good.true)

pub loop-left-preserved : goal.loop-left-preserved
loop-left-preserved c =
    let l = c.loop-left in
    let r = c.run_at-run in
    (omega arith, run-next (test_of c.args.kind) (seen c.args.self.now) l.at l.left l.invariant.1 r.result r.ensures.1 (sym c.run_good.ensures ∙ c.if-not-run_good.false))

pub returns : goal.returns
returns c =
    let l = c.loop-left in
    costs_end (test_of c.args.kind) (seen c.args.self.now) l.at l.left l.invariant.1 (omega arith)
