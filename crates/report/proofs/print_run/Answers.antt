-- `print_run` meets its contract: the number is the one in the run's answer.
use mathlib.Core.Path.{◌∙◌}
use Rattle.report.specs.Report.Laws.{settled_refusal}
use Rattle.report.proofs.print_run.Goals as goal

pub returns : goal.returns
returns c = c.print_ended.ensures ∙ settled_refusal c.args.order c.args.stream.now c.settle_by-answer.result c.settle_by-answer.ensures.0
