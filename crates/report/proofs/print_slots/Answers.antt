-- `print_slots` meets its contract: the number is the one in the run's answer.
use mathlib.Core.Path.{◌∙◌}
use Rattle.report.specs.Report.Laws.{slots_refusal_lem}
use Rattle.report.proofs.print_slots.Goals as goal

pub returns : goal.returns
returns c = c.print_ended.ensures ∙ slots_refusal_lem c.args.order c.args.stream.now c.settle_by-answer.result c.settle_by-answer.ensures.0
