-- `print_least_by_bound` meets its contract: the number in the search's answer.
use mathlib.Core.Path.{◌∙◌}
use Rattle.report.specs.Report.Laws.{bounded_found_refusal}
use Rattle.report.proofs.print_least_by_bound.Goals as goal

pub returns : goal.returns
returns c = c.print_found.ensures ∙ bounded_found_refusal c.args.stream.now c.branch_and_bound.result c.branch_and_bound.ensures
