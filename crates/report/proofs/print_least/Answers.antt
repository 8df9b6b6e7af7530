-- `print_least` meets its contract: the number in the search's answer.
use mathlib.Core.Path.{◌∙◌}
use Rattle.report.specs.Report.Laws.{found_refusal}
use Rattle.report.proofs.print_least.Goals as goal

pub returns : goal.returns
returns c = c.print_found.ensures ∙ found_refusal c.args.stream.now c.exhaustive.result c.exhaustive.ensures
