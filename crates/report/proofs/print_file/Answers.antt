-- `print_file` meets its contract: of a file that is read, what is done with its stream.
use Rattle.std.proofs.Common.{rules}
use Rattle.report.specs.Report.Laws.{read_report}
use Rattle.report.proofs.print_file.Goals as goal

pub returns-in-Ok : goal.returns-in-Ok
returns-in-Ok g c = λ done met.
    let s = c.in-Ok.stream.now in
    read_report c.args.file.now c.in-Ok.ensures.ok.0 done c.print.result s c.in-Ok.ensures.ok.1 (met s c.print.result (search rules))
