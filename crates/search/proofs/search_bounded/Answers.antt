-- `search_bounded` meets its contract: a refused stream, and what is found, each as the definition says.
-- Assumes nothing.
use Rattle.std.proofs.Common.{ℕ, ◌+◌, sym, ap, ◌∙◌}
use Rattle.std.proofs.lemmas.Result.{err_from_is_err_and}
use Rattle.base.specs.Refusal.{number_of}
use Rattle.base.specs.Refusal.Laws.{number_some}
use Rattle.table.specs.Stream.{Accepted}
use Rattle.search.specs.Search.{found_best}
use Rattle.search.specs.Steps.{sized_of}
use Rattle.search.specs.Laws.{bounded_stream-refused, bounded_found}
use Rattle.search.proofs.search_bounded.Goals as goal

pub returns-in_err-check_stream : goal.returns-in_err-check_stream
returns-in_err-check_stream c =
    let p = err_from_is_err_and c.from_residual.result c.from_residual.ensures.1 in
    let r = c.in_err-check_stream.field-0.0 in
    rw (p.1, p.2) (bounded_stream-refused c.args.stream.now (number_of r) c.in_err-check_stream.ensures (number_some r))

pub find-requires : goal.find-requires
unfolding Accepted
find-requires c =
    sized_of c.args.stream.now (c.opening-first.result + 1) c.from-n.result (sym c.in_ok-check_stream.ensures) (ap (λ (m : ℕ). m + 1) c.opening-first.ensures.0) (c.from-n.ensures ∙ c.units_of.ensures)

pub returns : goal.returns
returns c =
    ap found_best c.find.ensures ∙ bounded_found c.args.stream.now (sym c.in_ok-check_stream.ensures)
