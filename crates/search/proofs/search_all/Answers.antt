-- `search_all` meets its contract: a refused stream, too many assignments, and what is found, each as the definition says.
-- Assumes nothing.
use Rattle.std.proofs.Common.{ℕ, ◌+◌, sym, ap, ◌∙◌}
use Rattle.std.proofs.lemmas.Result.{err_from_is_err_and}
use Rattle.base.specs.Refusal.{number_of}
use Rattle.base.specs.Refusal.Laws.{number_some}
use Rattle.table.specs.Stream.{Accepted}
use Rattle.search.specs.Search.{found_best}
use Rattle.search.specs.Steps.{Sized, sized_of}
use Rattle.search.specs.Laws.{search_stream-refused, search_too_many, search_found}
use Rattle.search.proofs.search_all.Goals as goal
use Rattle.search.proofs.search_all.Goals.{After-from-n}

pub returns-in_err-check_stream : goal.returns-in_err-check_stream
returns-in_err-check_stream c =
    let p = err_from_is_err_and c.from_residual.result c.from_residual.ensures.1 in
    let r = c.in_err-check_stream.field-0.0 in
    rw (p.1, p.2) (search_stream-refused c.args.stream.now (number_of r) c.in_err-check_stream.ensures (number_some r))

-- where the sizes of the accepted stream begin and how many they are is known
sized : (c : After-from-n) → Sized c.args.stream.now (c.opening-first.result + 1) c.from-n.result
unfolding Accepted
sized c =
    sized_of c.args.stream.now (c.opening-first.result + 1) c.from-n.result (sym c.in_ok-check_stream.ensures) (ap (λ (m : ℕ). m + 1) c.opening-first.ensures.0) (c.from-n.ensures ∙ c.units_of.ensures)

pub too_many-requires : goal.too_many-requires
too_many-requires c = sized (goal.at.too_many-requires c).After-from-n

pub returns-then-too_many : goal.returns-then-too_many
returns-then-too_many c =
    search_too_many c.args.stream.now (sym c.in_ok-check_stream.ensures) (sym c.too_many.ensures ∙ c.if-too_many.true)

pub find-requires : goal.find-requires
find-requires c = sized (goal.at.find-requires c).After-from-n

pub returns : goal.returns
returns c =
    ap found_best c.find.ensures ∙ search_found c.args.stream.now (sym c.in_ok-check_stream.ensures) (sym c.too_many.ensures ∙ c.if-too_many.false)
