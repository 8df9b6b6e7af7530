-- `gather` meets its contract: what is not refused is an accepted stream, one of its units, and room for the bytes.
-- Assumes nothing.
use Rattle.std.proofs.Common.{sym, arith}
use Rattle.std.proofs.lemmas.Result.{err_from_is_err_and}
use Rattle.base.specs.Refusal.Laws.{number_some}
use Rattle.costs.specs.declared.ValueOrder.TheVariants.{Ascending}
use Rattle.costs.specs.Gather.Checks.{gatherable, gather_refused, gather_done, seated}
use Rattle.costs.proofs.stream.gather.Goals as goal

pub returns-in_err-check_gather : goal.returns-in_err-check_gather
returns-in_err-check_gather c =
    let a = c.args in
    let p = err_from_is_err_and c.from_residual.result c.from_residual.ensures.1 in
    let r = c.in_err-check_gather.field-0.0 in
    rw (p.1, p.2) (gather_refused a.stream.now a.own a.out.now _ c.in_err-check_gather.ensures (number_some r))

pub gather_all-requires : goal.gather_all-requires
gather_all-requires c =
    let n = c.units_of-n in
    let sizes = c.sizes_of-sizes in
    let a = c.args in
    let g = gatherable a.stream.now a.own _ (sym c.in_ok-check_gather.ensures) in
    (seated a.stream.now (record { own = a.own; n = n.result; sizes = sizes.result; order = Ascending }) n.ensures sizes.ensures g.accepted, omega (arith, n.ensures, g.unit), g.fits)

pub returns : goal.returns
returns c =
    let a = c.args in
    gather_done a.stream.now a.own a.out.now (sym c.in_ok-check_gather.ensures) c.gather_all.result _ c.gather_all.ensures.0 c.gather_all.ensures.1
