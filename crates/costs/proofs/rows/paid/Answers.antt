-- `paid` meets its contract. The loop's invariant: the first i numbers are told by their sums, the others are 0.
-- Assumes nothing.
use Rattle.std.proofs.Common.{◌≡◌, pred, min, sym, ap, ◌∙◌, arith}
use Rattle.costs.specs.Instance.{view_from}
use Rattle.costs.specs.Lent.Parts.{dom_from}
use Rattle.costs.specs.Rows.{dom_is, paid_told}
use Rattle.costs.proofs.rows.paid.Goals as goal

pub returns : goal.returns
returns c =
    let a = c.args in
    let l = c.loop-i in
    let k : c.min.result ≡ min (pred a.seat.own) 16 = c.min.ensures ∙ ap (λ x. min x 16) c.place-place.ensures.0 in
    let e : l.i ≡ min ((view_from a.seat a.costs.now).dom (view_from a.seat a.costs.now).place) 16 =
    omega arith ∙ c.min-most.ensures ∙ ap (λ x. min x 16) (c.size_of.ensures.0 ∙ ap (dom_from a.seat) c.place-place.ensures.0 ∙ sym (dom_is a.seat a.costs.now a.values)) in
    paid_told (view_from a.seat a.costs.now) a.values _ c.prefix_sums.new.sums l.paid l.i (rw k at c.prefix_sums.ensures) e l.invariant
