-- `stream_cost_with` meets its contract: what is no value costs nothing, and a value is handed on.
-- Assumes nothing.
use Rattle.std.proofs.Common.{◌≡◌, ℕ, List, pred, false, sym, ap, ◌∙◌, arith}
use Rattle.base.specs.Shape.{is_value}
use Rattle.costs.specs.Instance.{dom_of}
use Rattle.costs.specs.StreamCost.{no_own-cost}
use Rattle.costs.proofs.prefix.stream_cost_with.Goals as goal

pub returns-then-not-is_value : goal.returns-then-not-is_value
returns-then-not-is_value c =
    let a = c.args in
    let p = c.place_at-place in
    let v = c.from-value in
    let same = c.new-opened.ensures in
    let d = c.from-d.ensures ∙ c.size_at.ensures ∙ ap (λ (s : List ℕ). dom_of s c.place_at-place.result) same in
    let none : is_value (dom_of a.stream.now (pred a.own)) a.v ≡ false = rw (d, p.ensures.0, v.ensures) at (sym c.is_value.ensures ∙ c.if-not-is_value.true) in
    sym (no_own-cost a.stream.now a.values (pred a.own) a.v none)

pub cost_before-requires : goal.cost_before-requires
cost_before-requires c = (omega arith, c.from-d.ensures ∙ c.size_at.ensures, omega arith, sym c.is_value.ensures ∙ c.if-not-is_value.false)

pub returns : goal.returns
returns c = c.cost_before.ensures ∙ rw (c.new-opened.ensures, c.place_at-place.ensures.0, c.from-value.ensures)
