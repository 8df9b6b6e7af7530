-- `same` meets its contract: the places are equal where comparing finds them equal.
-- Assumes nothing.
use Rattle.std.proofs.Common.{sym, ap, ◌∙◌}
use Rattle.std.specs.Ordering.{is_eq}
use Rattle.decide.proofs.Orders.{same_compared}
use Rattle.decide.proofs.state.same.Goals as goal

pub returns : goal.returns
returns c =
    let a = c.args in
    c.is_eq.ensures ∙ ap is_eq c.compare.ensures ∙ sym (same_compared a.a a.b a.k)
