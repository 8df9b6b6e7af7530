-- `opening` meets its contract: the first byte says which form it is, and an empty stream has none.
-- Assumes nothing.
use mathlib.Core.Path.{sym, ◌∙◌}
use native.Mathlib.Omega.{arith}
use borrow.Author.Tests.{eq-eqb, ne_eqb}
use Rattle.table.specs.Seen.{seen}
use Rattle.table.specs.StreamLaws.{opening_none, opening-two, opening_one}
use Rattle.table.proofs.view.View.opening.Goals as goal

pub returns-then-self-eq0 : goal.returns-then-self-eq0
returns-then-self-eq0 c =
    (sym (opening_none (seen c.args.self.now) (c.args.self.now.viewed.counted ∙ c.if-self-eq0.true)), omega arith)

pub returns-then-byte-from : goal.returns-then-byte-from
returns-then-byte-from c =
    (sym (opening-two (seen c.args.self.now) (eq-eqb _ _ (sym c.byte.ensures.0 ∙ c.if-byte-from.true ∙ c.from.ensures))), omega arith)

pub returns : goal.returns
returns c =
    (sym (opening_one (seen c.args.self.now) (ne_eqb _ _ (λ e. c.if-byte-from.false (c.byte.ensures.0 ∙ e ∙ sym c.from.ensures)))), omega arith)
