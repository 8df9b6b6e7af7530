-- `parse` meets its contract: too long, or scanned and closed.
-- Assumes nothing.
use mathlib.Core.Path.{◌∙◌}
use borrow.Author.Tests.{lt-ltb, le-ltb}
use Rattle.rows.specs.Sheet.{blank_sheet, sheet_of, names_of}
use Rattle.rows.specs.Sheet.Laws.{names_length}
use Rattle.rows.proofs.reading.parse.Goals as goal

pub returns-then-names-text : goal.returns-then-names-text
unfolding sheet_of names_of
returns-then-names-text c = let a = c.args in let t = lt-ltb _ _ c.if-names-text.true in (simp (t, c.refused.ensures, c.blank_sheet.ensures, c.fresh.ensures), simp t)

pub returns : goal.returns
unfolding sheet_of names_of
returns c = let a = c.args in let t = le-ltb _ _ c.if-names-text.false in (rw t (c.closed.ensures ∙ rw (c.eaten.ensures, c.scan-s.ensures.0, c.scan-s.ensures.1, names_length blank_sheet a.text.now a.names.now)), simp (t, c.scan-s.ensures.1))
