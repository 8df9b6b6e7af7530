-- `put_tail` meets its contract: the bytes are those of the text, and fit.
-- Assumes nothing.
use native.Mathlib.Omega.{arith}
use Rattle.rows.specs.Lines.Laws.{put_few, put_many}
use Rattle.rows.proofs.text.put_tail.Goals as goal

pub returns-then-lots-lt10 : goal.returns-then-lots-lt10
returns-then-lots-lt10 c = let a = c.args in put_few a.out.now a.at a.reading a.lots (omega arith) c.glyph-a.ensures c.glyph-b.ensures c.glyph-c.ensures c.glyph-d.ensures c.if-lots-lt10.true c.put.ensures

pub returns : goal.returns
returns c = let a = c.args in put_many a.out.now a.at a.reading a.lots (omega arith) c.glyph-a.ensures c.glyph-b.ensures c.glyph-c.ensures c.glyph-d.ensures c.glyph-e.ensures c.if-lots-lt10.false c.put-2.ensures
