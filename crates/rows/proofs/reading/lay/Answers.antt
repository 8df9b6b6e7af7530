-- `lay` meets its contract: past the end `set` changes nothing.
-- Assumes nothing.
use mathlib.Core.Path.{sym}
use lib.Seq.{set_out}
use Rattle.rows.proofs.reading.lay.Goals as goal

pub returns-else-at-names : goal.returns-else-at-names
returns-else-at-names c = let a = c.args in sym (set_out a.names.now a.at a.b c.if-at-names.false)
