-- `write_name` meets its contract: no room, or the name.
-- Assumes nothing.
use Prim.Native.Nat.{ℕ}
use mathlib.Core.Path.{sym, ap, ◌∙◌}
use lib.ListN.{length}
use Rattle.std.specs.Prelude.{Some}
use Rattle.rows.specs.Lines.{name_text}
use Rattle.rows.specs.Lines.Laws.{has_not, has_room, written, not_written}
use Rattle.rows.proofs.text.write_name.Goals as goal

pub returns-then-not-has_room : goal.returns-then-not-has_room
returns-then-not-has_room c = let a = c.args in not_written a.name.now a.out.now _ (has_not (length a.name.now) (length a.out.now) (sym c.has_room.ensures ∙ c.if-not-has_room.true))

pub put_name-requires : goal.put_name-requires
put_name-requires c = let a = c.args in let f = has_room (length a.name.now) (length a.out.now) (sym c.has_room.ensures ∙ c.if-not-has_room.false) in f

pub returns : goal.returns
returns c = let a = c.args in let e = c.put_name.ensures in let f = has_room (length a.name.now) (length a.out.now) (sym c.has_room.ensures ∙ c.if-not-has_room.false) in let w = written a.name.now a.out.now (name_text a.name.now) f in (ap (λ (n : ℕ). Some n) e.0 ∙ w.0, e.2 ∙ w.1)
