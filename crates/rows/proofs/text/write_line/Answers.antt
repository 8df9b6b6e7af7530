-- `write_line` meets its contract: no room, or the name and what stands behind it.
-- Assumes nothing.
use Prim.Native.Nat.{ℕ, ◌+◌, ◌≤◌}
use mathlib.Core.Path.{◌≡◌, sym, ap, ◌∙◌}
use mathlib.Core.List.{List}
use native.Mathlib.Omega.{arith}
use lib.ListN.{length}
use Rattle.std.specs.Prelude.{Some}
use Rattle.base.specs.Put.{put_at}
use Rattle.rows.specs.Lines.{name_text, tail_text}
use Rattle.rows.specs.Lines.Laws.{has_not, has_room, put_length, line_length, line_put, written, not_written}
use Rattle.rows.proofs.text.write_line.Goals as goal

pub returns-then-not-has_room : goal.returns-then-not-has_room
returns-then-not-has_room c = let a = c.args in not_written a.name.now a.out.now _ (has_not (length a.name.now) (length a.out.now) (sym c.has_room.ensures ∙ c.if-not-has_room.true))

pub put_name-at-requires : goal.put_name-at-requires
put_name-at-requires c = let a = c.args in let f = has_room (length a.name.now) (length a.out.now) (sym c.has_room.ensures ∙ c.if-not-has_room.false) in f

pub put_tail-requires : goal.put_tail-requires
put_tail-requires c = let a = c.args in let e = c.put_name-at.ensures in let f = has_room (length a.name.now) (length a.out.now) (sym c.has_room.ensures ∙ c.if-not-has_room.false) in let n : length c.put_name-at.new.out ≡ length a.out.now = ap length e.2 ∙ put_length a.out.now (name_text a.name.now) 0 (omega (arith, e.0, e.1, f)) in let h : c.put_name-at.result + 9 ≤ length c.put_name-at.new.out = omega (arith, e.1, f, n) in h

pub returns : goal.returns
returns c = let a = c.args in let e = c.put_name-at.ensures in let t = c.put_tail.ensures in let f = has_room (length a.name.now) (length a.out.now) (sym c.has_room.ensures ∙ c.if-not-has_room.false) in let w = written a.name.now a.out.now _ f in (ap (λ (n : ℕ). Some n) (t.0 ∙ line_length a.name.now a.reading a.lots c.put_name-at.result e.0) ∙ w.0, t.1 ∙ ap (λ (l : List ℕ). put_at l c.put_name-at.result (tail_text a.reading a.lots)) e.2 ∙ line_put a.out.now a.name.now a.reading a.lots c.put_name-at.result e.0 ∙ w.1)
