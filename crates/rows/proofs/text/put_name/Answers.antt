-- `put_name` meets its contract: as it is, or in quotes.
-- Assumes nothing.
use Prim.Native.Nat.{◌<◌}
use mathlib.Core.Path.{◌≡◌, sym, ap, ◌∙◌}
use mathlib.Core.List.{[], List, ◌∷◌}
use Prim.Native.Nat.{ℕ}
use native.Mathlib.Omega.{arith}
use lib.ListN.{length, set, length-append, length-set}
use Rattle.base.specs.Put.{put_at}
use Rattle.base.specs.Put.Laws.{put-fits}
use Rattle.rows.specs.Lines.{doubled}
use Rattle.rows.specs.Lines.Laws.{name_bare, name_quoted, put_length, put-quoted}
use Rattle.rows.proofs.text.put_name.Goals as goal

pub returns-then-is_bare : goal.returns-then-is_bare
returns-then-is_bare c = let a = c.args in let t = name_bare a.name.now (sym c.is_bare.ensures ∙ c.if-is_bare.true) in (sym (ap length t), omega arith, c.put.ensures ∙ put-fits a.out.now a.name.now 0 (omega arith) ∙ ap (λ (l : List ℕ). put_at a.out.now 0 l) (sym t))

pub bounds-out-at : goal.bounds-out-at
bounds-out-at c = let a = c.args in let e = c.put_doubled-at.ensures in let n : length c.put_doubled-at.new.out ≡ length a.out.now = ap length e.2 ∙ put_length (set a.out.now 0 34) (doubled a.name.now) 1 (omega (arith, length-set a.out.now 0 34, e.0, e.1)) ∙ length-set a.out.now 0 34 in let h : c.put_doubled-at.result < length c.put_doubled-at.new.out = omega (arith, e.1, n) in h

pub shape_of-out : goal.shape_of-out
shape_of-out c = let a = c.args in let e = c.put_doubled-at.ensures in let n : length c.put_doubled-at.new.out ≡ length a.out.now = ap length e.2 ∙ put_length (set a.out.now 0 34) (doubled a.name.now) 1 (omega (arith, length-set a.out.now 0 34, e.0, e.1)) ∙ length-set a.out.now 0 34 in length-set c.put_doubled-at.new.out c.put_doubled-at.result 34 ∙ n

pub returns : goal.returns
returns c = let a = c.args in let e = c.put_doubled-at.ensures in let t = name_quoted a.name.now (sym c.is_bare.ensures ∙ c.if-is_bare.false) in (rw t (omega (arith, length-append (doubled a.name.now) (34 ∷ []), e.0)), omega (arith, e.1), ap (λ (l : List ℕ). set l c.put_doubled-at.result 34) e.2 ∙ put-quoted a.out.now (doubled a.name.now) c.put_doubled-at.result e.0 (omega (arith, e.1)) ∙ ap (λ (l : List ℕ). put_at a.out.now 0 l) (sym t))
