-- `scan` meets its contract. The loop's invariant: what is left of the text leads to the same as the whole.
-- Assumes nothing.
use Prim.Native.Nat.{ℕ, ◌-◌}
use mathlib.Core.List.{List}
use mathlib.Core.Path.{◌≡◌, sym, ap, ◌∙◌}
use native.Mathlib.Omega.{arith}
use lib.ListN.{length, drop, length-drop}
use lib.Seq.{take_all}
use Rattle.rows.specs.Sheet.{eaten}
use Rattle.rows.specs.Sheet.Laws.{turn_number, turn_sheet, turn_names, sheet_end, names_end}
use Rattle.rows.proofs.reading.scan.Goals as goal

pub loop-i-preserved : goal.loop-i-preserved
loop-i-preserved c =
    let t : List ℕ = c.args.text.now in
    let l = c.loop-i in
    let h = c.loop-i-test.true in
    let all = take_all (length t - l.i) (drop l.i t) (omega (arith, length-drop l.i t)) in
    let e = c.eaten-s.ensures ∙ ap (λ (x : List ℕ). eaten (length c.keep.new.names) l.s x) all in
    let x = turn_number t l.names _ _ l.i l.s c.eaten-s.result h l.auto.names c.keep.ensures e in (
      omega (arith, x),
      turn_sheet t l.names _ _ l.i l.s c.eaten-s.result h l.auto.names c.keep.ensures e l.invariant.1,
      turn_names t l.names _ _ l.i l.s c.eaten-s.result h l.auto.names c.keep.ensures e l.invariant.2,
    )

pub returns : goal.returns
returns c =
    let t : List ℕ = c.args.text.now in
    let l = c.loop-i in
    let e : l.i ≡ length t = omega arith in
    (sym (l.invariant.1 ∙ sheet_end _ l.s t l.i e), sym (l.invariant.2 ∙ names_end l.s t l.names l.i e), omega arith)
