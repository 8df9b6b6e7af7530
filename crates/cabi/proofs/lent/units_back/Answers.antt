-- `units_back` meets its contract. The invariant: the first i places are done, the others as lent.
-- Assumes nothing.
use Prim.Native.Nat.{ℕ}
use mathlib.Core.Path.{◌≡◌, refl, ◌∙◌}
use native.Mathlib.Omega.{arith}
use lib.ListN.{length, get_or}
use Rattle.rules.specs.State.{empty_unit}
use Rattle.cabi.specs.Lent.{empty_lent, up_to, unit_back}
use Rattle.cabi.specs.Lent.Laws.{up_to_next, up_to_done}
use borrow.Author.Rules.{rules}
use Rattle.cabi.proofs.lent.units_back.Goals as goal

pub loop-i-init : goal.loop-i-init
unfolding up_to
loop-i-init c = refl

pub loop-i-preserved : goal.loop-i-preserved
loop-i-preserved c =
    let a = c.args in
    let l = c.loop-i in
    let h : length a.ss ≡ 16 = search rules in
    rw (l.invariant, c.unit_back.ensures) (up_to_next (λ (k : ℕ). unit_back (get_or a.ss k empty_lent) (get_or a.us k empty_unit)) a.ss l.i empty_lent (omega arith))

pub returns : goal.returns
returns c =
    let a = c.args in
    let l = c.loop-i in
    let h : length a.ss ≡ 16 = search rules in
    let e : l.i ≡ 16 = omega arith in
    l.invariant ∙ rw e (up_to_done (λ (k : ℕ). unit_back (get_or a.ss k empty_lent) (get_or a.us k empty_unit)) a.ss 16 h)
