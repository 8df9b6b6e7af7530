-- `put_doubled` meets its contract. The loop's invariant: the bytes so far are written, each quote twice.
-- Assumes nothing.
use mathlib.Core.Path.{◌≡◌, ◌∙◌}
use native.Mathlib.Omega.{arith}
use lib.ListN.{length, take}
use lib.Seq.{take-length}
use Rattle.rows.specs.Lines.Laws.{doubled_none, put_none, turn-place, turn-put}
use Rattle.rows.proofs.text.put_doubled.Goals as goal

pub loop-b-init : goal.loop-b-init
loop-b-init c = let a = c.args in (rw doubled_none, omega arith, rw doubled_none (put_none a.out.now 1 (omega arith)))

pub loop-b-preserved : goal.loop-b-preserved
loop-b-preserved c =
    let a = c.args in
    let l = c.loop-b in
    let h = c.loop-b-test.true in
    let e = c.put_twice-at.ensures in (
      e.0 ∙ turn-place a.name.now a.out.now l.out l.b-index l.at h (omega arith) l.invariant.2 l.invariant.0,
      omega (arith, e.1),
      e.2 ∙ turn-put a.name.now a.out.now l.out l.b-index l.at h (omega arith) l.invariant.2 l.invariant.0,
    )

pub returns : goal.returns
returns c =
    let a = c.args in
    let l = c.loop-b in
    let e : l.b-index ≡ length a.name.now = omega arith in
    let t : take l.b-index a.name.now ≡ a.name.now = rw e (take-length a.name.now) in
    (l.invariant.0 ∙ rw t, omega arith, l.invariant.2 ∙ rw t)
