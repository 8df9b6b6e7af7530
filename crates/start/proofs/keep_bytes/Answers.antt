-- `keep_bytes` meets its contract. The loop's invariant: the whole answer is that of the bytes from there on, written from `place` on. Assumes nothing.
use Prim.Native.Nat.{◌≤◌, ◌<◌}
use mathlib.Core.Path.{refl, sym, ◌∙◌}
use native.Mathlib.Omega.{arith}
use lib.ListN.{length}
use Rattle.start.specs.Steps.{kept-turn, kept_end, filled-turn, filled_end}
use Rattle.start.proofs.keep_bytes.Goals as goal

pub loop-b-init : goal.loop-b-init
loop-b-init c = (omega arith, refl, refl)

pub keep-place-requires : goal.keep-place-requires
keep-place-requires c = omega arith

pub loop-b-preserved : goal.loop-b-preserved
loop-b-preserved c =
    let a = c.args in
    let h : c.loop-b.b-index < length a.bytes.now = omega arith in (
      omega (arith, c.keep-place.ensures.1),
      rw c.after_byte-reader.ensures (omega (arith, c.loop-b.invariant.1, kept-turn a.bytes.now c.loop-b.b-index a.own c.loop-b.reader h, c.keep-place.ensures.0)),
      rw (c.after_byte-reader.ensures, c.keep-place.ensures.0, c.keep-place.ensures.2) (c.loop-b.invariant.2 ∙ filled-turn a.bytes.now c.loop-b.b-index a.own c.loop-b.reader c.loop-b.place c.loop-b.costs h),
    )

pub returns : goal.returns
returns c =
    let a = c.args in
    let h : length a.bytes.now ≤ c.loop-b.b-index = omega arith in (
      omega (arith, c.loop-b.invariant.1, kept_end a.bytes.now c.loop-b.b-index a.own c.loop-b.reader h),
      sym (c.loop-b.invariant.2 ∙ filled_end a.bytes.now c.loop-b.b-index a.own c.loop-b.reader c.loop-b.place c.loop-b.costs h),
    )
