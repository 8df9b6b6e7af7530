-- `step_by` meets its contract: the first refusal that applies, reading's refusal, or what the unit decides on the message read.
-- Assumes nothing.
use Prim.Native.Nat.{pred, ◌≤◌}
use mathlib.Core.Path.{◌≡◌, refl, sym}
use native.Mathlib.Omega.{arith}
use lib.ListN.{length}
use Rattle.base.specs.Bytes.Laws.{AllBytes}
use Rattle.base.specs.Refusal.Laws.{number_some}
use Rattle.base.specs.Shape.Laws.{shape_n}
use Rattle.costs.specs.Instance.{lent_view}
use Rattle.rules.specs.Step.{respond}
use Rattle.rules.specs.Laws.Range.{SizedUnit}
use Rattle.rules.specs.Laws.Calls.{Passed, passed}
use Rattle.unit.proofs.Calls.{told_by, told-refused, step_stops, step-unread, step_reads, step_room, step_decides, step_few}
use borrow.Author.Rules.{rules}
use Rattle.unit.proofs.step_by.Goals as goal
use Rattle.unit.proofs.step_by.Goals.{Start}

pub returns-in-Err : goal.returns-in-Err
returns-in-Err c =
    let a = c.args in
    told-refused a.n (pred a.own) a.u a.out.now _ _ _
    (step_stops a.order a.u a.own a.n a.sizes a.costs.now (length a.out.now) a.packet.now _ c.in-Err.ensures (λ z. number_some c.in-Err.refusal z))
    (rw (← c.number.ensures) (c.refused.ensures a.n (pred a.own)))

long : (c : Start) → let a = c.args in Passed a.order a.u a.own a.n a.sizes a.costs.now (length a.out.now) → a.n ≤ length a.sizes
long c t =
    let a = c.args in
    let sixteen : length a.sizes ≡ 16 = search rules in
    omega (arith, sixteen, (shape_n a.n a.sizes t.shape).1)

pub returns-in-Err-parse_for : goal.returns-in-Err-parse_for
returns-in-Err-parse_for c =
    let a = c.args in
    told-refused a.n (pred a.own) a.u a.out.now _ _ _
    (step-unread a.order a.u a.own a.n a.sizes a.costs.now (length a.out.now) a.packet.now _ c.in_default.ensures refl c.parse_for.result c.parse_for.ensures _ c.in-Err-parse_for.is)
    (rw (← c.number-in-Err-parse_for.ensures) (c.refused-in-Err-parse_for.ensures a.n (pred a.own)))

pub carry_out-requires : goal.carry_out-requires
carry_out-requires c =
    let a = c.args in
    let t = passed a.own a.n a.sizes a.costs.now (length a.out.now) a.order a.u (sym c.in_default.ensures) in
    let l = long (goal.at.carry_out-requires c).Start t in
    let r = c.parse_for in
    let good = c.in-Ok.is in
    let bytes : AllBytes a.packet.now = search rules in
    let arrays : SizedUnit a.u = record { threshold = search rules; best = search rules; estimates = search rules; stamp = search rules; values = search rules } in
    λ z. (
      step_room a.order a.u a.own a.n a.sizes a.costs.now a.out.now t,
      step_few a.order a.u a.own a.n a.sizes a.costs.now a.out.now t l a.packet.now r.result r.ensures _ _ good arrays bytes a.u _
          (step_decides a.order a.u a.own a.n a.sizes a.costs.now a.out.now t l a.packet.now r.result r.ensures _ _ good _ c.respond.ensures),
    )

pub returns : goal.returns
returns c =
    let a = c.args in
    let t = passed a.own a.n a.sizes a.costs.now (length a.out.now) a.order a.u (sym c.in_default.ensures) in
    let l = long (goal.at.returns c).Start t in
    let r = c.parse_for in
    let good = c.in-Ok.is in
    told_by a.n (pred a.own) a.u a.out.now _ _ _ _
    (step_reads a.order a.u a.own a.n a.sizes a.costs.now (length a.out.now) a.packet.now _ c.in_default.ensures refl r.result r.ensures _ _ good)
    (c.carry_out.ensures a.u (respond (lent_view a.order a.own a.n a.sizes a.costs.now) _ a.u _)
    (step_decides a.order a.u a.own a.n a.sizes a.costs.now a.out.now t l a.packet.now r.result r.ensures _ _ good _ c.respond.ensures))
