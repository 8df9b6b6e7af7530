-- `lower_bound` meets its contract: what was held is the part that is projected.
-- Assumes nothing.
use Prim.Native.Nat.{◌≤◌}
use mathlib.Core.Path.{◌≡◌, refl, ap, ◌∙◌}
use native.Mathlib.Omega.{arith}
use lib.ListN.{length}
use Rattle.projections.specs.Moves.{answer_of}
use Rattle.base.specs.Refusal.{number_of}
use Rattle.base.specs.Refusal.Laws.{number_some}
use Rattle.projections.specs.Made.Steps.{held_room, bound_refused, held-part, bound_left, projected_is}
use borrow.Author.Rules.{rules}
use Rattle.projections.proofs.bound.lower_bound.Goals as goal

pub returns-in-Err : goal.returns-in-Err
returns-in-Err c =
    let r = c.in-Err.refusal in
    rw c.number.ensures (bound_refused c.args.stream.now c.args.out.now (number_of r) c.hold.new.out c.in-Err.ensures.0 c.in-Err.ensures.1 (number_some r))

pub slice_bounds-project_all-end-in-Ok : goal.slice_bounds-project_all-end-in-Ok
slice_bounds-project_all-end-in-Ok c =
    let k : length c.hold.new.out ≡ length c.args.out.now = search rules in
    let h : c.in-Ok.count ≤ length c.hold.new.out = omega (arith, k, held_room c.args.stream.now c.args.out.now c.in-Ok.count c.in-Ok.ensures.0) in
    search rules

pub slice_bounds-project_all-end : goal.slice_bounds-project_all-end
slice_bounds-project_all-end c =
    let k : length c.hold.new.out ≡ length c.args.out.now = search rules in
    let h : c.in-Ok.count ≤ length c.hold.new.out = omega (arith, k, held_room c.args.stream.now c.args.out.now c.in-Ok.count c.in-Ok.ensures.0) in
    search rules

pub returns-in-Ok : goal.returns-in-Ok
returns-in-Ok c =
    let e = c.in-Ok.ensures.0 in
    let count = c.in-Ok.count in
    let p = held-part c.args.stream.now c.args.out.now count e c.hold.new.out c.in-Ok.ensures.1 in
    let q = projected_is c.args.stream.now c.sizes_of-sizes.result _ c.units_of-n.result c.units_of-n.ensures c.sizes_of-sizes.ensures p in
    let new = c.project_all.new.costs in
    let m = c.project_all.ensures.0 ∙ ap answer_of q in
    let l = c.project_all.ensures.1 ∙ ap (λ y. y.held.costs) q in
    let k : length c.hold.new.out ≡ length c.args.out.now = search rules in
    let h : count ≤ length c.hold.new.out = omega (arith, k, held_room c.args.stream.now c.args.out.now count e) in
    let n : count ≡ length new = search rules in
    bound_left c.args.stream.now c.args.out.now count e c.hold.new.out c.in-Ok.ensures.1 c.project_all.result new count m l n refl
