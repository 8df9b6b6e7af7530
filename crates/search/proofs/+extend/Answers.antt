-- `extend` meets its contract: a value that is forbidden with those before it, or dropped, keeps nothing. Assumes nothing.
use mathlib.Core.Bool.{not}
use Rattle.std.proofs.Common.{◌≤◌, ◌≡◌, sym, ap, ◌∙◌, arith, rules, length}
use Rattle.base.specs.Limits.{NONE}
use Rattle.costs.specs.Instance.{instance_of}
use Rattle.search.specs.Steps.{with_value, in_turn-next, in_turn_done, best_of_values, best_full, cost_is_total, next_size, size_is_dom, next-most, dropped_reaches, reached_next, extending_next}
use Rattle.search.proofs.+extend.Goals as goal
use Rattle.search.proofs.+extend.Goals.{in-Some+then-not-dropped, in-Some+else-not-dropped, in_default}

pub returns-then-left-eq0 : goal.returns-then-left-eq0
returns-then-left-eq0 t c =
    let a = c.args in
    let e = c.if-left-eq0.true in
    c.better.ensures ∙ best_full (instance_of a.stream.now) a.left a.level a.chosen a.b a.cost e (cost_is_total c.requires e)

pub loop-v-init : goal.loop-v-init
loop-v-init t c =
    let a = c.args in
    let some = c.if-left-eq0.false in
    let size = next_size c.requires c.byte-d.result some c.byte-d.ensures.0 in
    (best_of_values (instance_of a.stream.now) a.left a.level c.byte-d.result a.chosen a.b some (size_is_dom c.requires c.byte-d.result some size), search rules)

pub added_cost-requires : goal.added_cost-requires
added_cost-requires t c =
    let q = c.requires in
    let some = c.if-left-eq0.false in
    record {
      accepted = q.sized.accepted;
      filled = q.filled;
      inside = omega arith;
      most = omega arith;
      values = q.values;
      size = next_size q c.byte-d.result some c.byte-d.ensures.0;
      byte = c.byte-d.ensures.1;
      v1 = c.loop-v.auto.v;
      vd = omega arith;
    }

pub extend-best-requires : goal.extend-best-requires
extend-best-requires t c =
    let l = c.loop-v in
    let size = next_size c.requires c.byte-d.result c.if-left-eq0.false c.byte-d.ensures.0 in
    let places : length c.args.chosen ≡ 16 = search rules in
    (omega arith, extending_next c.requires c.byte-d.result c.if-left-eq0.false size l.v places c.in-Some.more c.loop-v.auto.v (omega arith) (sym c.added_cost.ensures.0 ∙ c.in-Some.is))

pub loop-v-preserved : goal.loop-v-preserved
loop-v-preserved t c =
    let a = c.args in
    let l = c.loop-v in
    let size = next_size c.requires c.byte-d.result c.if-left-eq0.false c.byte-d.ensures.0 in
    let places : length a.chosen ≡ 16 = search rules in
    let same = reached_next c.requires c.byte-d.result c.if-left-eq0.false size l.v places l.best in
    -- what is kept: what the value hands on, or the same where it is dropped or forbidden
    let kept : with_value (instance_of a.stream.now) a.left a.level a.chosen l.v l.best ≡ c.match-added_cost.best =
    elim c.match-added_cost.branch [
      | in-Some+then-not-dropped w ↦ sym (w.best-is ∙ w.extend-best.ensures)
      | in-Some+else-not-dropped w ↦ same _ l.invariant.1 (sym c.added_cost.ensures.0 ∙ w.in-Some.is) (dropped_reaches a.bounded w.dropped.result w.dropped.ensures (ap not w.if-not-dropped.false)) ∙ sym w.best-is
      | in_default w ↦ same _ l.invariant.1 (sym c.added_cost.ensures.0 ∙ w.in_default.is) tt ∙ sym w.best-is
    ] in
    let few : c.match-added_cost.best.total ≤ NONE =
    rw (← kept) (omega (arith, l.invariant.1, next-most c.requires c.byte-d.result c.if-left-eq0.false size l.v places l.best)) in
    (l.invariant.0 ∙ in_turn-next (with_value (instance_of a.stream.now) a.left a.level a.chosen) l.v c.byte-d.result l.best (omega arith) ∙ rw kept, few)

pub returns : goal.returns
returns t c =
    let a = c.args in
    let l = c.loop-v in
    sym (l.invariant.0 ∙ in_turn_done (with_value (instance_of a.stream.now) a.left a.level a.chosen) l.v c.byte-d.result l.best (omega arith))
