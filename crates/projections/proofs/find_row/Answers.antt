-- `find_row` meets its contract: what passed the tests has a row, and an own cost that is one.
-- Assumes nothing.
use Prim.Native.Nat.{pred}
use mathlib.Core.Path.{◌≡◌, sym}
use mathlib.Core.Bool.{true}
use native.Mathlib.Omega.{arith}
use lib.ListN.{get_or}
use borrow.Author.Tests.{ltb-true}
use Rattle.base.specs.Shape.Laws.{shape_n}
use Rattle.costs.specs.Instance.{dom_in}
use Rattle.projections.specs.Held.{own_at, barred}
use Rattle.projections.specs.Held.Laws.{own_inside}
use Rattle.projections.specs.Moves.{row_there, refusal_by, held_by}
use Rattle.projections.specs.Moves.Worth.{Passed, passed, row-found, found_range}
use Rattle.projections.proofs.find_row.Goals as goal
use Rattle.projections.proofs.find_row.Goals.{In_ok-check_lent}

none : (c : In_ok-check_lent) → let a = c.args in refusal_by a.n a.sizes (held_by a.floor a.costs.now) (row_there a.n (dom_in a.n a.sizes) a.unit a.value a.other) true ≡ 0
none c = rw (← c.row_there-there.ensures) (sym c.in_ok-check_lent.ensures)

ok : (c : In_ok-check_lent) → let a = c.args in Passed a.n a.sizes (held_by a.floor a.costs.now) (row_there a.n (dom_in a.n a.sizes) a.unit a.value a.other) true
ok c =
    let a = c.args in
    passed a.n a.sizes (held_by a.floor a.costs.now) (row_there a.n (dom_in a.n a.sizes) a.unit a.value a.other) true (none c)

pub own_place-own-requires : goal.own_place-own-requires
own_place-own-requires c =
    let past = goal.at.own_place-own-requires c in
    let a = c.args in
    let f = found_range a.n (dom_in a.n a.sizes) a.unit a.value a.other (ok past.In_ok-check_lent).found in
    let r = row-found a.n (dom_in a.n a.sizes) a.unit a.value a.other (ok past.In_ok-check_lent).found in
    (f.0, omega (arith, f.1, (shape_n a.n a.sizes (ok past.In_ok-check_lent).shape).1), r.value.0)

pub row_run-row-requires : goal.row_run-row-requires
row_run-row-requires c =
    let past = goal.at.row_run-row-requires c in
    let a = c.args in
    let f = found_range a.n (dom_in a.n a.sizes) a.unit a.value a.other (ok past.In_ok-check_lent).found in
    let r = row-found a.n (dom_in a.n a.sizes) a.unit a.value a.other (ok past.In_ok-check_lent).found in
    ((shape_n a.n a.sizes (ok past.In_ok-check_lent).shape).1, f.0, f.2, r)

pub returns-clause-ok : goal.returns-clause-ok
returns-clause-ok c =
    let past = goal.at.returns-clause-ok c in
    let a = c.args in
    let dom = dom_in a.n a.sizes in
    let r = row-found a.n dom a.unit a.value a.other (ok past.In_ok-check_lent).found in
    let o = own_inside dom a.n (pred a.unit) a.value r.unit r.value in
    let e = c.own_place-own.ensures.0 in
    record {
      none = none past.In_ok-check_lent;
      row = r;
      count = (ok past.In_ok-check_lent).count;
      own = e;
      low = c.own_place-own.ensures.1;
      there = omega (arith, e, o, (ok past.In_ok-check_lent).count);
      small = rw e (ltb-true (get_or a.costs.now (own_at dom (pred a.unit) a.value) 0) barred ((ok past.In_ok-check_lent).own (own_at dom (pred a.unit) a.value) o));
      run = c.row_run-row.ensures;
    }
