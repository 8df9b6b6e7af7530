-- `write_stream` meets its contract: what is not refused has a good shape and room for its stream. Assumes nothing.
use Prim.Native.Nat.{◌+◌, ◌≤◌}
use mathlib.Core.Path.{◌≡◌, sym, ap, ◌∙◌}
use native.Mathlib.Omega.{arith}
use lib.ListN.{length}
use Rattle.std.proofs.lemmas.Result.{err_from_is_err_and}
use Rattle.base.specs.Join.{join_to}
use Rattle.base.specs.Put.{put_at}
use Rattle.base.specs.Refusal.{number_of}
use Rattle.base.specs.Refusal.Laws.{number_some}
use Rattle.base.specs.Shape.Laws.{shape_n}
use Rattle.costs.specs.Streamed.{later_costs}
use Rattle.readings.specs.Readings.{lines_of, readings_refusal}
use Rattle.readings.specs.Table.{not_refused, room_for, stream-count, stream-put, table-refused, table-made, table-left}
use borrow.Author.Rules.{rules}
use Rattle.readings.proofs.write_stream.Goals as goal
use Rattle.readings.proofs.write_stream.Goals.{In_ok-check}

pub returns-in_err-check : goal.returns-in_err-check
returns-in_err-check c =
    let a = c.args in
    let p = err_from_is_err_and c.from_residual.result c.from_residual.ensures.1 in
    let r = c.in_err-check.field-0.0 in
    rw (p.1, p.2) (table-refused a.n a.sizes a.readings.now (number_of r) a.stream.now c.in_err-check.ensures (number_some r))

-- nothing is refused
none : (c : In_ok-check) → let a = c.args in readings_refusal a.n a.sizes a.readings.now (length a.stream.now) ≡ 0
none c = sym c.in_ok-check.ensures

long : (c : In_ok-check) → let a = c.args in a.n ≤ length a.sizes
long c =
    let a = c.args in
    let e : length a.sizes ≡ 16 = search rules in
    omega (arith, shape_n a.n a.sizes (not_refused a.n a.sizes a.readings.now (length a.stream.now) (none c)).0)

pub put_shape-requires : goal.put_shape-requires
put_shape-requires c =
    let a = c.args in
    let p = not_refused a.n a.sizes a.readings.now (length a.stream.now) (none (goal.at.put_shape-requires c).In_ok-check) in
    ((shape_n a.n a.sizes p.0).1, omega (arith, p.1, (shape_n a.n a.sizes p.0).1))

pub put_costs-length-requires : goal.put_costs-length-requires
put_costs-length-requires c =
    let past = goal.at.put_costs-length-requires c in
    let a = c.args in
    let p = not_refused a.n a.sizes a.readings.now (length a.stream.now) (none past.In_ok-check) in
    let k : length c.put_shape.new.stream ≡ length a.stream.now = search rules in
    ((shape_n a.n a.sizes p.0).1, omega (arith, k, stream-count a.n a.sizes a.readings.now (long past.In_ok-check), room_for a.n a.sizes a.readings.now (length a.stream.now) (long past.In_ok-check) (none past.In_ok-check)))

pub returns : goal.returns
returns c =
    let past = goal.at.returns c in
    let a = c.args in
    let costs = join_to (later_costs (lines_of a.n a.sizes a.readings.now)) a.n in (
      table-made a.n a.sizes a.readings.now a.stream.now c.put_costs-length.result (none past.In_ok-check) (c.put_costs-length.ensures.0 ∙ sym (stream-count a.n a.sizes a.readings.now (long past.In_ok-check))),
      c.put_costs-length.ensures.1 ∙ ap (λ l. put_at l (1 + a.n) costs) c.put_shape.ensures ∙ stream-put a.n a.sizes a.readings.now (long past.In_ok-check) a.stream.now ∙ table-left a.n a.sizes a.readings.now a.stream.now (none past.In_ok-check),
    )
