-- `check_gather` meets its contract: each refusal is the first test of 01's order that fails.
-- Assumes nothing.
use Rattle.std.proofs.Common.{◌≡◌, ◌*◌, length, sym, ap, ◌∙◌, arith, eqb-true}
use Rattle.std.proofs.lemmas.Bool.{eqb-false}
use Rattle.std.proofs.lemmas.Result.{err_from_is_err_and}
use Rattle.base.specs.Refusal.Laws.{number_some}
use Rattle.base.specs.Shape.{is_value}
use Rattle.base.specs.Shape.Laws.{value_range}
use Rattle.table.specs.Stream.{units_of, stream_refusal, Accepted}
use Rattle.costs.specs.Gathered.{gathered}
use Rattle.costs.specs.Gather.Checks.{refused_5, refused_10, refused-stream, refused_13, refused_none, gathered-count}
use Rattle.costs.proofs.stream.check_gather.Goals as goal
use Rattle.costs.proofs.stream.check_gather.Goals.{Else-is_out_of_range, After-is_value, In_ok-checked, After-lent_count}

pub returns-then-is_out_of_range : goal.returns-then-is_out_of_range
returns-then-is_out_of_range c =
    let a = c.args in
    let five = eqb-true _ _ (sym c.is_out_of_range.ensures ∙ c.if-is_out_of_range.true) in
    five ∙ refused_5 a.stream.now a.seat.own a.room (sym c.check_stream-checked.ensures ∙ five)

-- the tests that were made, each where it was
not_five : (c : Else-is_out_of_range) → stream_refusal c.args.stream.now ≡ 5 → ⊥
not_five c e = eqb-false _ _ (sym c.is_out_of_range.ensures ∙ c.if-is_out_of_range.false) (c.check_stream-checked.ensures ∙ e)

is-unit : (c : After-is_value) → let a = c.args in is_value (units_of a.stream.now) a.seat.own ≡ c.is_value.result
is-unit c =
    rw (← c.requires.0, ← c.from.ensures, ← c.from-2.ensures) (sym c.is_value.ensures)

accepted : (c : In_ok-checked) → Accepted c.args.stream.now
unfolding Accepted
accepted c = rw c.in_ok-checked.was at (sym c.check_stream-checked.ensures)

pub returns-then-not-is_value : goal.returns-then-not-is_value
returns-then-not-is_value c =
    let past = goal.at.returns-then-not-is_value c in
    let a = c.args in
    refused_10 a.stream.now a.seat.own a.room (not_five past.Else-is_out_of_range) (is-unit past.After-is_value ∙ c.if-not-is_value.true)

pub returns-in_err-checked : goal.returns-in_err-checked
returns-in_err-checked c =
    let past = goal.at.returns-in_err-checked c in
    let a = c.args in
    let unit = is-unit past.After-is_value ∙ c.if-not-is_value.false in
    let r = c.in_err-checked.field-0.0 in
    let number = rw c.in_err-checked.was at c.check_stream-checked.ensures in
    let p = err_from_is_err_and c.from_residual.result c.from_residual.ensures.1 in
    rw (p.1, p.2) (number ∙ refused-stream a.stream.now a.seat.own a.room (not_five past.Else-is_out_of_range) unit (λ z. number_some r (number ∙ z)))

-- how many bytes there are to gather
count : (c : After-lent_count) → let a = c.args in length (gathered a.stream.now a.seat.own) ≡ 2 * c.lent_count.result
count c =
    let a = c.args in
    let unit = value_range _ _ (is-unit (goal.at.After-lent_count c).After-is_value ∙ c.if-not-is_value.false) in
    gathered-count a.stream.now a.seat c.requires.0 c.requires.1 (accepted (goal.at.After-lent_count c).In_ok-checked) unit.0 unit.1 ∙ ap (λ m. 2 * m) (sym c.lent_count.ensures.0)

pub returns-then-room-lent_count : goal.returns-then-room-lent_count
returns-then-room-lent_count c =
    let past = goal.at.returns-then-room-lent_count c in
    let a = c.args in
    let unit = is-unit past.After-is_value ∙ c.if-not-is_value.false in
    refused_13 a.stream.now a.seat.own a.room (not_five past.Else-is_out_of_range) unit (accepted past.In_ok-checked) (omega (arith, count past.After-lent_count, c.if-room-lent_count.true))

pub returns : goal.returns
returns c =
    let past = goal.at.returns c in
    let a = c.args in
    let unit = is-unit past.After-is_value ∙ c.if-not-is_value.false in
    refused_none a.stream.now a.seat.own a.room (not_five past.Else-is_out_of_range) unit (accepted past.In_ok-checked) (omega (arith, count past.After-lent_count, c.if-room-lent_count.false))
