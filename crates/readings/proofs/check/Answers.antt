-- `check` meets its contract, test after test. Assumes nothing.
use Prim.Native.Nat.{◌*◌}
use mathlib.Core.Path.{◌≡◌, sym, ap, ◌∙◌}
use mathlib.Core.Bool.{true}
use lib.ListN.{length}
use Rattle.base.specs.Shape.{shape_good}
use Rattle.readings.specs.Checks.{all_good, refused_5, refused_6, refused_17, refused_13, refused_none}
use Rattle.readings.proofs.check.Goals as goal
use Rattle.readings.proofs.check.Goals.{Else-not-shape_good, Else-readings-count, After-readings_good}

-- what each test found, where it was made
shaped : (c : Else-not-shape_good) → let a = c.args in shape_good a.n a.sizes ≡ true
shaped c = sym c.shape_good.ensures ∙ c.if-not-shape_good.false

counted : (c : Else-readings-count) → let a = c.args in length a.readings.now ≡ 2 * a.n
counted c = c.if-readings-count.false ∙ ap (λ m. 2 * m) c.from-count.ensures

tested : (c : After-readings_good) → let a = c.args in all_good a.n a.readings.now ≡ c.readings_good.result
tested c = ap (λ m. all_good m c.args.readings.now) (sym c.from-count.ensures) ∙ sym c.readings_good.ensures

pub returns-then-not-shape_good : goal.returns-then-not-shape_good
returns-then-not-shape_good c =
    let a = c.args in
    refused_5 a.n a.sizes a.readings.now a.room (sym c.shape_good.ensures ∙ c.if-not-shape_good.true)

pub returns-then-readings-count : goal.returns-then-readings-count
returns-then-readings-count c =
    let a = c.args in
    refused_6 a.n a.sizes a.readings.now a.room (shaped (goal.at.returns-then-readings-count c).Else-not-shape_good) (λ e. c.if-readings-count.true (e ∙ ap (λ m. 2 * m) (sym c.from-count.ensures)))

pub returns-then-not-readings_good : goal.returns-then-not-readings_good
returns-then-not-readings_good c =
    let past = goal.at.returns-then-not-readings_good c in
    let a = c.args in
    refused_17 a.n a.sizes a.readings.now a.room (shaped past.Else-not-shape_good) (counted past.Else-readings-count) (tested past.After-readings_good ∙ c.if-not-readings_good.true)

pub returns-then-room-lt-STREAM_SIZE : goal.returns-then-room-lt-STREAM_SIZE
returns-then-room-lt-STREAM_SIZE c =
    let past = goal.at.returns-then-room-lt-STREAM_SIZE c in
    let a = c.args in
    refused_13 a.n a.sizes a.readings.now a.room (shaped past.Else-not-shape_good) (counted past.Else-readings-count) (tested past.After-readings_good ∙ c.if-not-readings_good.false) c.if-room-lt-STREAM_SIZE.true

pub returns : goal.returns
returns c =
    let past = goal.at.returns c in
    let a = c.args in
    refused_none a.n a.sizes a.readings.now a.room (shaped past.Else-not-shape_good) (counted past.Else-readings-count) (tested past.After-readings_good ∙ c.if-not-readings_good.false) c.if-room-lt-STREAM_SIZE.false
