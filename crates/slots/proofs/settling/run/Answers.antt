-- `slots::settling::run` meets its contract. The loop's invariant: units, counts and pool are what as many deliveries of the lowest cell as are counted have left
-- of what was lent, and would pass the checks. The measure is (3n - 1) × N less the accepted deliveries: demand 3 bounds them.
-- Assumes nothing.
use Rattle.std.proofs.Common.{◌≡◌, false, refl, ◌∙◌, arith}
use Rattle.table.specs.StreamLaws.{accepted_units}
use Rattle.slots.specs.Demand3.{over}
use Rattle.slots.specs.Code.{lent_room, lent_sound}
use Rattle.slots.specs.Settle.Laws.{begun_passes, reached_start, reached_next, measure_falls}
use Rattle.slots.proofs.settling.run.Goals as goal
use Rattle.slots.proofs.settling.run.Goals.{In-loop-core}

pub loop-core-init : goal.loop-core-init
loop-core-init c = (begun_passes c.args.order c.args.stream.now c.requires.pool (record { refusal = 0; core = c.args.begun }) c.args.pool.now c.requires.gave refl, reached_start c.args.order c.args.stream.now c.requires.pool (record { refusal = 0; core = c.args.begun }) c.args.pool.now c.requires.gave refl)

pub lowest-cell-requires : goal.lowest-cell-requires
lowest-cell-requires c =
    let a = c.args in
    let l = c.loop-core in
    let few = (accepted_units a.stream.now (lent_sound a.order l.core a.stream.now l.pool l.invariant.0).table).1 in
    (omega (arith, c.units_of-n.ensures, few), lent_room a.order l.core a.stream.now l.pool l.invariant.0)

pub deliver_checked-requires : goal.deliver_checked-requires
deliver_checked-requires c = c.loop-core.invariant.0

-- unit 1 has not stopped
goes_on : (c : In-loop-core) → over (record { core = c.loop-core.core; pool = c.loop-core.pool }) ≡ false
goes_on c = c.loop-core-test.true

pub loop-core-smaller : goal.loop-core-smaller
loop-core-smaller c =
    let l = c.loop-core in
    let d = c.deliver_checked in
    measure_falls c.args.order c.args.stream.now c.requires.pool (record { refusal = 0; core = c.args.begun }) c.args.pool.now c.requires.gave refl l.core l.pool l.invariant.1 c.lowest-cell.result (c.lowest-cell.ensures ∙ rw c.units_of-n.ensures) d.result d.new.pool (d.ensures.0, d.ensures.1) (goes_on (goal.at.loop-core-smaller c).In-loop-core)

pub loop-core-preserved : goal.loop-core-preserved
loop-core-preserved c =
    let l = c.loop-core in
    let d = c.deliver_checked in
    (d.ensures.2, reached_next c.args.order c.args.stream.now c.requires.pool (record { refusal = 0; core = c.args.begun }) c.args.pool.now c.requires.gave refl l.core l.pool l.invariant.1 c.lowest-cell.result (c.lowest-cell.ensures ∙ rw c.units_of-n.ensures) d.result d.new.pool (d.ensures.0, d.ensures.1) (goes_on (goal.at.loop-core-preserved c).In-loop-core))

pub returns : goal.returns
returns c = record { stopped = c.loop-core-test.false; after = c.loop-core.invariant.1 }
