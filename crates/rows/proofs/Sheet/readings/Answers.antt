-- Each turn lays one reading more.
-- Assumes nothing.
use Rattle.std.proofs.Common.{replicate, arith}
use Rattle.rows.proofs.Readings.{readings_more}
use Rattle.rows.proofs.Sheet.readings.Goals as goal

pub loop-k-preserved : goal.loop-k-preserved
loop-k-preserved c =
    let k = c.loop-k.k in
    let entries = c.args.self.entries in
    let i = c.loop-k.invariant in
    let test = c.loop-k-test in
    (omega (arith, i.0, test.true), rw (c.put.ensures, i.1, c.to_le_bytes.ensures) (readings_more entries k (record { length = 0; reading = 0; lots = 0 }) (replicate 32 0) (omega (arith, test.true)) (omega (arith, test.array_long))))
