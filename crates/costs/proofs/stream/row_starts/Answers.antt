-- `row_starts` meets its contract. The loop's invariant: the next row begins behind those passed, each of at most 255 times 16 times 255 costs,
-- and each place passed holds where its row begins. Assumes nothing.
use Rattle.std.proofs.Common.{◌≡◌, ◌≤◌, length, mul-le-mul, add-one, arith, length-set, slice_set}
use Rattle.costs.specs.Gather.Steps.{rows_more}
use Rattle.costs.proofs.stream.row_starts.Goals as goal

pub loop-a-preserved : goal.loop-a-preserved
loop-a-preserved c =
    let l = c.loop-a in
    let s : c.sum_sizes.result ≤ 4080 = omega (arith, c.requires.0) in
    let few = mul-le-mul c.size_of.ensures.1 s in
    let size : length (slice_set l.rows l.a l.row) ≡ 16 = rw length-set l.invariant.0 in (
      size,
      rw (l.invariant.1, c.size_of.ensures.0, c.sum_sizes.ensures.0, c.from-count.ensures, add-one) (omega arith),
      omega (arith, few),
      rows_more c.args.seat c.args.from l.a l.row l.rows l.invariant.3 (omega (arith, l.invariant.0)) l.invariant.1 l.invariant.2,
    )
