-- `shed_core::handing::step` meets its contract: whatever the buffer's size, the costs are those lent. Assumes nothing.
use Rattle.std.proofs.Common.{replicate, refl}
use Rattle.base.specs.Refusal.{answered}
use Rattle.runs.proofs.CodeLaws.{counted, lent-part}
use Rattle.shed_core.proofs.Lent.{lent_short}
use Rattle.shed_core.proofs.handing.step.Goals as goal

pub step_with-requires : goal.step_with-requires
step_with-requires c = let g = c.in-Ok in lent_short c.args.stream.now c.args.own (replicate 1024 0) c.gather.new.out (record { refusal = 0; length = g.count }) g.ensures.0 g.ensures.1 refl

pub step_with-requires-2 : goal.step_with-requires-2
step_with-requires-2 c = let g = c.gather-2 in rw (c.unwrap_or-count.ensures, counted) (lent-part c.args.stream.now c.args.own g.new.out (answered g.result) g.ensures.0 g.ensures.1)
