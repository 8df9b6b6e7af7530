-- `shed_core::states::Member::place_by_h` meets its contract: whatever the buffer's size, the costs are those gathered.
-- Assumes nothing.
use Rattle.std.proofs.Common.{ℕ, replicate, refl, arith}
use lib.ListN.{length-replicate}
use Rattle.base.specs.Refusal.{answered}
use Rattle.runs.proofs.CodeLaws.{counted, lent_front}
use Rattle.shed_core.proofs.Lent.{accepts, short_front}
use Rattle.shed_core.proofs.states.Member.place_by_h.Goals as goal

pub place_with-requires : goal.place_with-requires
place_with-requires c =
    let m = c.args.self.now in
    let g = c.in-Ok in
    short_front m.stream.now m.own (replicate 1024 0) c.gather.new.out (record { refusal = 0; length = g.count }) g.ensures.0 g.ensures.1 refl

pub place_with-requires-2 : goal.place_with-requires-2
place_with-requires-2 c =
    let m = c.args.self.now in
    let g = c.gather-2 in
    rw (c.unwrap_or-count.ensures, counted) (lent_front m.stream.now (accepts m.stream.now m.accepted) m.own m.first m.last (replicate 7712 0) g.new.out (answered g.result) (omega (arith, length-replicate {A = ℕ} 7712 0)) g.ensures.0 g.ensures.1)
