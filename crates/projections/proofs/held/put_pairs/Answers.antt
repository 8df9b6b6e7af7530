-- `put_pairs` meets its contract. The loop's invariant: the first k pair costs are written.
-- Assumes nothing.
use mathlib.Core.Path.{◌≡◌, ap, ◌∙◌}
use native.Mathlib.Omega.{arith}
use Rattle.costs.specs.Cost.{as_number, pair_cost}
use Rattle.projections.specs.Made.{pair_number}
use Rattle.projections.specs.Made.Steps.{numbers_none, numbers-next, pair_read}
use Rattle.projections.proofs.held.put_pairs.Goals as goal

pub loop-k-init : goal.loop-k-init
loop-k-init c = numbers_none (pair_number c.args.stream.now) c.args.out.now c.args.at

pub loop-k-preserved : goal.loop-k-preserved
loop-k-preserved c =
    let a = c.args in
    let l = c.loop-k in
    let x = c.held_number.ensures ∙ ap (λ z. as_number (pair_cost z)) c.u16_at.ensures.0 ∙ pair_read a.stream.now a.from l.k c.requires.0 in
    numbers-next (pair_number a.stream.now) a.out.now l.out a.at l.k c.held_number.result (omega arith) l.auto.out l.invariant x

pub returns : goal.returns
returns c =
    let l = c.loop-k in
    let e : l.k ≡ c.args.count = omega arith in
    rw (← e) l.invariant
