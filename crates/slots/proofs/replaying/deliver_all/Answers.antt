-- `slots::replaying::deliver_all` meets its contract. The loop's invariant: what is lent would pass, and the cells that are left, from here on, come to what the list comes to from the start.
-- Assumes nothing.
use Rattle.std.proofs.Common.{refl, arith}
use Rattle.slots.specs.Replay.Laws.{replay_end, replay_refused, replay_next}
use Rattle.slots.proofs.replaying.deliver_all.Goals as goal

pub loop-k-init : goal.loop-k-init
loop-k-init c = (c.requires, refl)

pub deliver_checked-d-requires : goal.deliver_checked-d-requires
deliver_checked-d-requires c = c.loop-k.invariant.0

pub returns-then-d-ne0 : goal.returns-then-d-ne0
returns-then-d-ne0 c =
    let a = c.args in
    let l = c.loop-k in
    let cell = c.u16_at-cell in
    let d = c.deliver_checked-d in
    let e = rw c.from.ensures at d.ensures in
    replay_refused a.order a.stream.now a.list.now (record { core = a.begun; pool = a.pool.now }) (record { core = l.core; pool = l.pool }) l.k l.invariant.1 (omega arith) cell.result cell.ensures.0 d.result d.new.pool (e.0, e.1) (λ z. omega (arith, z, c.if-d-ne0.true))

pub loop-k-preserved : goal.loop-k-preserved
loop-k-preserved c =
    let a = c.args in
    let l = c.loop-k in
    let cell = c.u16_at-cell in
    let d = c.deliver_checked-d in
    let e = rw c.from.ensures at d.ensures in
    (d.ensures.2, replay_next a.order a.stream.now a.list.now (record { core = a.begun; pool = a.pool.now }) (record { core = l.core; pool = l.pool }) l.k l.invariant.1 (omega arith) cell.result cell.ensures.0 d.result d.new.pool (e.0, e.1) (omega (arith, c.if-d-ne0.false)))

pub returns : goal.returns
returns c =
    let a = c.args in
    let l = c.loop-k in
    replay_end a.order a.stream.now a.list.now (record { core = a.begun; pool = a.pool.now }) (record { core = l.core; pool = l.pool }) l.k l.invariant.1 (omega arith)
