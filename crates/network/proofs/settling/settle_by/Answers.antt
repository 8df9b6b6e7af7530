-- `network::settling::settle_by` meets its contract: making's refusal, or the run from what it made to its end.
-- Assumes nothing.
use Rattle.runs.proofs.Settle.Laws.{settle_unmade, begun_by, settle-stopped}
use Rattle.network.proofs.settling.settle_by.Goals as goal

pub returns-then-made-ne0 : goal.returns-then-made-ne0
returns-then-made-ne0 c = let a = c.args in let k = c.make_by-made in settle_unmade a.order a.stream.now a.pool.now k.result k.new.pool k.ensures c.if-made-ne0.true

pub run-network-requires : goal.run-network-requires
run-network-requires c = let a = c.args in let k = c.make_by-made in begun_by a.order a.stream.now a.pool.now k.result k.new.pool k.ensures c.if-made-ne0.false

pub returns : goal.returns
returns c =
    let a = c.args in
    let k = c.make_by-made in
    let r = c.run-network in
    settle-stopped a.order a.stream.now a.pool.now k.result k.new.pool k.ensures c.if-made-ne0.false r.result r.new.pool r.ensures.after r.ensures.stopped
