-- `slots::replaying::deliver_all` meets its contract. The loop's invariant: what is lent would pass, and the cells that are left, from here on, come to what the list comes to from the start.
-- Assumes nothing.
use Rattle.std.specs.Prelude.{◌≡◌, ◌*◌, drop}
use Rattle.slots.specs.Calls.{lent_refusal}
use Rattle.slots.specs.Replay.{cells_in, deliver_until}
use Rattle.slots.proofs.replaying.deliver_all.Given as goal

abbrev pub invariant-loop-k : goal.invariant-loop-k
invariant-loop-k l =
    (lent_refusal l.order l.core l.stream l.pool ≡ 0)
    × (deliver_until l.order l.stream (record { core = l.initial.core; pool = l.initial.pool }) (cells_in l.list) ≡ deliver_until l.order l.stream (record { core = l.core; pool = l.pool }) (cells_in (drop (2 * l.k) l.list)))
