-- `slots::delivery::is_stray` meets its contract: one that does not read is none, else by the cell it names. Assumes nothing.
use Rattle.std.proofs.Common.{sym}
use Rattle.slots.specs.Code.{stray_unread, stray_read_lem}
use Rattle.slots.proofs.delivery.is_stray.Goals as goal

pub returns-in_default : goal.returns-in_default
returns-in_default c =
    let a = c.args in
    let n = c.units_of-n in
    let p = rw (c.in_default.is, c.sizes_of-sizes.ensures) at c.parse_for.ensures in
    stray_unread a.stream.now a.own a.packet.now a.cell n.result n.ensures _ (sym p)

pub returns : goal.returns
returns c =
    let a = c.args in
    let n = c.units_of-n in
    let p = rw (c.in-Ok.is, c.sizes_of-sizes.ensures) at c.parse_for.ensures in
    stray_read_lem a.stream.now a.own a.packet.now a.cell n.result n.ensures _ _ (sym p) c.slot_of.result c.slot_of.ensures
