-- `shed_core::handing::receiver` meets its contract: the byte named, where it is a unit. Assumes nothing.
use Rattle.std.proofs.Common.{◌≡◌, true, false, get_or, sym, ◌∙◌, arith}
use Rattle.message.specs.Message.{is_unit}
use Rattle.shed_core.proofs.handing.receiver.Goals as goal

pub returns-then-is_unit : goal.returns-then-is_unit
returns-then-is_unit c =
    let a = c.args in
    let b = c.byte_at-named.ensures in
    let t : is_unit a.n (get_or a.packet.now 2 0) ≡ true = rw b at (sym c.is_unit.ensures ∙ c.if-is_unit.true) in
    (rw t b, λ j. omega (arith, c.type_inv.packet j))

pub returns-else-is_unit : goal.returns-else-is_unit
returns-else-is_unit c =
    let a = c.args in
    let b = c.byte_at-named.ensures in
    let t : is_unit a.n (get_or a.packet.now 2 0) ≡ false = rw b at (sym c.is_unit.ensures ∙ c.if-is_unit.false) in
    (rw t, λ j. omega (arith, c.type_inv.packet j))
