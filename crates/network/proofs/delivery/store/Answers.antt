-- `network::delivery::store` meets its contract: where what was sent fits, the gap is closed and it is added behind.
-- Assumes nothing.
use Rattle.std.specs.Prelude.{◌≡◌, ℕ, ◌+◌, ◌-◌, ◌*◌, true, false, leb, List}
use mathlib.Core.Path.{ap, ◌∙◌}
use native.Mathlib.Omega.{arith}
use lib.Seq.{paste}
use borrow.Author.Tests.{le-leb, lt-leb}
use Rattle.network.proofs.delivery.store.Goals as goal

pub returns-then-left-from-gt-POOL_CELLS : goal.returns-then-left-from-gt-POOL_CELLS
returns-then-left-from-gt-POOL_CELLS c =
    let a = c.args in
    let f : leb (a.net.used - 1 + a.r.sent) 1024 ≡ false = lt-leb _ 1024 (omega (arith, c.from.ensures, c.if-left-from-gt-POOL_CELLS.true)) in
    (rw f c.refused.ensures, rw f)

pub returns : goal.returns
returns c =
    let a = c.args in
    let t : leb (a.net.used - 1 + a.r.sent) 1024 ≡ true = le-leb _ 1024 (omega (arith, c.from.ensures, c.if-left-from-gt-POOL_CELLS.false)) in
    (rw t c.add.ensures.0, rw t (c.add.ensures.1 ∙ ap (λ (l : List ℕ). paste l (64 * (a.net.used - 1)) a.out.now (64 * a.r.sent)) c.close.ensures))
