-- `network::pool::close` meets its contract: what moves down ends 64 bytes before what it was. Assumes nothing.
use Rattle.std.specs.Prelude.{◌≡◌, ◌+◌, ◌-◌}
use mathlib.Core.Path.{◌∙◌}
use native.Mathlib.Omega.{arith}
use Rattle.network.proofs.pool.close.Goals as goal

pub returns : goal.returns
returns c =
    let a = c.args in
    let g : a.at + (a.end - (a.at + 64)) ≡ a.end - 64 = omega arith in
    c.copy_within.ensures.after ∙ rw g
