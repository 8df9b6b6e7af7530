-- `stored` meets its contract: past the last place nothing is stored. Assumes nothing.
use Rattle.std.proofs.Common.{◌≡◌, sym, arith, rules, length}
use lib.Seq.{set_out}
use Rattle.start.proofs.byte.stored.Goals as goal

pub returns-else-place-lt-PLACES : goal.returns-else-place-lt-PLACES
returns-else-place-lt-PLACES c =
    let a = c.args in
    let h : length a.r.sizes ≡ 16 = search rules in
    sym (set_out a.r.sizes a.r.unit a.b (omega arith))
