-- `shed_core::handing::advance` meets its contract: both counts up, and one unit set; past the 16 places, none. Assumes nothing.
use Rattle.std.proofs.Common.{◌≡◌, pred, length, set, ◌∙◌, arith, rules}
use native.Mathlib.Numerals.{sub-one}
use lib.Seq.{set_out}
use Rattle.shed_core.proofs.handing.advance.Goals as goal
use Rattle.shed_core.proofs.handing.advance.Goals.{After-from-place}

-- the place
place : (c : After-from-place) → c.from-place.result ≡ pred c.args.own
place c = c.from-place.ensures ∙ c.saturating_sub.ensures ∙ sub-one c.args.own

pub returns-then-place-lt-PLACES : goal.returns-then-place-lt-PLACES
returns-then-place-lt-PLACES c = rw (c.plus-next.ensures, c.from.ensures, c.plus-next-2.ensures, place (goal.at.returns-then-place-lt-PLACES c).After-from-place)

pub returns-else-place-lt-PLACES : goal.returns-else-place-lt-PLACES
returns-else-place-lt-PLACES c =
    let a = c.args in
    let p = place (goal.at.returns-else-place-lt-PLACES c).After-from-place in
    let places : length a.core.units ≡ 16 = search rules in
    let same : set a.core.units (pred a.own) a.r.unit ≡ a.core.units = set_out a.core.units (pred a.own) a.r.unit (omega (arith, places, p, c.if-place-lt-PLACES.false)) in
    rw (same, c.plus-next.ensures, c.from.ensures, c.plus-next-2.ensures)
