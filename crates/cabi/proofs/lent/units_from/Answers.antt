-- `units_from` meets its contract: each unit is read of the one lent at its place.
-- Assumes nothing.
use Rattle.std.proofs.Common.{rules, ℕ}
use lib.ListN.{get_or}
use Rattle.rules.specs.State.{empty_unit}
use Rattle.cabi.specs.Lent.{empty_lent, unit_from}
use Rattle.cabi.specs.Lent.Laws.{up_to_of}
use Rattle.cabi.proofs.lent.units_from.Goals as goal

pub returns : goal.returns
returns c =
    let each = c.map.ensures.items in
    up_to_of 16 (λ (k : ℕ). unit_from (get_or c.args.ss k empty_lent)) c.map.result empty_unit each.long (λ k h. let p = each.at k empty_lent empty_unit h in search rules)
