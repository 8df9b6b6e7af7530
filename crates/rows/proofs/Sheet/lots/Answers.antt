-- Each place has the lots of its entry.
-- Assumes nothing.
use Rattle.std.proofs.Common.{rules, length, ◌≡◌, sym, ◌∙◌, arith}
use Rattle.rows.specs.declared.Entry.{Entry}
use Rattle.rows.proofs.Readings.{lots_each}
use Rattle.rows.proofs.Sheet.lots.Goals as goal

pub returns : goal.returns
returns c =
    let each = c.map.ensures.items in
    let blank : Entry = record { length = 0; reading = 0; lots = 0 } in
    let sixteen : length c.args.self.entries ≡ 16 = search rules in
    lots_each blank c.args.self.entries c.map.result (each.long ∙ sym sixteen) (λ k h. let p = each.at k blank 0 (omega (arith, h, sixteen)) in search rules)
