-- `body` meets its contract: the fields are laid one after the other over zeros.
-- Assumes nothing.
use mathlib.Core.Path.{◌≡◌}
use borrow.Author.Rules.{rules}
use Rattle.base.specs.Bytes.{le32}
use Rattle.message.specs.Sized.{Sized}
use Rattle.message.specs.EncodeLaws.{fields_laid}
use Rattle.message.proofs.encode.body.Goals as goal

pub returns : goal.returns
returns c =
    let a = c.args in
    let z : Sized a.m = record { stamp = search rules; values = search rules; best = search rules; cost = search rules; bound = search rules } in
    let cost : c.to_le_bytes.result ≡ le32 a.m.cost = search rules in
    let bound : c.to_le_bytes-2.result ≡ le32 a.m.bound = search rules in
    rw (c.lay-5.ensures, c.lay-4.ensures, bound, c.lay-3.ensures, cost, c.lay-2.ensures, c.lay.ensures, c.from.ensures) (fields_laid a.kind a.m z)
