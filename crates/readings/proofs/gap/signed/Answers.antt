-- `signed` meets its contract: a 16-bit number is its own signed number. Assumes nothing.
use lib.IntN.{pos}
use mir.Syntax.{w32}
use mir.ValLaws.{to_z-of_z}
use Rattle.readings.proofs.Signed.{small_fits}
use Rattle.readings.proofs.gap.signed.Goals as goal

pub returns : goal.returns
returns c = to_z-of_z w32 (pos c.args.x) (small_fits (pos c.args.x) c.requires)
