-- `network::decimal::tenth` meets its contract: each partial dividend is below ten times its base. Assumes nothing.
use Rattle.std.specs.Prelude.{◌^◌, ◌<◌}
use native.Mathlib.Omega.{arith}
use borrow.Author.Rules.{rules}
use Rattle.network.proofs.decimal.tenth.Goals as goal

pub overflow_add-upper : goal.overflow_add-upper
overflow_add-upper c = let l : c.args.c.low < 2 ^ 64 = search rules in omega arith
