-- `put_cost` meets its contract: two bytes set are the number's. Assumes nothing.
use native.Mathlib.Omega.{arith}
use lib.ListN.{length-set}
use Rattle.base.specs.Put.Laws.{put_two}
use Rattle.readings.proofs.put_cost.Goals as goal

pub bounds-stream-at-2 : goal.bounds-stream-at-2
bounds-stream-at-2 c = simp length-set (omega arith)

pub returns : goal.returns
returns c = put_two c.args.stream.now c.args.at _ _ c.requires
