-- `read_bytes` meets its contract. The loop's invariant: the whole answer is that of the bytes from there on. Assumes nothing.
use mathlib.Core.Path.{refl, sym, ◌∙◌}
use native.Mathlib.Omega.{arith}
use Rattle.start.specs.Steps.{after_turn, after_end}
use Rattle.start.proofs.read_bytes.Goals as goal

pub loop-b-init : goal.loop-b-init
loop-b-init c = refl

pub loop-b-preserved : goal.loop-b-preserved
loop-b-preserved c =
    let bytes = c.args.bytes.now in
    rw c.after_byte-reader.ensures (c.loop-b.invariant ∙ after_turn bytes c.loop-b.b-index c.loop-b.reader (omega arith))

pub returns : goal.returns
returns c =
    sym (c.loop-b.invariant ∙ after_end c.args.bytes.now c.loop-b.b-index c.loop-b.reader (omega arith))
