-- `put_shape` meets its contract: one byte set, and the sizes put behind it. Assumes nothing.
use mathlib.Core.Path.{◌≡◌, ap, ◌∙◌}
use native.Mathlib.Omega.{arith}
use lib.ListN.{length, set, take, length-set}
use Rattle.base.specs.Put.{put_within}
use borrow.Author.Rules.{rules}
use Rattle.readings.specs.Pieces.{shape_put}
use Rattle.readings.proofs.put_shape.Goals as goal

pub shape_of-stream : goal.shape_of-stream
shape_of-stream c =
    let a = c.args in
    let k : length c.put.new.out ≡ length (set a.stream.now 0 a.n) = search rules in
    k ∙ length-set a.stream.now 0 a.n

pub returns : goal.returns
returns c =
    let long : length c.args.sizes ≡ 16 = search rules in
    c.put.ensures ∙ ap (λ k. put_within (set c.args.stream.now 0 c.args.n) 1 (take k c.args.sizes)) c.from-count.ensures
    ∙ shape_put c.args.stream.now c.args.sizes c.args.n c.requires.1 (omega arith)
