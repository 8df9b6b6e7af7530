-- `sizes_of` meets its contract. The loop's invariant: the first i places are written, the others zero.
-- Assumes nothing.
use Rattle.std.proofs.Common.{◌≡◌, ℕ, List, ap, get_or, replicate, sym, ◌∙◌, arith}
use Rattle.costs.specs.Instance.{dom_of}
use Rattle.costs.specs.Gather.{sizes_in}
use Rattle.costs.specs.Gather.Sizes.{length_sizes, sizes_at}
use Rattle.base.specs.Put.Laws.{copy_more}
use Rattle.costs.specs.Gather.Steps.{fill_done}
use Rattle.costs.proofs.stream.sizes_of.Goals as goal

pub loop-i-preserved : goal.loop-i-preserved
loop-i-preserved c =
    let s = c.args.stream.now in
    let l = c.loop-i in
    let q : c.size_at.result ≡ get_or (sizes_in s) l.i 0 = c.size_at.ensures ∙ ap (λ (t : List ℕ). dom_of t l.i) c.new-opened.ensures ∙ sym (sizes_at s l.i (omega arith)) in
    rw (l.invariant, q) (copy_more l.i (sizes_in s) (replicate 16 0) (omega (arith, length_sizes s)) (omega arith))

pub returns : goal.returns
returns c =
    let s = c.args.stream.now in
    let l = c.loop-i in
    let e : l.i ≡ 16 = omega arith in
    l.invariant ∙ fill_done l.i (sizes_in s) (replicate 16 0) (omega (arith, length_sizes s)) (omega arith)
