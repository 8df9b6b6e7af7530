-- `shed_core::making::first_step` meets its contract: unit 1 is made with what gathering lent it. Assumes nothing.
use Rattle.std.proofs.Common.{◌≡◌, take, ◌∙◌}
use Rattle.base.specs.Refusal.{answered}
use Rattle.runs.specs.Calls.{lent_of}
use Rattle.runs.proofs.CodeLaws.{counted, lent-part}
use Rattle.shed_core.proofs.making.first_step.Goals as goal

pub returns : goal.returns
returns c =
    let s = c.args.stream.now in
    let g = c.gather in
    let part : take c.unwrap_or-count.result g.new.out ≡ lent_of s 1 = rw (c.unwrap_or-count.ensures, counted) (lent-part s 1 g.new.out (answered g.result) g.ensures.0 g.ensures.1) in
    let n = c.units_of-n.ensures in
    let sizes = c.sizes_of-sizes.ensures in
    let m = c.make_by in
    (m.ensures.0 ∙ rw (n, sizes, part), m.ensures.1 ∙ rw (n, sizes, part))
