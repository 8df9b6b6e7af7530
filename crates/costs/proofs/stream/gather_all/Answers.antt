-- `gather_all` meets its contract. The loop's invariant: the costs with the first j units stand behind the unary costs, and `at` is where they end.
-- Assumes nothing.
use Rattle.std.proofs.Common.{◌≡◌, pred, length, refl, ◌∙◌, arith, length-append, rules}
use Rattle.base.specs.Join.{join_to}
use Rattle.base.specs.Join.Laws.{join_more, join_room, join_turn}
use Rattle.base.specs.Sums.{sum_from}
use Rattle.table.specs.Stream.{units_of}
use Rattle.costs.specs.Instance.{dom_of}
use Rattle.costs.specs.Gathered.{with_other}
use Rattle.costs.specs.Gather.Steps.{values_same, gathered-parts, put-gathered}
use Rattle.costs.proofs.stream.gather_all.Goals as goal

pub pairs_at-requires : goal.pairs_at-requires
pairs_at-requires c =
    let s = c.args.stream.now in
    let e : c.sum_sizes.result ≡ sum_from (dom_of s) 0 (units_of s) = c.sum_sizes.ensures.0 ∙ rw c.from-count.ensures (values_same c.requires.0) in
    (rw c.new-opened.ensures e, omega (arith, c.sum_sizes.ensures.1))

pub put_unaries-at-requires : goal.put_unaries-at-requires
put_unaries-at-requires c = rw c.new-opened.ensures (omega (arith, c.requires.2, gathered-parts c.args.stream.now c.args.seat.own))

pub invariant_of-gathering : goal.invariant_of-gathering
invariant_of-gathering c = record { seated = rw c.new-opened.ensures c.requires.0; unit = c.requires.1; found = rw c.pairs_at.ensures.0 at c.row_starts-rows.ensures }

pub put_other-at-requires : goal.put_other-at-requires
put_other-at-requires c =
    let f = with_other c.args.stream.now (pred c.args.seat.own) in
    let room = join_room f c.loop-j.j (units_of c.args.stream.now) (omega (arith, c.requires.0.units)) in
    let whole = gathered-parts c.args.stream.now c.args.seat.own in
    let u = rw c.new-opened.ensures at c.put_unaries-at.ensures in
    let same : length c.put_unaries-at.new.out ≡ length c.args.out.now = search rules in
    (omega arith, rw c.new-opened.ensures (omega (arith, c.requires.2, u.0)))

pub loop-j-preserved : goal.loop-j-preserved
loop-j-preserved c =
    let a = c.args in
    let l = c.loop-j in
    let f = with_other a.stream.now (pred a.seat.own) in
    let u = c.put_unaries-at in
    let put = rw c.new-opened.ensures at u.ensures in
    let next = rw c.new-opened.ensures at c.put_other-at.ensures in
    let whole = gathered-parts a.stream.now a.seat.own in
    let same : length u.new.out ≡ length a.out.now = search rules in (
      rw (join_more f l.j, length-append (join_to f l.j) (f l.j)) (omega (arith, next.0)),
      next.1 ∙ join_turn f l.j u.result l.at u.new.out l.out (f l.j) (omega (arith, put.0, c.requires.2)) l.invariant.1 l.invariant.0 refl,
    )

pub returns : goal.returns
returns c =
    let a = c.args in
    let l = c.loop-j in
    let u = c.put_unaries-at in
    let e : l.j ≡ units_of a.stream.now = omega (arith, c.requires.0.units) in
    let put = rw c.new-opened.ensures at u.ensures in
    let at = rw e at l.invariant.0 in
    (omega (arith, at, put.0, gathered-parts a.stream.now a.seat.own), put-gathered a.stream.now a.seat.own u.result a.out.now u.new.out l.out put.0 put.1 (rw e at l.invariant.1))
