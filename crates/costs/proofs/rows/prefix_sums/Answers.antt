-- `prefix_sums` meets its contract. The loop's invariant: the sums are those of the first j units, and the costs with unit j begin at byte `at`.
-- Assumes nothing.
use Rattle.std.proofs.Common.{◌≡◌, ℕ, pred, ◌+◌, ◌*◌, ◌<◌, ◌≤◌, length, slice_index, ap, ◌∙◌, mul-le-mul, mul-add, arith, rules}
use Rattle.base.specs.Bytes.Laws.{AllBytes}
use Rattle.costs.specs.Lent.Parts.{dom_from, others_before}
use Rattle.costs.specs.Lent.Steps.{others-earlier}
use Rattle.costs.specs.Rows.{dom_is, sums_none, sums_more}
use Rattle.costs.proofs.rows.prefix_sums.Goals as goal
use Rattle.costs.proofs.rows.prefix_sums.Goals.{After-min-most, After-from-u}

-- how many values there are of the first 16, and that these are all that is asked for
few : (c : After-min-most) → c.min-most.result ≤ 16
few c = omega (arith, c.min-most.ensures)

within : (c : After-min-most) (i : ℕ) → i < 16 → i < c.size_of-d.result → i < c.min-most.result
within c i l b = omega (arith, c.min-most.ensures)

own-size : (c : After-min-most) → let a = c.args in c.size_of-d.result ≡ dom_from a.seat (pred a.seat.own)
own-size c = c.size_of-d.ensures.0 ∙ ap (dom_from c.args.seat) c.place.ensures.0

all-bytes : (c : After-min-most) → AllBytes c.args.costs.now
all-bytes c j = omega (arith, c.type_inv.costs j)

pub loop-j-init : goal.loop-j-init
loop-j-init c =
    let past = goal.at.loop-j-init c in
    let a = c.args in
    (omega arith, omega arith, sums_none a.seat a.costs.now a.values c.put_unaries.new.sums (all-bytes past.After-min-most) (λ i l b. c.put_unaries.ensures i (within past.After-min-most i l (omega (arith, b, own-size past.After-min-most)))))

-- a turn of the loop: where it stands, and that nothing is large
module _ (c : After-from-u) where
  below : c.loop-j.j < c.args.k
  below = c.loop-j-test.true

  products : (c.size_of-d.result * others_before c.args.seat c.loop-j.j ≤ 255 * 4080) × (c.size_of-d.result * c.size_in-e.result ≤ 255 * 255)
  products =
      let l = c.loop-j in
      let most : others_before c.args.seat l.j ≤ 4080 = omega (arith, l.invariant.1, below, c.requires.1) in
      (mul-le-mul c.size_of-d.ensures.1 most, mul-le-mul c.size_of-d.ensures.1 c.size_in-e.ensures.1)

  near : c.loop-j.at ≤ 2081310
  near = omega (arith, c.loop-j.invariant.0, products.0, c.size_of-d.ensures.1)

pub add_unit-requires : goal.add_unit-requires
add_unit-requires c =
    let past = goal.at.add_unit-requires c in
    let l = c.loop-j in
    let byte : slice_index c.args.values l.j < 256 = search rules in
    let long : length l.sums ≡ length c.args.sums.now = search rules in (
      omega (arith, long, c.requires.2),
      λ i b. let i16 : i < 16 = omega (arith, b, few past.After-min-most) in let own : i < c.size_of-d.result = omega (arith, b, c.min-most.ensures) in omega (arith, (l.invariant.2 i i16 (omega (arith, own, own-size past.After-min-most, dom_is c.args.seat c.args.costs.now c.args.values))).fits, below past.After-from-u, c.requires.1),
      few past.After-min-most,
      omega (arith, near past.After-from-u),
      c.size_of-d.ensures.1,
      omega (arith, byte),
    )

pub loop-j-preserved : goal.loop-j-preserved
loop-j-preserved c =
    let past = goal.at.loop-j-preserved c in
    let a = c.args in
    let l = c.loop-j in
    let j-below : l.j < pred a.seat.own = omega (arith, below past.After-from-u, c.requires.0) in
    let j-few : l.j ≤ 16 = omega (arith, below past.After-from-u, c.requires.1) in
    let added = c.add_unit.ensures in
    let others = others-earlier a.seat l.j j-below in
    let e : c.size_in-e.result ≡ dom_from a.seat l.j = c.size_in-e.ensures.0 in
    let product : c.size_of-d.result * (others_before a.seat l.j + c.size_in-e.result) ≡ c.size_of-d.result * others_before a.seat l.j + c.size_of-d.result * c.size_in-e.result =
    mul-add c.size_of-d.result (others_before a.seat l.j) c.size_in-e.result in (
      rw (others, ← e) (omega (arith, product, l.invariant.0)),
      omega (arith, others, e, l.invariant.1, c.size_in-e.ensures.1),
      sums_more a.seat a.costs.now a.values l.j j-few j-below (all-bytes past.After-min-most) l.sums _ l.invariant.2 c.size_of-d.result l.at c.size_in-e.result c.from-u.result c.min-most.result (own-size past.After-min-most) l.invariant.0 e c.from-u.ensures (within past.After-min-most) added,
    )
