-- `added_cost` meets its contract. The loop's invariant: the sum is the cost with the units passed, at most 60,000 for each; a forbidden pair ends it.
-- Assumes nothing.
use Prim.Native.Nat.{ℕ, ◌+◌, ◌*◌, ◌-◌, ◌≤◌}
use mathlib.Core.Path.{◌≡◌, ap, ◌∙◌}
use native.Mathlib.Omega.{arith}
use lib.ListN.{get_or}
use Rattle.base.specs.Limits.{pair_limit, forbidden_pair}
use Rattle.base.specs.Bytes.{u16_at}
use Rattle.costs.specs.Instance.{instance_of, view_of}
use Rattle.costs.specs.Bounds.{cost_with}
use Rattle.search.specs.Steps.{cost_alone, alone_small, cost_ends, cost-turn, cost_small}
use Rattle.search.proofs.added_cost.Goals as goal
use Rattle.search.proofs.added_cost.Goals.{After-u16_at-number, Else-number-eq-FORBIDDEN_PAIR}

pub loop-i-init : goal.loop-i-init
loop-i-init c =
    let read = c.u16_at-sum.ensures.0 ∙ ap (u16_at c.args.stream.now) c.unary_place.ensures in
    (cost_alone c.requires c.u16_at-sum.result read, alone_small c.requires c.u16_at-sum.result read)

pub cost_place-at-requires : goal.cost_place-at-requires
cost_place-at-requires c =
    let l = c.loop-i in
    (omega (arith, c.requires.byte), (c.requires.values l.i (omega arith)).0, omega (arith, c.requires.v1), omega (arith, c.requires.vd, c.requires.byte))

-- the number of the pair
read : (c : After-u16_at-number)
    → let a = c.args in
    let i = c.loop-i.i in
    c.u16_at-number.result ≡ u16_at a.stream.now (get_or a.starts.now (16 * a.level + i) 0 + 2 * ((get_or a.chosen i 0 - 1) * a.d + (a.v - 1)))
read c = c.u16_at-number.ensures.0 ∙ ap (u16_at c.args.stream.now) c.cost_place-at.ensures

pub returns-then-number-eq-FORBIDDEN_PAIR : goal.returns-then-number-eq-FORBIDDEN_PAIR
returns-then-number-eq-FORBIDDEN_PAIR c =
    let e : c.u16_at-number.result ≡ forbidden_pair = omega arith in
    (cost_ends c.requires c.loop-i.i (omega arith) c.u16_at-number.result (read (goal.at.returns-then-number-eq-FORBIDDEN_PAIR c).After-u16_at-number) e, tt)

-- which is at most 60,000 where it isn't forbidden
small : (c : Else-number-eq-FORBIDDEN_PAIR) → c.u16_at-number.result ≤ pair_limit
small c =
    cost_small c.requires c.loop-i.i (omega arith) c.u16_at-number.result (read (goal.at.Else-number-eq-FORBIDDEN_PAIR c).After-u16_at-number) c.if-number-eq-FORBIDDEN_PAIR.false

pub loop-i-preserved : goal.loop-i-preserved
loop-i-preserved c =
    let past = goal.at.loop-i-preserved c in
    let l = c.loop-i in
    (cost-turn c.requires l.i (omega arith) c.u16_at-number.result (read past.After-u16_at-number) c.if-number-eq-FORBIDDEN_PAIR.false l.sum l.invariant.0, omega (arith, small past.Else-number-eq-FORBIDDEN_PAIR))

pub returns : goal.returns
returns c =
    let l = c.loop-i in
    let a = c.args in
    let e : l.i ≡ a.level = omega arith in
    (l.invariant.0 ∙ ap (λ (m : ℕ). cost_with (view_of (instance_of a.stream.now) a.level) a.chosen m a.v) e, omega arith)
