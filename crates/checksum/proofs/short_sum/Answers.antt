-- `short_sum` meets its contract. The loop's invariant: the total is the sum of the bytes passed. With the next byte it is the sum of one more,
-- which `block_most_lem` bounds, so nothing wraps. Assumes nothing.
use Prim.Native.Nat.{ℕ, ◌+◌, ◌*◌, ◌%◌, ◌≤◌, ◌<◌}
use mathlib.Core.List.{List}
use mathlib.Core.Path.{◌≡◌, refl, ap, ◌∙◌}
use native.Mathlib.Omega.{arith}
use borrow.Author.Rules.{rules}
use lib.ListN.{get_or, length, take}
use lib.Seq.{length-take-le, take_all}
use Rattle.base.specs.Limits.{block_size, checked_size}
use Rattle.base.specs.Bytes.Laws.{AllBytes, bytes_take}
use Rattle.checksum.specs.Sum.{weigh}
use Rattle.checksum.specs.Sum.Laws.{weigh_more}
use Rattle.checksum.specs.Quick.{block_most, block_most_lem}
use Rattle.checksum.proofs.short_sum.Goals as goal

pub loop-i-init : goal.loop-i-init
loop-i-init c = (omega arith, search rules, refl)

-- a weight is no longer than 510
weight : (i : ℕ) → i < checked_size → i % block_size + 1 ≡ i + 1
weight i h = omega arith

-- the sum with the next byte fits
fits : (s : List ℕ) (i total : ℕ) → AllBytes s → i < length s → length s ≤ checked_size → total ≡ weigh 0 (take i s) → total + (i % block_size + 1) * get_or s i 0 ≤ block_most
fits s i total b h l e =
    let n : length (take (i + 1) s) ≤ checked_size = omega (arith, length-take-le (i + 1) s (omega arith)) in
    rw (weight i (omega arith)) (omega (arith, weigh_more s i h, block_most_lem (take (i + 1) s) (bytes_take (i + 1) s b) n))

pub overflow_add-total : goal.overflow_add-total
overflow_add-total c =
    let l = c.loop-i in
    record { fits = rw c.from.ensures (omega (arith, fits c.args.bytes.now l.i l.total (λ k. (c.type_inv.bytes k).fits) (omega arith) l.invariant.1 l.invariant.2)) }

pub overflow_mul-total : goal.overflow_mul-total
overflow_mul-total c = omega (arith, (overflow_add-total c).fits)

pub loop-i-preserved : goal.loop-i-preserved
loop-i-preserved c =
    let l = c.loop-i in
    (omega arith, l.invariant.1, rw (weight l.i (omega arith), c.from.ensures) (omega (arith, weigh_more c.args.bytes.now l.i (omega arith))))

pub returns : goal.returns
returns c =
    let l = c.loop-i in
    l.invariant.2 ∙ ap (weigh 0) (take_all l.i c.args.bytes.now (omega arith))
